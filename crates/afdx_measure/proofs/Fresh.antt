-- What is noted agrees with a run that has taken nothing.
use Rattle.std.proofs.Common.{◌≡◌, ℕ, ◌<◌, List, [], ◌∷◌, ◌++◌, length, map, take, get_or, slice_get, slice_index, Some, None, refl, ap, sym, ◌∙◌, arith, subst, inl, inr}
use Rattle.std.specs.declared.vec.Vec.{Vec}
use Rattle.std.proofs.lemmas.Bool.{cases_lt}
use Rattle.std.proofs.lemmas.List.{get_or-map, length-map, length-append, get_or_append_left}
use Rattle.std.proofs.lemmas.Option.{slice_get_within, same_Some}
use Rattle.afdx_units.specs.Time.{bag_ns}
use Rattle.afdx_table.specs.declared.rows.PortRow.{PortRow}
use Rattle.afdx_table.specs.Link.{Link}
use Rattle.afdx_table.specs.Content.{Content}
use Rattle.afdx_core.specs.Rows.{feed_of}
use Rattle.afdx_core.specs.State.{fresh_run, sent_in}
use Rattle.afdx_spells.specs.Spells.{Noted, spells_of}
use Rattle.afdx_measure.specs.declared.gauges.AtPort.{AtPort}
use Rattle.afdx_measure.specs.Delays.{delays_of, summary_of}
use Rattle.afdx_measure.specs.Ports.{peak_at}
use Rattle.afdx_measure.specs.Inner.Gauged.{AreFresh, AreGauged}

-- what is so of each of some, and of one more, is so of all of them
pub each_pushed : {X : Type 0} (P : ℕ → X → Type 0) (xs ys : List X) (x : X) → ys ≡ xs ++ x ∷ [] → ((k : ℕ) (d : X) → k < length xs → P k (get_or xs k d)) → P (length xs) x
    → (k : ℕ) (d : X) → k < length ys → P k (get_or ys k d)
each_pushed {X} P xs ys x grown before here k d lt =
    subst (λ (zs : List X). P k (get_or zs k d)) (sym grown) (elim (cases_lt k (length xs)) [
      | inl less ↦ subst (P k) (sym (get_or_append_left xs (x ∷ []) d k less)) (before k d less)
      | inr le ↦
          let long = ap (λ (zs : List X). length zs) grown ∙ length-append xs (x ∷ []) in
          let same : length xs ≡ k = omega (arith, le, lt, long) in
          subst (λ (i : ℕ). P i (get_or (xs ++ x ∷ []) i d)) same (subst (P (length xs)) (sym (last xs)) here)
    ]) where
      last : (zs : List X) → get_or (zs ++ x ∷ []) (length zs) d ≡ x
      last [] = refl
      last (z ∷ zs) = last zs

no_peak : (t : Content) (p : PortRow) → peak_at (fresh_run t) p ≡ None
unfolding feed_of
no_peak t p = refl

pub fresh_gauges : {Z : Type 0} (t : Content) (ports : Vec (AtPort Z) Z) → AreFresh t ports.items → AreGauged (fresh_run t) (record { ports = ports })
fresh_gauges t ports h = record {
  formed = h.formed;
  counts = length-map t.ports (λ (p : PortRow). 0);
  many = h.many;
  each = λ k p a here.
      let row = slice_get_within t.ports k p here in
      let within : k < length ports.items = omega (arith, row, h.many) in
      let fresh = h.each k a within in
      let none : slice_index (map (λ (q : PortRow). 0) t.ports) k ≡ 0 = get_or-map (λ (q : PortRow). 0) t.ports k p 0 row in
      record {
        long = fresh.long;
        handed = omega (arith, none);
        delays = λ j l d there. fresh.none j d (slice_get_within t.links j l there)
            ∙ ap (λ (n : ℕ). summary_of (delays_of l.id (take n (sent_in (fresh_run t) (Some p))))) (sym none);
        peak = fresh.peak ∙ sym (no_peak t p);
      };
}

-- the spells of one link more
pub new_spells : (links : List Link) (place n : ℕ) (l m : Link) (noted : Noted) → noted.gap ≡ bag_ns l.bag → noted.spells ≡ [] → slice_get links place ≡ Some l → n ≡ place
    → slice_get links n ≡ Some m → (noted.gap ≡ bag_ns m.bag) × (noted.spells ≡ [])
new_spells links place n l m noted gap none there same here =
    let is : l ≡ m = same_Some l m (sym there ∙ ap (slice_get links) (sym same) ∙ here) in
    (gap ∙ ap (λ (x : Link). bag_ns x.bag) is, none)

-- no frame was policed
pub no_spells : (gap : ℕ) → spells_of gap [] ≡ []
unfolding spells_of
no_spells gap = refl
