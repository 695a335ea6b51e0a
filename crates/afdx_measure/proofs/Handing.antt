-- What is noted agrees with the run after each call.
use Rattle.std.proofs.Common.{◌≡◌, ◌≢◌, ℕ, ◌+◌, ◌<◌, ◌≤◌, ◌==◌, Bool, true, false, cond, List, [], ◌∷◌, ◌++◌, length, take, get_or, set}
use Rattle.std.proofs.Common.{slice_get, slice_index, Option, Some, None, refl, ap, sym, ◌∙◌, arith, subst, inl, inr}
use Rattle.std.specs.declared.vec.Vec.{Vec}
use Rattle.std.proofs.lemmas.Bool.{cases_eq, eq-eqb}
use Rattle.std.proofs.lemmas.Bool.Decides.{nat_tests}
use Rattle.std.specs.Vec.{with_items}
use Rattle.std.proofs.lemmas.List.{with_items_is, length-append, length-set, get_or-set_same, get_or-set_other, take-append-le, take_more}
use Rattle.std.proofs.Math.Seq.{take-length}
use Rattle.std.proofs.lemmas.Option.{slice_get_cases, slice_get_within, get_or_from_slice_get}
use Rattle.afdx_table.specs.declared.rows.PortRow.{PortRow}
use Rattle.afdx_table.specs.Link.{Link, names_port}
use Rattle.afdx_table.specs.Content.{Content, link_place}
use Rattle.afdx_table.specs.WellFormed.{IsWellFormed}
use Rattle.afdx_port.specs.declared.Sent.{Sent}
use Rattle.afdx_port.specs.declared.Offer.{Offer}
use Rattle.afdx_core.specs.State.{Run, sent_in, next_at, after_handing}
use Rattle.afdx_core.specs.Inner.Joining.{GoesOn}
use Rattle.afdx_measure.specs.declared.delays.Delays.{Delays}
use Rattle.afdx_measure.specs.declared.gauges.AtPort.{AtPort}
use Rattle.afdx_measure.specs.declared.gauges.Gauges.{Gauges}
use Rattle.afdx_measure.specs.Delays.{delay_of, delays_of, summary_of}
use Rattle.afdx_measure.specs.Handed.{AllHandedOut}
use Rattle.afdx_measure.specs.Ports.{peak_at}
use Rattle.afdx_measure.specs.Inner.Gauged.{handed_at, IsGaugedAt, AreGauged, IsSentAt, Fill, ArePeaks, DelaysStay, asked}
use Rattle.afdx_measure.proofs.DelayLemmas.{of_the_link, of_another}
use Rattle.afdx_measure.proofs.Numbered.{passes_at, none_passes, placed}

same_number : (a b : ℕ) → (a == b) ≡ true → a ≡ b
same_number a b e = grind (arith, nat_tests)

-- ---- the run goes on, and nothing more is handed out

module _ (r now : Run) (table : now.table ≡ r.table) (handed : now.handed ≡ r.handed) (goes : GoesOn r now) where
  count_is : (k : ℕ) → slice_index now.handed k ≡ slice_index r.handed k
  count_is k = ap (λ (ns : List ℕ). slice_index ns k) handed

  still_within : (k : ℕ) (p : PortRow) → slice_index r.handed k ≤ length (sent_in r (Some p)) → slice_index now.handed k ≤ length (sent_in now (Some p))
  still_within k p le =
      let more = goes p in
      let long = ap (λ (xs : List Sent). length xs) more.1 in
      let sum = length-append (sent_in r (Some p)) more.0 in
      omega (arith, le, long, sum, count_is k)

  same_handed : (k : ℕ) (p : PortRow) → slice_index r.handed k ≤ length (sent_in r (Some p)) → handed_at now k p ≡ handed_at r k p
  same_handed k p le =
      let more = goes p in
      ap (λ (n : ℕ). take n (sent_in now (Some p))) (count_is k) ∙ ap (take (slice_index r.handed k)) more.1 ∙ take-append-le (slice_index r.handed k) (sent_in r (Some p)) more.0 le

  -- a port whose peak is known again
  pub gauged_later : {Z : Type 0} (k : ℕ) (p : PortRow) (old new : AtPort Z) → new.delays ≡ old.delays → new.peak ≡ peak_at now p → IsGaugedAt r k p old → IsGaugedAt now k p new
  gauged_later {Z} k p old new delays peak h = record {
    long = ap (λ (v : Vec Delays Z). length v.items) delays ∙ h.long ∙ sym (ap (λ (t : Content). length t.links) table);
    handed = still_within k p h.handed;
    delays = λ j l d here. ap (λ (v : Vec Delays Z). get_or v.items j d) delays ∙ h.delays j l d (sym (ap (λ (t : Content). slice_get t.links j) table) ∙ here)
        ∙ ap (λ (xs : List Sent). summary_of (delays_of l.id xs)) (sym (same_handed k p h.handed));
    peak = peak;
  }

  -- where no peak changed
  pub are_gauged_later : {Z : Type 0} (g : Gauges Z) → ((p : PortRow) → peak_at now p ≡ peak_at r p) → AreGauged r g → AreGauged now g
  are_gauged_later g peaks h = record {
    formed = subst (λ (t : Content). IsWellFormed t) (sym table) h.formed;
    counts = ap (λ (ns : List ℕ). length ns) handed ∙ h.counts ∙ sym (ap (λ (t : Content). length t.ports) table);
    many = h.many ∙ sym (ap (λ (t : Content). length t.ports) table);
    each = λ k p a here.
        let old = h.each k p a (sym (ap (λ (t : Content). slice_get t.ports k) table) ∙ here) in
        gauged_later k p (get_or g.ports.items k a) (get_or g.ports.items k a) refl (old.peak ∙ sym (peaks p)) old;
  }

  -- where the peaks of those that were asked are as they are now
  pub are_gauged_after : {Z : Type 0} (at : ℕ) (offers : List (ℕ × Offer)) (g : Gauges Z) (new : Vec (AtPort Z) Z) → Fill r now at offers → ArePeaks r now offers new.items
      → DelaysStay g.ports.items new.items → AreGauged r g → AreGauged now (record { ports = new })
  are_gauged_after at offers g new fill peaks stay h = record {
    formed = fill.formed;
    counts = ap (λ (ns : List ℕ). length ns) handed ∙ h.counts ∙ sym (ap (λ (t : Content). length t.ports) table);
    many = peaks.many;
    each = λ k p a here.
        let old = h.each k p a (sym (ap (λ (t : Content). slice_get t.ports k) table) ∙ here) in
        gauged_later k p (get_or g.ports.items k a) (get_or new.items k a) (stay.delays k a) (peaks.each k p a here ∙ by p (names_port p.id (asked offers)) refl) old;
  } where
    by : (p : PortRow) (b : Bool) → names_port p.id (asked offers) ≡ b → cond b (peak_at now p) (peak_at r p) ≡ peak_at now p
    by p true is = refl
    by p false is = sym (fill.others p is)

-- ---- one more is handed out

-- at the port of a place
record HandsOut (r : Run) (place : ℕ) (s : Sent) (p : PortRow) : Type 0 where
  count : slice_index (set r.handed place (slice_index r.handed place + 1)) place ≡ slice_index r.handed place + 1
  within : slice_index r.handed place < length (sent_in r (Some p))
  more : handed_at (after_handing place r) place p ≡ handed_at r place p ++ s ∷ []

hands_out : (r : Run) (place : ℕ) (s : Sent) (p : PortRow) → length r.handed ≡ length r.table.ports → next_at r place ≡ Some s → slice_get r.table.ports place ≡ Some p → HandsOut r place s p
hands_out r place s p counts next there =
    let sent = sent_in r (Some p) in
    let n = slice_index r.handed place in
    let within : place < length r.handed = let w = slice_get_within r.table.ports place p there in omega (arith, w, counts) in
    let count : slice_index (set r.handed place (n + 1)) place ≡ n + 1 = get_or-set_same r.handed place (n + 1) 0 within in
    let one : slice_get sent n ≡ Some s = ap (λ (o : Option PortRow). slice_get (sent_in r o) n) (sym there) ∙ next in
    record {
      count = count;
      within = slice_get_within sent n s one;
      more = ap (λ (m : ℕ). take m sent) count ∙ take_more sent n s (slice_get_within sent n s one) ∙ ap (λ (x : Sent). take n sent ++ x ∷ []) (get_or_from_slice_get sent n s s one);
    }

-- at another port nothing changes
elsewhere : {Z : Type 0} (r : Run) (place k : ℕ) (p : PortRow) (g : AtPort Z) → k ≢ place → IsGaugedAt r k p g → IsGaugedAt (after_handing place r) k p g
elsewhere r place k p g other old =
    let count : slice_index (set r.handed place (slice_index r.handed place + 1)) k ≡ slice_index r.handed k = get_or-set_other r.handed place k (slice_index r.handed place + 1) 0 other in
    record {
      long = old.long;
      handed = omega (arith, count, old.handed);
      delays = λ j l d here. old.delays j l d here ∙ ap (λ (m : ℕ). summary_of (delays_of l.id (take m (sent_in r (Some p))))) (sym count);
      peak = old.peak;
    }

-- of a link of another number nothing more was handed out
not_of_it : (r : Run) (place : ℕ) (s : Sent) (p : PortRow) (l : Link) → HandsOut r place s p → l.id ≢ s.item.link
    → delays_of l.id (handed_at r place p) ≡ delays_of l.id (handed_at (after_handing place r) place p)
not_of_it r place s p l out other = sym (ap (delays_of l.id) out.more ∙ of_another l.id (handed_at r place p) s other)

of_it : (r : Run) (place : ℕ) (s : Sent) (p : PortRow) (l : Link) → HandsOut r place s p → l.id ≡ s.item.link
    → delays_of l.id (handed_at r place p) ++ delay_of s ∷ [] ≡ delays_of l.id (handed_at (after_handing place r) place p)
of_it r place s p l out same =
    sym (ap (delays_of l.id) out.more ∙ subst (λ (i : ℕ). delays_of i (handed_at r place p ++ s ∷ []) ≡ delays_of i (handed_at r place p) ++ delay_of s ∷ []) (sym same)
    (of_the_link (handed_at r place p) s))

module _ {Z : Type 0} (r : Run) (place : ℕ) (s : Sent) (g : Gauges Z) (h : AreGauged r g) (next : next_at r place ≡ Some s) where
  -- whatever is noted, if the port that handed it out is gauged with it, and the others are as they were
  all_gauged : (new : Vec (AtPort Z) Z) → length new.items ≡ length g.ports.items → ((k : ℕ) (a : AtPort Z) → k ≢ place → get_or new.items k a ≡ get_or g.ports.items k a)
      → ((p : PortRow) (a : AtPort Z) → slice_get r.table.ports place ≡ Some p → HandsOut r place s p → IsGaugedAt (after_handing place r) place p (get_or new.items place a))
      → AreGauged (after_handing place r) (record { ports = new })
  all_gauged new long others gauged = record {
    formed = h.formed;
    counts = length-set r.handed place (slice_index r.handed place + 1) ∙ h.counts;
    many = long ∙ h.many;
    each = λ k p a there. elim (cases_eq k place) [
      | inl same ↦
          let at : slice_get r.table.ports place ≡ Some p = ap (slice_get r.table.ports) (sym same) ∙ there in
          subst (λ (i : ℕ). IsGaugedAt (after_handing place r) i p (get_or new.items i a)) (sym same) (gauged p a at (hands_out r place s p h.counts next at))
      | inr other ↦ subst (IsGaugedAt (after_handing place r) k p) (sym (others k a other)) (elsewhere r place k p (get_or g.ports.items k a) other (h.each k p a there))
    ];
  }

  pub are_gauged_with : (link : ℕ) (new : Vec (AtPort Z) Z) → link_place r.table s.item.link ≡ Some link → IsSentAt place link s g.ports.items new.items
      → AreGauged (after_handing place r) (record { ports = new })
  are_gauged_with link new link_is noted = all_gauged new noted.long noted.others (λ p a there out.
      let old = h.each place p a there in
      record {
        long = noted.many a ∙ old.long;
        handed = omega (arith, out.count, out.within);
        delays = λ j l d here. elim (cases_eq j link) [
          | inl same ↦
              let at : slice_get r.table.links link ≡ Some l = ap (slice_get r.table.links) (sym same) ∙ here in
              let id : l.id ≡ s.item.link = same_number l.id s.item.link (passes_at (λ (m : Link). m.id == s.item.link) r.table.links link l link_is at) in
              let in_list : link < length (get_or g.ports.items place a).delays.items = let w = slice_get_within r.table.links link l at in omega (arith, w, old.long) in
              let port_in_list : place < length g.ports.items = let w = slice_get_within r.table.ports place p there in omega (arith, w, h.many) in
              ap (λ (i : ℕ). get_or (get_or new.items place a).delays.items i d) same ∙ noted.here a d (delays_of l.id (handed_at r place p)) port_in_list in_list (old.delays link l d at)
              ∙ ap summary_of (of_it r place s p l out id)
          | inr other ↦
              let apart : l.id ≢ s.item.link = λ e. other (sym (placed (λ (m : Link). m.id) r.table.links h.formed.links_distinct s.item.link link j l link_is here e)) in
              noted.other_links a j d other ∙ old.delays j l d here ∙ ap summary_of (not_of_it r place s p l out apart)
        ];
        peak = noted.peak a ∙ old.peak;
      })

  -- where the link is not of the table, nothing is noted
  pub are_gauged_without : link_place r.table s.item.link ≡ None → AreGauged (after_handing place r) g
  are_gauged_without none = all_gauged g.ports refl (λ k a other. refl) (λ p a there out.
      let old = h.each place p a there in
      record {
        long = old.long;
        handed = omega (arith, out.count, out.within);
        delays = λ j l d here.
            let apart : l.id ≢ s.item.link = λ e. differ (none_passes (λ (m : Link). m.id == s.item.link) r.table.links j l none here) (eq-eqb l.id s.item.link e) in
            old.delays j l d here ∙ ap summary_of (not_of_it r place s p l out apart);
        peak = old.peak;
      }) where
        differ : {b : Bool} → b ≡ false → b ≡ true → ⊥
        differ fails passes = absurd (cc)

-- as it is noted in a list
pub noted_with : {Z : Type 0} (r : Run) (place link : ℕ) (s : Sent) (v : Vec (AtPort Z) Z) (old new : List (AtPort Z)) → AreGauged r (record { ports = v }) → next_at r place ≡ Some s → old ≡ v.items
    → link_place r.table s.item.link ≡ Some link → IsSentAt place link s old new → AreGauged (after_handing place r) (record { ports = with_items v new })
noted_with {Z} r place link s v old new h next is link_is noted =
    let items_is = with_items_is v new (noted.long ∙ ap (λ (xs : List (AtPort Z)). length xs) is ∙ sym v.ok.0) in
    are_gauged_with r place s (record { ports = v }) h next link (with_items v new) link_is
    (subst (λ (xs : List (AtPort Z)). IsSentAt place link s xs (with_items v new).items) is (subst (IsSentAt place link s old) (sym items_is) noted))

-- ---- in the end

pub all_handed : (r : Run) (place : ℕ) (p : PortRow) → AllHandedOut r → slice_get r.table.ports place ≡ Some p → slice_index r.handed place ≤ length (sent_in r (Some p))
    → handed_at r place p ≡ sent_in r (Some p)
all_handed r place p all there le =
    let sent = sent_in r (Some p) in
    let n = slice_index r.handed place in
    let none : slice_get sent n ≡ None = ap (λ (o : Option PortRow). slice_get (sent_in r o) n) (sym there) ∙ all place in
    elim ((slice_get_cases sent n).1) [
      | inl there ↦ absurd (let some = there.2 in (cc))
      | inr past ↦
          let same : n ≡ length sent = let ge = past.0 in omega (arith, le, ge) in
          ap (λ (m : ℕ). take m sent) same ∙ take-length sent
    ]
