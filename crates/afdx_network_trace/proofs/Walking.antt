-- A step back to a frame's first switch, and the numbers of all switches.
use Rattle.std.proofs.Common.{◌≡◌, ℕ, zero, suc, ◌-◌, ◌<◌, ◌≤◌, List, [], ◌∷◌, ◌++◌, map, length, get_or, slice_get, Option, Some, None, refl, ap, sym, ◌∙◌, subst, arith, inl, inr}
use Rattle.std.specs.Prelude.{Vec, option_map}
use Rattle.std.proofs.lemmas.Bool.{cases_lt}
use Rattle.std.proofs.lemmas.List.{length-map, length-append, get_or_append_left}
use Rattle.std.proofs.lemmas.Option.{same_Some, slice_get-map, slice_get_within, get_or_from_slice_get}
use Rattle.afdx_core.specs.declared.step.Row.{Row}
use Rattle.afdx_core.specs.State.{State}
use Rattle.afdx_network_check.specs.Net.{Network}
use Rattle.afdx_network_trace.specs.First.{wire_of, first_by, first_within, AreFirstNumbers, HaveFirstNumbers}

less_one : (n : ℕ) → n ≡ suc n - 1
less_one n = omega arith

pub first_step : (n : ℕ) (net : Network) (runs : List State) (switch number : ℕ) → 1 ≤ n
    → first_within n net runs switch number ≡ first_by (first_within (n - 1) net runs) runs switch number (wire_of net runs switch number)
first_step zero net runs switch number some = absurd (omega (arith, some))
first_step (suc n) net runs switch number some = ap (λ (m : ℕ). first_by (first_within m net runs) runs switch number (wire_of net runs switch number)) (less_one n)

-- what is so of each of some, and of one more, is so of all of them
pub each_pushed : {X : Type 0} (P : ℕ → X → Type 0) (xs ys : List X) (x : X) → ys ≡ xs ++ x ∷ [] → ((k : ℕ) (d : X) → k < length xs → P k (get_or xs k d)) → P (length xs) x
    → (k : ℕ) (d : X) → k < length ys → P k (get_or ys k d)
each_pushed {X} P xs ys x grown before here k d lt =
    subst (λ (zs : List X). P k (get_or zs k d)) (sym grown) (elim (cases_lt k (length xs)) [
      | inl less ↦ subst (P k) (sym (get_or_append_left xs (x ∷ []) d k less)) (before k d less)
      | inr le ↦
          let long = ap (λ (zs : List X). length zs) grown ∙ length-append xs (x ∷ []) in
          let same : length xs ≡ k = omega (arith, le, lt, long) in
          subst (λ (i : ℕ). P i (get_or (xs ++ x ∷ []) i d)) same (subst (P (length xs)) (sym (last xs)) here)
    ]) where
      last : (zs : List X) → get_or (zs ++ x ∷ []) (length zs) d ≡ x
      last [] = refl
      last (z ∷ zs) = last zs

-- those at the switch that is read
pub one_switch : (net : Network) (runs : List State) (k switch : ℕ) (done s : State) (rows : List Row) (firsts : List (Option ℕ)) → k ≡ switch → done ≡ get_or runs switch done
    → rows ≡ done.run.rows → slice_get runs k ≡ Some s → AreFirstNumbers net runs switch rows firsts → AreFirstNumbers net runs k s.run.rows firsts
one_switch net runs k switch done s rows firsts same is rows_are there are =
    let found : done ≡ s = is ∙ ap (λ n. get_or runs n done) (sym same) ∙ get_or_from_slice_get runs k s done there in
    subst (λ n. AreFirstNumbers net runs n s.run.rows firsts) (sym same)
    (subst (λ (rs : List Row). AreFirstNumbers net runs switch rs firsts) (rows_are ∙ ap (λ (x : State). x.run.rows) found) are)

-- the numbers of each switch, as lists
pub have_numbers : {Z : Type 0} (net : Network) (runs : List State) (vs : List (Vec (Option ℕ) Z)) → length vs ≡ length runs
    → ((k : ℕ) (v : Vec (Option ℕ) Z) → k < length vs → (s : State) → slice_get runs k ≡ Some s → AreFirstNumbers net runs k s.run.rows (get_or vs k v).items)
    → HaveFirstNumbers net runs (map (λ (v : Vec (Option ℕ) Z). v.items) vs)
have_numbers {Z} net runs vs many each = record {
  many = length-map vs items ∙ many;
  each = λ k s all run at. by k s all run (slice_get vs k) refl (sym (slice_get-map items vs k) ∙ at);
} where
  items : Vec (Option ℕ) Z → List (Option ℕ)
  items = λ v. v.items

  by : (k : ℕ) (s : State) (all : List (Option ℕ)) → slice_get runs k ≡ Some s → (o : Option (Vec (Option ℕ) Z)) → slice_get vs k ≡ o → option_map items o ≡ Some all
      → AreFirstNumbers net runs k s.run.rows all
  by k s all run None is at = absurd cc
  by k s all run (Some v) is at =
      subst (AreFirstNumbers net runs k s.run.rows) (ap items (get_or_from_slice_get vs k v v is) ∙ same_Some (items v) all at) (each k v (slice_get_within vs k v is) s run)
