-- What comes in at ports: of one more.
use Rattle.std.proofs.Common.{◌≡◌, ◌<◌, ◌-◌, ◌+◌, ℕ, zero, suc, Bool, List, [], ◌∷◌, ◌++◌, length, slice_get, Option, Some, refl, ap, sym, ◌∙◌, arith, inl, inr, subst}
use Rattle.std.proofs.lemmas.Bool.{cases_lt}
use Rattle.std.proofs.lemmas.List.{length-append}
use Rattle.std.proofs.lemmas.Option.{same_Some}
use Rattle.afdx_wiring.specs.declared.layout.End.{End}
use Rattle.afdx_wiring.specs.File.{Layout, is_down}
use Rattle.afdx_network.specs.declared.outage.Incoming.{Incoming}
use Rattle.afdx_network.specs.Outage.{coming, comes, AreComing}
use Rattle.afdx_network.proofs.Handed.{front_is, rest_is}

alone : {X : Type 0} (x y : X) (k : ℕ) → slice_get (x ∷ []) k ≡ Some y → (k ≡ 0) × (x ≡ y)
alone x y zero is = (refl, same_Some x y is)
alone x y (suc k) is = absurd cc

pub one_coming : {R : Type 0} (remaining : R → Option (List ℕ)) (l : Layout) (ends : List End) (readers : List R) (all : List (Incoming R)) (e : End) (r : R) (i : Incoming R)
    → AreComing remaining l ends readers all → slice_get ends (length all) ≡ Some e → coming remaining i ≡ comes remaining (is_down l.switches e.switch) r
    → AreComing remaining l ends (readers ++ r ∷ []) (all ++ i ∷ [])
one_coming {R} remaining l ends readers all e r i c here one = record {
  many = let same = c.many in omega (arith, same, length-append all (i ∷ []), length-append readers (r ∷ []));
  each = λ place f q j at of is. elim (cases_lt place (length all)) [
    | inl within ↦
        c.each place f q j at (sym (front_is readers (r ∷ []) place (let same = c.many in omega (arith, within, same))) ∙ of) (sym (front_is all (i ∷ []) place within) ∙ is)
    | inr past ↦
        let last = alone i j (place - length all) (sym (rest_is all (i ∷ []) place (length all) refl past) ∙ is) in
        let reader = alone r q (place - length all) (sym (rest_is readers (r ∷ []) place (length all) c.many past) ∙ of) in
        let number : place ≡ length all = let none = last.0 in omega (arith, none, past) in
        let end : e ≡ f = same_Some e f (sym here ∙ ap (slice_get ends) (sym number) ∙ at) in
        subst (λ (x : Incoming R). coming remaining x ≡ comes remaining (is_down l.switches f.switch) q) last.1
        (subst (λ (x : R). coming remaining i ≡ comes remaining (is_down l.switches f.switch) x) reader.1
        (subst (λ (x : End). coming remaining i ≡ comes remaining (is_down l.switches x.switch) r) end one))
  ];
}

-- the port of the next reader is there
pub next_end : {R X : Type 0} (yielded rest readers : List R) (r : R) (all : List X) (ends : List End) → yielded ++ r ∷ rest ≡ readers → length all ≡ length yielded → length readers ≡ length ends
    → length all < length ends
next_end {R} yielded rest readers r all ends whole many same = omega (arith, many, same, ap (λ (items : List R). length items) whole, length-append yielded (r ∷ rest))
