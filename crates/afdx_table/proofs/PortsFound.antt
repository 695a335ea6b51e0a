-- Ports are found by their numbers.
use Rattle.std.proofs.Common.{◌≡◌, ℕ, zero, suc, ◌<◌, ◌==◌, Bool, cond, List, [], ◌∷◌, length, find, get_or, Some, refl, ap, subst, ◌∙◌, arith}
use Rattle.std.specs.List.{AllByRecursion}
use Rattle.std.proofs.lemmas.Bool.{eq-eqb, ne_eqb}
use Rattle.afdx_table.specs.declared.rows.PortRow.{PortRow}
use Rattle.afdx_table.specs.WellFormed.{Rises}
use Rattle.afdx_table.specs.Inner.Found.{PortsAreFound}

above_at : (n : ℕ) (ports : List PortRow) (i : ℕ) (d : PortRow) → AllByRecursion (λ (q : PortRow). n < q.id) ports → i < length ports → n < (get_or ports i d).id
above_at n [] i d all lt = absurd (omega (arith, lt))
above_at n (q ∷ qs) zero d all lt = all.0
above_at n (q ∷ qs) (suc i) d all lt = above_at n qs i d all.1 (omega (arith, lt))

found_at : (ports : List PortRow) (i : ℕ) (d : PortRow) → Rises ports → i < length ports → find (λ (p : PortRow). p.id == (get_or ports i d).id) ports ≡ Some (get_or ports i d)
found_at [] i d rises lt = absurd (omega (arith, lt))
found_at (p ∷ ps) zero d rises lt = ap (λ (b : Bool). cond b (Some p) (find (λ (x : PortRow). x.id == p.id) ps)) (eq-eqb p.id p.id refl)
found_at (p ∷ ps) (suc i) d rises lt =
    ap (λ (b : Bool). cond b (Some p) (find (λ (x : PortRow). x.id == (get_or ps i d).id) ps))
    (ne_eqb p.id (get_or ps i d).id (λ e. omega (arith, e, above_at p.id ps i d rises.0 (omega (arith, lt)))))
    ∙ found_at ps i d rises.1 (omega (arith, lt))

pub ports_are_found : PortsAreFound
ports_are_found t well p among = subst (λ (q : PortRow). find (λ (x : PortRow). x.id == q.id) t.ports ≡ Some q) among.2 (found_at t.ports among.0 p well.ports_rise among.1)
