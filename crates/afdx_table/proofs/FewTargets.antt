-- A link leads to at most as many ports as there are.
use Rattle.std.proofs.Common.{◌≡◌, ℕ, ◌≤◌, nat_eq, ◌||◌, Bool, true, false, List, [], ◌∷◌, length, map, refl, ap, sym, ◌∙◌, subst, arith}
use Rattle.std.specs.List.{AllByRecursion, list_any}
use Rattle.std.proofs.lemmas.Cmp.{nat_eq_equiv}
use Rattle.std.proofs.lemmas.Bool.{eqb-true}
use Rattle.std.proofs.lemmas.List.{length-map}
use Rattle.std.proofs.lemmas.Map.Made.{length-le_from_is_member}
use Rattle.afdx_table.specs.Ports.{has_port}
use Rattle.afdx_table.specs.WellFormed.{AreTargets}
use Rattle.afdx_table.specs.declared.rows.PortRow.{PortRow}

-- a port of the table is one of its numbers
numbered : (q : ℕ) (ports : List PortRow) → has_port ports q ≡ list_any (nat_eq q) (map (λ (p : PortRow). p.id) ports)
numbered q [] = refl
numbered q (p ∷ ports) =
    ap (λ b. b || has_port ports q) (nat_eq_equiv.symm p.id q)
    ∙ ap (λ b. nat_eq q p.id || b) (numbered q ports)

member : (ports : List PortRow) (to : List ℕ) (q : ℕ) → AllByRecursion (λ p. has_port ports p ≡ true) to → list_any (nat_eq q) to ≡ true
    → list_any (nat_eq q) (map (λ (p : PortRow). p.id) ports) ≡ true
member ports [] q all is = (cc)
member ports (p ∷ to) q all is = by_test (nat_eq q p) refl (λ more. member ports to q all.1 more) where
  by_test : (b : Bool) → nat_eq q p ≡ b → (list_any (nat_eq q) to ≡ true → list_any (nat_eq q) (map (λ (r : PortRow). r.id) ports) ≡ true)
      → list_any (nat_eq q) (map (λ (r : PortRow). r.id) ports) ≡ true
  by_test true here later = sym (numbered q ports) ∙ subst (λ n. has_port ports n ≡ true) (sym (eqb-true q p here)) all.0
  by_test false other later = later (ap (λ b. b || list_any (nat_eq q) to) (sym other) ∙ is)

pub few_targets : (ports : List PortRow) (from : ℕ) (to : List ℕ) → AreTargets ports from to → length ports ≤ 24 → length to ≤ 24
few_targets ports from to are few =
    let le = length-le_from_is_member nat_eq_equiv to (map (λ (p : PortRow). p.id) ports) are.once (λ q is. member ports to q are.are_ports is) in
    omega (arith, le, length-map ports (λ (p : PortRow). p.id), few)
