-- What is in a list, and what is found there.
use Rattle.std.proofs.Common.{◌≡◌, ℕ, zero, suc, ◌<◌, ◌==◌, Bool, true, false, cond, List, [], ◌∷◌, length, find, get_or, slice_get, Some, refl, ap, sym, ◌∙◌, arith, subst}
use Rattle.std.specs.Prelude.{All, Contains}
use Rattle.std.specs.List.{AllByRecursion}
use Rattle.std.proofs.lemmas.List.Elements.{All-from_recursion, All-contains}
use Rattle.std.proofs.lemmas.Option.{same_Some, slice_get_within, get_or_from_slice_get}
use Rattle.std.proofs.lemmas.Bool.{eq-eqb, ne_eqb}
use Rattle.afdx_table.specs.declared.rows.PortRow.{PortRow}
use Rattle.afdx_table.specs.Content.{Content, port_row}
use Rattle.afdx_table.specs.WellFormed.{Rises, IsWellFormed}

-- ---- at a place

pub all_at : {X : Type 0} (P : X → Type 0) (xs : List X) (n : ℕ) (x : X) → All P xs → slice_get xs n ≡ Some x → P x
all_at P xs n x all is = subst P (get_or_from_slice_get xs n x x is) (all n x (slice_get_within xs n x is))

-- ---- elements

pub contains_head : {X : Type 0} (xs : List X) (x y : X) → y ≡ x → Contains (y ∷ xs) x
contains_head xs x y is = (0, omega arith, is)

pub contains_tail : {X : Type 0} (xs : List X) (x y : X) → Contains xs x → Contains (y ∷ xs) x
contains_tail xs x y among = let within = among.1 in (suc among.0, omega (arith, within), among.2)

-- what holds of each element of a list holds of all by recursion
pub all_by : {X : Type 0} (P : X → Type 0) (xs : List X) → ((x : X) → Contains xs x → P x) → AllByRecursion P xs
all_by P [] each = tt
all_by P (x ∷ xs) each = (each x (contains_head xs x x refl), all_by P xs (λ y among. each y (contains_tail xs y x among)))

pub of_all : {X : Type 0} (P : X → Type 0) (xs : List X) (x : X) → AllByRecursion P xs → Contains xs x → P x
of_all P xs x all among = All-contains P xs x (All-from_recursion P xs all) among

-- what is found passes the test, and is there
pub found_passes : {X : Type 0} (p : X → Bool) (xs : List X) (x : X) → find p xs ≡ Some x → (p x ≡ true) × Contains xs x
found_passes p [] x is = absurd cc
found_passes p (y ∷ ys) x is = by (found_passes p ys x) (p y) refl is where
  by : (find p ys ≡ Some x → (p x ≡ true) × Contains ys x) → (b : Bool) → p y ≡ b → cond b (Some y) (find p ys) ≡ Some x → (p x ≡ true) × Contains (y ∷ ys) x
  by rest true passes is = (subst (λ z. p z ≡ true) (same_Some y x is) passes, contains_head ys x y (same_Some y x is))
  by rest false fails is = let there = rest is in (there.0, contains_tail ys x y there.1)

-- ---- ports of a table

port_found : (ports : List PortRow) (p : PortRow) → Rises ports → (k : ℕ) → k < length ports → get_or ports k p ≡ p → find (λ (q : PortRow). q.id == p.id) ports ≡ Some p
port_found [] p rises k within at = absurd (omega (arith, within))
port_found (q ∷ ports) p rises zero within at =
    ap (λ b. cond b (Some q) (find (λ (other : PortRow). other.id == p.id) ports)) (eq-eqb q.id p.id (ap (λ (other : PortRow). other.id) at)) ∙ ap Some at
port_found (q ∷ ports) p rises (suc k) within at =
    let less : q.id < p.id = of_all (λ (other : PortRow). q.id < other.id) ports p rises.0 (k, omega (arith, within), at) in
    ap (λ b. cond b (Some q) (find (λ (other : PortRow). other.id == p.id) ports)) (ne_eqb q.id p.id (λ same. omega arith)) ∙ port_found ports p rises.1 k (omega (arith, within)) at

pub ports_are_found : (t : Content) (p : PortRow) → IsWellFormed t → Contains t.ports p → port_row t p.id ≡ Some p
ports_are_found t p formed among = port_found t.ports p formed.ports_rise among.0 among.1 among.2

-- ports of one number are one
pub one_port : (t : Content) (p q : PortRow) → IsWellFormed t → Contains t.ports p → Contains t.ports q → p.id ≡ q.id → p ≡ q
one_port t p q formed here there same = same_Some p q (sym (ports_are_found t p formed here) ∙ ap (port_row t) same ∙ ports_are_found t q formed there)
