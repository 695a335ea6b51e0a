-- The link at a place is found there by its number.
use Rattle.std.proofs.Common.{◌≡◌, ℕ, zero, suc, ◌+◌, ◌==◌, cond, Bool, true, false, nat_eq, List, [], ◌∷◌, map, length, Option, Some, None, refl, ap, subst, ◌∙◌, arith}
use Rattle.std.specs.Prelude.{option_map, slice_get}
use Rattle.std.specs.List.{AllByRecursion, IsDistinct, position, position_or_len}
use Rattle.std.proofs.lemmas.Bool.{eq-eqb, lt-ltb}
use Rattle.std.proofs.lemmas.Bool.Decides.{nat_tests}
use Rattle.std.proofs.lemmas.Option.{same_Some, slice_get-map, slice_get_within}
use Rattle.afdx_table.specs.Link.{Link}
use Rattle.afdx_table.specs.Content.{Content, link_place}
use Rattle.afdx_table.specs.WellFormed.{IsWellFormed}

all_at : {X : Type 0} (P : X → Type 0) (xs : List X) (k : ℕ) (x : X) → slice_get xs k ≡ Some x → AllByRecursion P xs → P x
all_at P [] k x get all = absurd (let none = get in cc)
all_at {X} P (y ∷ xs) zero x get all = subst P (let same : y ≡ x = cc in same) all.0
all_at P (y ∷ xs) (suc k) x get all = all_at P xs k x get all.1

differs : (a b : ℕ) → nat_eq a b ≡ false → (a == b) ≡ false
differs a b h = grind (arith, nat_tests)

position_at : (links : List Link) → IsDistinct nat_eq (map (λ (l : Link). l.id) links) → (k : ℕ) (l : Link) → slice_get links k ≡ Some l → position_or_len (λ x. x.id == l.id) links ≡ k
unfolding IsDistinct
position_at [] distinct k l get = absurd (let never = get in cc)
position_at (x ∷ links) distinct zero l get = rw (eq-eqb x.id l.id (ap (λ (y : Link). y.id) (same_Some x l get))) refl
position_at (x ∷ links) distinct (suc k) l get =
    let at : slice_get (map (λ (y : Link). y.id) links) k ≡ Some l.id = slice_get-map (λ (y : Link). y.id) links k ∙ ap (λ (y : Option Link). option_map (λ (z : Link). z.id) y) get in
    let other : (x.id == l.id) ≡ false = differs x.id l.id (all_at (λ n. nat_eq x.id n ≡ false) (map (λ (y : Link). y.id) links) k l.id at distinct.0) in
    let rest = position_at links distinct.1 k l get in
    let next : 1 + position_or_len (λ (y : Link). y.id == l.id) links ≡ suc k = omega (arith, rest) in
    rw other next

-- a link of a table is at its place by its number
pub place_at : (t : Content) → IsWellFormed t → (k : ℕ) (l : Link) → slice_get t.links k ≡ Some l → link_place t l.id ≡ Some k
place_at t well k l get =
    let is = position_at t.links well.links_distinct k l get in
    let lt = slice_get_within t.links k l get in
    ap (λ (b : Bool). cond b (Some (position_or_len (λ (x : Link). x.id == l.id) t.links)) None)
    (lt-ltb (position_or_len (λ (x : Link). x.id == l.id) t.links) (length t.links) (omega (arith, is, lt))) ∙ ap (λ (n : ℕ). Some n) is
