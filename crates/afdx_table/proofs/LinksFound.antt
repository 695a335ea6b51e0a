-- Links are found by their numbers.
use Rattle.std.proofs.Common.{◌≡◌, ℕ, ◌<◌, ◌==◌, nat_eq, zero, suc, Bool, true, false, cond, List, [], ◌∷◌, length, map, find, get_or, Some, refl, ap, sym, ◌∙◌, arith}
use Rattle.std.specs.Prelude.{Contains}
use Rattle.std.specs.List.{IsDistinct}
use Rattle.std.proofs.lemmas.List.{length-map, get_or-map}
use Rattle.std.proofs.lemmas.List.Elements.{All-from_recursion, All-contains, Contains-append_right}
use Rattle.std.proofs.lemmas.Bool.{both_ways, eq-eqb}
use Rattle.std.proofs.lemmas.Bool.Decides.{nat_tests}
use Rattle.afdx_table.specs.Link.{Link}
use Rattle.afdx_table.specs.Inner.Found.{LinksAreFound}

equal : (a b : ℕ) → (a == b) ≡ true → a ≡ b
equal a b e = grind (arith, nat_tests)

found_by : (links : List Link) → IsDistinct nat_eq (map (λ (m : Link). m.id) links) → (l : Link) → Contains links l → find (λ m. m.id == l.id) links ≡ Some l
unfolding IsDistinct
found_by [] apart l among = absurd (let lt = among.1 in omega (arith, lt))
found_by (k ∷ links) apart l among = at (found_by links apart.1 l) among.0 among.1 among.2 where
  here : (b : Bool) → (k.id == l.id) ≡ b → k ≡ l → cond b (Some k) (find (λ (m : Link). m.id == l.id) links) ≡ Some l
  here true is same = ap Some same
  here false is same = absurd (both_ways (k.id == l.id) is (eq-eqb k.id l.id (ap (λ (m : Link). m.id) same)))

  differs : (a b : ℕ) → nat_eq a b ≡ false → (a == b) ≡ false
  differs a b h = grind (arith, nat_tests)

  there : (Contains links l → find (λ (m : Link). m.id == l.id) links ≡ Some l) → (i : ℕ) → i < length links → get_or links i l ≡ l
      → cond (k.id == l.id) (Some k) (find (λ (m : Link). m.id == l.id) links) ≡ Some l
  there ih i lt is =
      let numbers = All-from_recursion (λ n. nat_eq k.id n ≡ false) (map (λ (m : Link). m.id) links) apart.0 in
      let among : Contains (map (λ (m : Link). m.id) links) l.id =
      (i, omega (arith, length-map links (λ (m : Link). m.id), lt), get_or-map (λ (m : Link). m.id) links i l l.id lt ∙ ap (λ (m : Link). m.id) is) in
      let other = differs k.id l.id (All-contains (λ n. nat_eq k.id n ≡ false) (map (λ (m : Link). m.id) links) l.id numbers among) in
      ap (λ b. cond b (Some k) (find (λ (m : Link). m.id == l.id) links)) other ∙ ih (i, lt, is)

  at : (Contains links l → find (λ (m : Link). m.id == l.id) links ≡ Some l) → (i : ℕ) → i < length (k ∷ links) → get_or (k ∷ links) i l ≡ l → find (λ (m : Link). m.id == l.id) (k ∷ links) ≡ Some l
  at ih zero lt is = here (k.id == l.id) refl is
  at ih (suc i) lt is = there ih i (omega (arith, lt)) is

find_true : (p : Link → Bool) (links : List Link) (l : Link) → find p links ≡ Some l → (p l ≡ true) × Contains links l
find_true p [] l is = (cc)
find_true p (k ∷ links) l is = by_head (p k) refl is (find_true p links l) where
  by_head : (b : Bool) → p k ≡ b → cond b (Some k) (find p links) ≡ Some l → (find p links ≡ Some l → (p l ≡ true) × Contains links l) → (p l ≡ true) × Contains (k ∷ links) l
  by_head true here is ih = let same : k ≡ l = (cc) in (ap p (sym same) ∙ here, (0, omega arith, same))
  by_head false here is ih = let rest = ih is in (rest.0, Contains-append_right (k ∷ []) links l rest.1)

pub links_are_found : LinksAreFound
links_are_found = record {
  found = λ t well l among. found_by t.links well.links_distinct l among;
  is_row = λ t number l is. let at = find_true (λ (m : Link). m.id == number) t.links l is in (equal l.id number at.0, at.1);
}
