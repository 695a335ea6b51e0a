-- Chains of rules that nothing breaks: each is kept.
use Rattle.std.proofs.Common.{◌≡◌, ℕ, suc, ◌+◌, ◌<◌, Bool, true, false, not, List, [], ◌∷◌, ◌++◌, length, map, drop, get_or, Ok, Err, refl, ap, sym, ◌∙◌, add-one, arith}
use Rattle.std.proofs.Math.Seq.{drop-cons}
use Rattle.std.specs.Prelude.{All, Result}
use Rattle.std.specs.List.{AllByRecursion}
use Rattle.std.proofs.lemmas.List.Elements.{All-nil, All-append, All-map, All-weaker, Contains-get_or}
use Rattle.afdx_table.specs.Link.{Link}
use Rattle.afdx_table.specs.Content.{Content}
use Rattle.afdx_wiring.specs.declared.fault.At.{At}
use Rattle.afdx_wiring.specs.declared.fault.At.TheVariants as place
use Rattle.afdx_wiring.specs.declared.fault.NetworkFault.{NetworkFault}
use Rattle.afdx_wiring.specs.declared.layout.Wire.{Wire}
use Rattle.afdx_wiring.specs.Refusal.{◌>>=◌, unless}
use Rattle.afdx_network_check.specs.Net.{Row, row_in, rows_in, rows_from, IsRowOf}
use Rattle.afdx_network_check.specs.Order.{Answer, first_of, by_wires}

-- a rule that is kept
abbrev pub fine : Answer
fine = Ok tt

-- ---- steps

pub first_kept : {X : Type 0} (a : Answer) (rest : Unit {0} → Result X NetworkFault) (x : X) → (a >>= rest) ≡ Ok x → a ≡ Ok tt
first_kept (Ok tt) rest x h = refl
first_kept (Err e) rest x h = absurd cc

pub rest_kept : {X : Type 0} (a : Answer) (rest : Unit {0} → Result X NetworkFault) (x : X) → (a >>= rest) ≡ Ok x → rest tt ≡ Ok x
rest_kept (Ok tt) rest x h = h
rest_kept (Err e) rest x h = absurd cc

pub unless_not : (b : Bool) (e : NetworkFault) → unless (not b) e ≡ Ok tt → b ≡ true
unless_not true e h = refl
unless_not false e h = absurd cc

pub unless_so : (b : Bool) (e : NetworkFault) → unless b e ≡ Ok tt → b ≡ false
unless_so true e h = absurd cc
unless_so false e h = refl

-- ---- one after another

pub wires_kept : (rule : At → Wire → Answer) (P : Wire → Type 0) → ((at : At) (w : Wire) → rule at w ≡ Ok tt → P w) → (n : ℕ) (ws : List Wire)
    → by_wires rule n ws ≡ Ok tt → AllByRecursion P ws
wires_kept rule P each n [] h = tt
wires_kept rule P each n (w ∷ ws) h =
    let rest : Unit {0} → Answer = λ _. by_wires rule (n + 1) ws in
    (each (place.Wire (n + 1)) w (first_kept (rule (place.Wire (n + 1)) w) rest tt h), wires_kept rule P each (n + 1) ws (rest_kept (rule (place.Wire (n + 1)) w) rest tt h))

pub all_kept : {X : Type 0} (rule : X → Answer) (xs : List X) → first_of rule xs ≡ Ok tt → AllByRecursion (λ x. rule x ≡ Ok tt) xs
all_kept rule [] h = tt
all_kept rule (x ∷ xs) h =
    let rest : Unit {0} → Answer = λ _. first_of rule xs in
    (first_kept (rule x) rest tt h, all_kept rule xs (rest_kept (rule x) rest tt h))

-- ---- by row

-- the row of the link at a place, before those of the rest
pub next_row : (n : ℕ) (ls : List Link) (i : ℕ) (l : Link) → i < length ls → l ≡ get_or ls i l → rows_in n (drop i ls) ≡ row_in n l ∷ rows_in n (drop (i + 1) ls)
next_row n ls i l within is = ap (rows_in n) (drop-cons ls i l within ∙ ap (λ (m : Link). m ∷ drop (suc i) ls) (sym is) ∙ ap (λ (k : ℕ). l ∷ drop k ls) (sym (add-one i)))

-- where a rule is not kept at that row
pub row_stops : (rule : Row → Answer) (n : ℕ) (ls : List Link) (i : ℕ) (l : Link) (e : NetworkFault) → i < length ls → l ≡ get_or ls i l → rule (row_in n l) ≡ Err e
    → first_of rule (rows_in n (drop i ls)) ≡ Err e
row_stops rule n ls i l e within is broken =
    ap (first_of rule) (next_row n ls i l within is) ∙ ap (λ (a : Answer). a >>= λ _. first_of rule (rows_in n (drop (i + 1) ls))) broken

-- the rows of the table at a place, before those of the rest
pub next_rows : (n : ℕ) (ts : List Content) (t : Content) → n < length ts → t ≡ get_or ts n t
    → rows_from n (drop n ts) ≡ rows_in n t.links ++ rows_from (n + 1) (drop (n + 1) ts)
next_rows n ts t within is = ap (rows_from n) (drop-cons ts n t within ∙ ap (λ (u : Content). u ∷ drop (suc n) ts) (sym is) ∙ ap (λ (k : ℕ). t ∷ drop k ts) (sym (add-one n)))

first_append : (rule : Row → Answer) (xs ys : List Row) → first_of rule (xs ++ ys) ≡ (first_of rule xs >>= λ _. first_of rule ys)
first_append rule [] ys = refl
first_append rule (x ∷ xs) ys = by (rule x) (first_append rule xs ys) where
  by : (a : Answer) → first_of rule (xs ++ ys) ≡ (first_of rule xs >>= λ _. first_of rule ys)
      → (a >>= λ _. first_of rule (xs ++ ys)) ≡ ((a >>= λ _. first_of rule xs) >>= λ _. first_of rule ys)
  by (Ok _) more = more
  by (Err e) more = refl

-- where a rule is kept in that table, and where it is not
pub rows_go : (rule : Row → Answer) (n : ℕ) (ts : List Content) (t : Content) → n < length ts → t ≡ get_or ts n t → first_of rule (rows_in n t.links) ≡ Ok tt
    → first_of rule (rows_from n (drop n ts)) ≡ first_of rule (rows_from (n + 1) (drop (n + 1) ts))
rows_go rule n ts t within is kept =
    let rest : List Row = rows_from (n + 1) (drop (n + 1) ts) in
    ap (first_of rule) (next_rows n ts t within is) ∙ first_append rule (rows_in n t.links) rest ∙ ap (λ (a : Answer). a >>= λ _. first_of rule rest) kept

pub rows_stop : (rule : Row → Answer) (n : ℕ) (ts : List Content) (t : Content) (e : NetworkFault) → n < length ts → t ≡ get_or ts n t
    → first_of rule (rows_in n t.links) ≡ Err e → first_of rule (rows_from n (drop n ts)) ≡ Err e
rows_stop rule n ts t e within is broken =
    let rest : List Row = rows_from (n + 1) (drop (n + 1) ts) in
    ap (first_of rule) (next_rows n ts t within is) ∙ first_append rule (rows_in n t.links) rest ∙ ap (λ (a : Answer). a >>= λ _. first_of rule rest) broken

-- ---- the table that a row is of

later : (n : ℕ) (t : Content) (ts : List Content) (r : Row) → IsRowOf (n + 1) ts r → IsRowOf n (t ∷ ts) r
later n t ts r s = record {
  place = suc s.place;
  table = s.table;
  switch = let is = s.switch in omega (arith, is);
  table_is = s.table_is;
  known = s.known;
}

pub all_rows : (n : ℕ) (ts : List Content) → All (IsRowOf n ts) (rows_from n ts)
all_rows n [] = All-nil (IsRowOf n [])
all_rows n (t ∷ ts) =
    All-append (IsRowOf n (t ∷ ts)) (map (row_in n) t.links) (rows_from (n + 1) ts)
    (All-map (IsRowOf n (t ∷ ts)) (row_in n) t.links here)
    (All-weaker (IsRowOf (n + 1) ts) (IsRowOf n (t ∷ ts)) (later n t ts) (rows_from (n + 1) ts) (all_rows (n + 1) ts)) where
      here : All (λ l. IsRowOf n (t ∷ ts) (row_in n l)) t.links
      here k d lt = record { place = 0; table = t; switch = omega arith; table_is = refl; known = Contains-get_or t.links k d lt }
