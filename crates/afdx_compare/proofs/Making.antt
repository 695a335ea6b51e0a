-- Lists that a loop makes, item by item.
use Rattle.std.proofs.Common.{◌≡◌, ℕ, zero, suc, ◌+◌, ◌<◌, ◌≤◌, List, [], ◌∷◌, ◌++◌, map, take, drop, length, get_or, Some, Bor, refl, sym, ap, subst, ◌∙◌, arith, add-one}
use Rattle.std.specs.Prelude.{◌==◌, Bool, true, false, Option, None, cond, find, if◌then◌else◌, slice_get, option_copied, IsSome}
use Rattle.std.specs.List.{AllByRecursion}
use Rattle.std.proofs.lemmas.Bool.{eqb-true}
use Rattle.std.proofs.lemmas.List.{append-nil, append_assoc}
use Rattle.std.proofs.lemmas.Option.{get_or_from_slice_get}
use Rattle.afdx_units.specs.declared.line.Priority.{Priority}
use Rattle.afdx_table.specs.declared.rows.PortRow.{PortRow}
use Rattle.afdx_table.specs.Link.{Link}
use Rattle.afdx_table.specs.Content.{Content, port_row}
use Rattle.afdx_following.specs.declared.watch.Watch.{Watch}
use Rattle.afdx_following.specs.Output.{Output, IsFresh}
use Rattle.afdx_following.specs.Watched.{Watched}
use Rattle.afdx_recordings.specs.declared.outputs.Outputs.{Outputs}
use Rattle.afdx_recordings.specs.Recordings.{is_recorded}
use Rattle.afdx_compare.specs.Comparison.{Port, no_records, output_first, outputs_first, IsFirstOf, AreFirstOf}
use Rattle.afdx_compare.proofs.Places.{get_there}

drop_at : {X : Type 0} (xs : List X) (i : ℕ) (x d : X) → i < length xs → x ≡ get_or xs i d → drop i xs ≡ x ∷ drop (suc i) xs
drop_at [] i x d lt is = absurd (omega (arith, lt))
drop_at {X} (y ∷ xs) zero x d lt is = ap (λ (z : X). z ∷ xs) (sym is)
drop_at (y ∷ xs) (suc i) x d lt is = drop_at xs i x d (omega (arith, lt)) is

drop_none : {X : Type 0} (xs : List X) (i : ℕ) → length xs ≤ i → drop i xs ≡ []
drop_none [] zero past = refl
drop_none [] (suc i) past = refl
drop_none (x ∷ xs) zero past = absurd (omega (arith, past))
drop_none (x ∷ xs) (suc i) past = drop_none xs i (omega (arith, past))

-- a list to which each item of another one, at its place, adds some
pub made_more : {X Y : Type 0} (f : ℕ → X → List Y) (g : ℕ → List X → List Y) → ((k : ℕ) (x : X) (xs : List X) → g k (x ∷ xs) ≡ f k x ++ g (k + 1) xs)
    → (whole : List Y) (xs : List X) (i : ℕ) (x d : X) (before one now : List Y) → i < length xs → x ≡ get_or xs i d → one ≡ f i x → now ≡ before ++ one
    → whole ≡ before ++ g i (drop i xs) → whole ≡ now ++ g (i + 1) (drop (i + 1) xs)
made_more {X} {Y} f g more whole xs i x d before one now lt get one_is now_is so_far =
    let rest = g (i + 1) (drop (suc i) xs) in
    let step : g i (drop i xs) ≡ one ++ rest =
    ap (λ (ys : List X). g i ys) (drop_at xs i x d lt get) ∙ more i x (drop (suc i) xs) ∙ ap (λ (ys : List Y). ys ++ rest) (sym one_is) in
    let same : whole ≡ now ++ rest =
    so_far ∙ ap (λ (ys : List Y). before ++ ys) step ∙ sym (append_assoc before one rest) ∙ ap (λ (ys : List Y). ys ++ rest) (sym now_is) in
    subst (λ (k : ℕ). whole ≡ now ++ g (i + 1) (drop k xs)) (sym (add-one i)) same

pub made_all : {X Y : Type 0} (g : ℕ → List X → List Y) → ((k : ℕ) → g k [] ≡ []) → (whole : List Y) (xs : List X) (i : ℕ) (before : List Y) → length xs ≤ i
    → whole ≡ before ++ g i (drop i xs) → before ≡ whole
made_all {X} {Y} g none whole xs i before past so_far =
    sym (so_far ∙ ap (λ (ys : List X). before ++ g i ys) (drop_none xs i past) ∙ ap (λ (ys : List Y). before ++ ys) (none i) ∙ append-nil before)

-- one link for each row of the table
pub first_more : (w : Watch) (t : Content) (recorded : Outputs) (keeps : Bool) (ls : List Link) (fs : List Watched) (i : ℕ) (l : Link) (f : Watched) → slice_get ls i ≡ Some l
    → IsFirstOf w t recorded keeps l f → AreFirstOf w t recorded keeps (take i ls) fs → AreFirstOf w t recorded keeps (take (suc i) ls) (fs ++ f ∷ [])
first_more w t recorded keeps [] fs i l f get one so_far = absurd (let never = get in cc)
first_more w t recorded keeps (m ∷ ls) [] zero l f get one so_far = (subst (λ (x : Link). IsFirstOf w t recorded keeps x f) (let same : l ≡ m = cc in same) one, tt)
first_more w t recorded keeps (m ∷ ls) (g ∷ fs) zero l f get one so_far = absurd so_far
first_more w t recorded keeps (m ∷ ls) [] (suc i) l f get one so_far = absurd so_far
first_more w t recorded keeps (m ∷ ls) (g ∷ fs) (suc i) l f get one so_far = (so_far.0, first_more w t recorded keeps ls fs i l f get one so_far.1)

pub first_all : (w : Watch) (t : Content) (recorded : Outputs) (keeps : Bool) (ls : List Link) (fs : List Watched) (i : ℕ) → length ls ≤ i → AreFirstOf w t recorded keeps (take i ls) fs
    → AreFirstOf w t recorded keeps ls fs
first_all w t recorded keeps [] fs zero past so_far = so_far
first_all w t recorded keeps [] fs (suc i) past so_far = so_far
first_all w t recorded keeps (m ∷ ls) fs zero past so_far = absurd (omega (arith, past))
first_all w t recorded keeps (m ∷ ls) [] (suc i) past so_far = absurd so_far
first_all w t recorded keeps (m ∷ ls) (g ∷ fs) (suc i) past so_far = (so_far.0, first_all w t recorded keeps ls fs i (omega (arith, past)) so_far.1)

-- ---- the ports of a link

outputs_are_fresh : (w : Watch) (t : Content) (keeps : Bool) (priority : Priority) (port : ℕ) (is : Bool) (row : Option PortRow) (rest : List Output) → AllByRecursion IsFresh rest
    → AllByRecursion IsFresh ((if is then output_first w t keeps priority port row else []) ++ rest)
outputs_are_fresh w t keeps priority port true None rest all = all
outputs_are_fresh w t keeps priority port true (Some row) rest all = (refl, all)
outputs_are_fresh w t keeps priority port false row rest all = all

pub first_fresh : (w : Watch) (t : Content) (recorded : Outputs) (keeps : Bool) (priority : Priority) (ports : List ℕ) → AllByRecursion IsFresh (outputs_first w t recorded keeps priority ports)
first_fresh w t recorded keeps priority [] = tt
first_fresh w t recorded keeps priority (port ∷ ports) =
    outputs_are_fresh w t keeps priority port (is_recorded recorded port) (port_row t port) (outputs_first w t recorded keeps priority ports) (first_fresh w t recorded keeps priority ports)

row_if : (b : Bool) (port : ℕ) (p : PortRow) (rest : Option PortRow) (row : PortRow) → (p.id == port) ≡ b → (rest ≡ Some row → row.id ≡ port) → cond b (Some p) rest ≡ Some row → row.id ≡ port
row_if true port p rest row test other is = subst (λ (x : PortRow). x.id ≡ port) (let same : p ≡ row = cc in same) (eqb-true p.id port test)
row_if false port p rest row test other is = other is

row_in : (port : ℕ) (ps : List PortRow) (row : PortRow) → find (λ p. p.id == port) ps ≡ Some row → row.id ≡ port
row_in port [] row is = absurd (let never = is in cc)
row_in port (p ∷ ps) row is = row_if (p.id == port) port p (find (λ q. q.id == port) ps) row refl (row_in port ps row) is

-- the row of a number has it
pub row_number : (t : Content) (port : ℕ) (row : PortRow) → port_row t port ≡ Some row → row.id ≡ port
row_number t port row is = row_in port t.ports row is

pub own_row : (t : Content) (port : ℕ) (row : PortRow) → port_row t port ≡ Some row → port_row t row.id ≡ Some row
own_row t port row is = ap (λ (k : ℕ). port_row t k) (row_number t port row is) ∙ is

-- ---- the rows of the table

-- one port more at which nothing was recorded
pub blank_more : (ps : List PortRow) (i : ℕ) (before now : List Port) → i < length ps → now ≡ before ++ no_records ∷ [] → map (λ p. no_records) ps ≡ before ++ map (λ p. no_records) (drop i ps)
    → map (λ p. no_records) ps ≡ now ++ map (λ p. no_records) (drop (i + 1) ps)
blank_more ps i before now lt now_is so_far =
    let p = get_there ps i lt in
    made_more {X = PortRow} {Y = Port} (λ k q. no_records ∷ []) (λ k qs. map (λ q. no_records) qs) (λ k q qs. refl) (map (λ q. no_records) ps) ps i p.0 p.0 before (no_records ∷ []) now lt
    (sym (get_or_from_slice_get ps i p.0 p.0 p.1)) refl now_is so_far

-- there is a row at each place
pub some_there : {X : Type 0} (xs : List X) (k : ℕ) (r : Option (Bor X)) → option_copied r ≡ slice_get xs k → k < length xs → IsSome r
some_there {X} xs k None is lt = (let x = get_there xs k lt in absurd (let never = is ∙ x.1 in cc))
some_there xs k (Some b) is lt = refl
