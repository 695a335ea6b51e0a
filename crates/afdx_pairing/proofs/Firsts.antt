-- The first of a list that passes a test.
use Rattle.std.proofs.Common.{◌≡◌, ℕ, zero, suc, ◌+◌, ◌*◌, ◌-◌, ◌<◌, ◌≤◌, nat_le, nat_lt, not, Bool, true, false, ◌&&◌, ◌||◌, cond}
use Rattle.std.proofs.Common.{List, [], ◌∷◌, ◌++◌, map, take, length, Option, Some, None, refl, sym, ap, ◌∙◌, arith, inl, inr, append_assoc}
use Rattle.std.specs.Prelude.{slice_get}
use Rattle.std.specs.List.{AllByRecursion, position, position_or_len, list_any, find}
use Rattle.std.specs.Option.{is_some}
use Rattle.std.specs.Str.{bytes_eq}
use Rattle.std.proofs.lemmas.Bool.{cases_Bool, leb-true, leb-false, ltb-true, ltb-false, lt-ltb, le-leb, lt-leb, le-ltb}
use Rattle.std.proofs.lemmas.List.{take_more}
use Rattle.std.proofs.lemmas.List.Folds.{find_at}
use Rattle.std.proofs.lemmas.List.Sums.{prefix_len-le-length}
use Rattle.std.proofs.lemmas.Option.{slice_get_within, slice_get_past, get_or_from_slice_get}
use Rattle.std.proofs.lemmas.Slice.Eq.{bytes_eq-Decides}
use Rattle.afdx_units.specs.Line.{size_of, cost_of}
use Rattle.afdx_pcap.specs.Record.{Record}
use Rattle.afdx_pairing.specs.declared.limits.Limits.{Limits}
use Rattle.afdx_pairing.specs.Events.{Numbered}
use Rattle.afdx_pairing.specs.Limits.{left_at, most_of, is_early, in_bound, came_within}
use Rattle.afdx_pairing.specs.Queue.{is_from, is_within}
use Rattle.afdx_pairing.specs.Inner.Queue.{ComeInOrder}

-- ---- a list by its places

pub none_within : {X : Type 0} (xs : List X) (i : ℕ) → slice_get xs i ≡ None → i < length xs → ⊥
none_within [] i none lt = omega (arith, lt)
none_within (x ∷ xs) zero none lt = cc
none_within (x ∷ xs) (suc i) none lt = none_within xs i none (omega (arith, lt))

take_next : {X : Type 0} (xs : List X) (i : ℕ) (x : X) → slice_get xs i ≡ Some x → take (i + 1) xs ≡ take i xs ++ x ∷ []
take_next {X} xs i x same =
    take_more xs i x (slice_get_within xs i x same) ∙ ap (λ (y : X). take i xs ++ y ∷ []) (get_or_from_slice_get xs i x x same)

map_push : {X Y : Type 0} (f : X → Y) (xs : List X) (x : X) → map f (xs ++ x ∷ []) ≡ map f xs ++ f x ∷ []
map_push f [] x = refl
map_push {X} {Y} f (y ∷ xs) x = ap (λ (ys : List Y). f y ∷ ys) (map_push f xs x)

-- what is told of one more
pub tells_next : {X Y : Type 0} (f : X → Y) (xs : List X) (i : ℕ) (x : X) (old mid new : List Y) → slice_get xs i ≡ Some x
    → mid ≡ old ++ map f (take i xs) → new ≡ mid ++ f x ∷ [] → new ≡ old ++ map f (take (i + 1) xs)
tells_next {X} {Y} f xs i x old mid new same mid_is new_is =
    new_is
    ∙ ap (λ (m : List Y). m ++ f x ∷ []) mid_is
    ∙ append_assoc old (map f (take i xs)) (f x ∷ [])
    ∙ ap (λ (ms : List Y). old ++ ms) (sym (ap (λ (zs : List X). map f zs) (take_next xs i x same) ∙ map_push f (take i xs) x))

-- ---- the place of the first

pub first_here : {X : Type 0} (p : X → Bool) (x : X) (xs : List X) → p x ≡ true → position_or_len p (x ∷ xs) ≡ 0
first_here p x xs is = rw is refl

pub first_later : {X : Type 0} (p : X → Bool) (x : X) (xs : List X) → p x ≡ false → position_or_len p (x ∷ xs) ≡ 1 + position_or_len p xs
first_later p x xs isnt = rw isnt refl

some_by : (b : Bool) (n : ℕ) → b ≡ true → cond b (Some n) None ≡ Some n
some_by true n is = refl
some_by false n is = cc

none_by : (b : Bool) (n : ℕ) → b ≡ false → cond b (Some n) None ≡ None
none_by true n isnt = cc
none_by false n isnt = refl

by_some : (b : Bool) (n i : ℕ) → cond b (Some n) None ≡ Some i → (b ≡ true) × (n ≡ i)
by_some true n i same = (refl, cc)
by_some false n i same = cc

by_none : (b : Bool) (n : ℕ) → cond b (Some n) None ≡ None → b ≡ false
by_none true n same = cc
by_none false n same = refl

pub placed : {X : Type 0} (p : X → Bool) (xs : List X) (i : ℕ) → position_or_len p xs ≡ i → i < length xs → position p xs ≡ Some i
placed p xs i is lt =
    some_by (nat_lt (position_or_len p xs) (length xs)) (position_or_len p xs) (lt-ltb (position_or_len p xs) (length xs) (omega (arith, is, lt)))
    ∙ ap (λ (n : ℕ). Some n) is

pub not_placed : {X : Type 0} (p : X → Bool) (xs : List X) → position_or_len p xs ≡ length xs → position p xs ≡ None
not_placed p xs is =
    none_by (nat_lt (position_or_len p xs) (length xs)) (position_or_len p xs) (le-ltb (position_or_len p xs) (length xs) (omega (arith, is)))

pub place_of : {X : Type 0} (p : X → Bool) (xs : List X) (i : ℕ) → position p xs ≡ Some i → (i < length xs) × (position_or_len p xs ≡ i)
place_of p xs i same =
    let both = by_some (nat_lt (position_or_len p xs) (length xs)) (position_or_len p xs) i same in
    let lt = ltb-true (position_or_len p xs) (length xs) both.0 in
    (omega (arith, lt, both.1), both.1)

pub no_place_of : {X : Type 0} (p : X → Bool) (xs : List X) → position p xs ≡ None → position_or_len p xs ≡ length xs
no_place_of {X} p xs same =
    let most = prefix_len-le-length (λ (x : X). not (p x)) xs in
    let least = ltb-false (position_or_len p xs) (length xs) (by_none (nat_lt (position_or_len p xs) (length xs)) (position_or_len p xs) same) in
    omega (arith, most, least)

any_later : (a b : Bool) → a ≡ false → (a || b) ≡ b
any_later true b isnt = cc
any_later false b isnt = refl

any_here : (a b : Bool) → a ≡ true → (a || b) ≡ true
any_here true b is = refl
any_here false b is = cc

pub any_placed : {X : Type 0} (p : X → Bool) (xs : List X) → position_or_len p xs < length xs → list_any p xs ≡ true
any_placed p [] lt = absurd (omega (arith, lt))
any_placed p (x ∷ xs) lt =
    elim (cases_Bool (p x)) [
      | inl is ↦ any_here (p x) (list_any p xs) is
      | inr isnt ↦ any_later (p x) (list_any p xs) isnt ∙ any_placed p xs (omega (arith, lt, first_later p x xs isnt))
    ]

pub none_placed : {X : Type 0} (p : X → Bool) (xs : List X) → position_or_len p xs ≡ length xs → list_any p xs ≡ false
none_placed p [] same = refl
none_placed p (x ∷ xs) same =
    elim (cases_Bool (p x)) [
      | inl is ↦ absurd (omega (arith, same, first_here p x xs is))
      | inr isnt ↦ any_later (p x) (list_any p xs) isnt ∙ none_placed p xs (omega (arith, same, first_later p x xs isnt))
    ]

pub any_is : {X : Type 0} (p : X → Bool) (xs : List X) (o : Option ℕ) → o ≡ position p xs → is_some o ≡ list_any p xs
any_is p xs None same = sym (none_placed p xs (no_place_of p xs (sym same)))
any_is p xs (Some i) same =
    let at = place_of p xs i (sym same) in sym (any_placed p xs (omega (arith, at.0, at.1)))

pub found_one : {X : Type 0} (p : X → Bool) (xs : List X) (i : ℕ) (x : X) → Some i ≡ position p xs → Some x ≡ slice_get xs i → find p xs ≡ Some x
found_one {X} p xs i x same get = find_at p xs ∙ ap (λ (n : ℕ). slice_get xs n) (place_of p xs i (sym same)).1 ∙ sym get

pub found_none : {X : Type 0} (p : X → Bool) (xs : List X) → None ≡ position p xs → find p xs ≡ None
found_none p xs same =
    let past = no_place_of p xs (sym same) in find_at p xs ∙ slice_get_past xs (position_or_len p xs) (omega (arith, past))

-- ---- one that has bytes, comes no sooner than an instant, and passes a test that none of later ones with its bytes passes if it does not

pub record IsMonotone (q : Numbered → Bool) : Type 0 where
  pub later : (x y : Numbered) → x.frame.bytes ≡ y.frame.bytes → x.frame.stamp ≤ y.frame.stamp → q x ≡ false → q y ≡ false

pub record IsBoth (b : List ℕ) (from : ℕ) (q r : Numbered → Bool) : Type 0 where
  pub same : (n : Numbered) → r n ≡ (is_from b from n && q n)

and_false : (a b : Bool) → b ≡ false → (a && b) ≡ false
and_false true b fails = fails
and_false false b fails = refl

false_and : (a b : Bool) → a ≡ false → (a && b) ≡ false
false_and true b fails = cc
false_and false b fails = refl

and_true : (a b : Bool) → a ≡ true → b ≡ true → (a && b) ≡ true
and_true true b first second = second
and_true false b first second = first

left_of : (a b : Bool) → (a && b) ≡ true → a ≡ true
left_of true b both = refl
left_of false b both = both

fails_by : (b : List ℕ) (from : ℕ) (q r : Numbered → Bool) → IsBoth b from q r → (n : Numbered) → is_from b from n ≡ false → r n ≡ false
fails_by b from q r both n isnt = both.same n ∙ false_and (is_from b from n) (q n) isnt

has_bytes : (b : List ℕ) (from : ℕ) (n : Numbered) → is_from b from n ≡ true → n.frame.bytes ≡ b
has_bytes b from n is = (bytes_eq-Decides n.frame.bytes b).0 (left_of (bytes_eq n.frame.bytes b) (nat_le from n.frame.stamp) is)

rest_fails : (b : List ℕ) (from : ℕ) (q r : Numbered → Bool) → IsBoth b from q r → IsMonotone q → (x : Numbered) → x.frame.bytes ≡ b → q x ≡ false
    → (ns : List Numbered) → AllByRecursion (λ other. x.frame.stamp ≤ other.frame.stamp) ns → position_or_len r ns ≡ length ns
rest_fails b from q r both mono x has fails [] later = refl
rest_fails b from q r both mono x has fails (n ∷ ns) later =
    let rest = rest_fails b from q r both mono x has fails ns later.1 in
    let here : r n ≡ false =
    elim (cases_Bool (is_from b from n)) [
      | inl is ↦ both.same n ∙ and_false (is_from b from n) (q n) (mono.later x n (has ∙ sym (has_bytes b from n is)) later.0 fails)
      | inr isnt ↦ fails_by b from q r both n isnt
    ] in
    omega (arith, rest, first_later r n ns here)

one_passes : (b : List ℕ) (from : ℕ) (q r : Numbered → Bool) → IsBoth b from q r → (ns : List Numbered) (i : ℕ) (x : Numbered)
    → position_or_len (is_from b from) ns ≡ i → slice_get ns i ≡ Some x → q x ≡ true → position_or_len r ns ≡ i
one_passes b from q r both [] i x is get passes = cc
one_passes b from q r both (n ∷ ns) zero x is get passes =
    elim (cases_Bool (is_from b from n)) [
      | inl here ↦ (let same : n ≡ x = cc in
          first_here r n ns (both.same n ∙ and_true (is_from b from n) (q n) here (ap q same ∙ passes)))
      | inr isnt ↦ absurd (omega (arith, is, first_later (is_from b from) n ns isnt))
    ]
one_passes b from q r both (n ∷ ns) (suc j) x is get passes =
    elim (cases_Bool (is_from b from n)) [
      | inl here ↦ absurd (omega (arith, is, first_here (is_from b from) n ns here))
      | inr isnt ↦ (let rest = one_passes b from q r both ns j x (omega (arith, is, first_later (is_from b from) n ns isnt)) get passes in
          omega (arith, rest, first_later r n ns (fails_by b from q r both n isnt)))
    ]

one_fails : (b : List ℕ) (from : ℕ) (q r : Numbered → Bool) → IsBoth b from q r → IsMonotone q → (ns : List Numbered) → ComeInOrder ns → (i : ℕ) (x : Numbered)
    → position_or_len (is_from b from) ns ≡ i → slice_get ns i ≡ Some x → q x ≡ false → position_or_len r ns ≡ length ns
one_fails b from q r both mono [] order i x is get fails = refl
one_fails b from q r both mono (n ∷ ns) order zero x is get fails =
    elim (cases_Bool (is_from b from n)) [
      | inl here ↦ (let same : n ≡ x = cc in
          let not_q : q n ≡ false = ap q same ∙ fails in
          let rest = rest_fails b from q r both mono n (has_bytes b from n here) not_q ns order.0 in
          omega (arith, rest, first_later r n ns (both.same n ∙ and_false (is_from b from n) (q n) not_q)))
      | inr isnt ↦ absurd (omega (arith, is, first_later (is_from b from) n ns isnt))
    ]
one_fails b from q r both mono (n ∷ ns) order (suc j) x is get fails =
    elim (cases_Bool (is_from b from n)) [
      | inl here ↦ absurd (omega (arith, is, first_here (is_from b from) n ns here))
      | inr isnt ↦ (let rest = one_fails b from q r both mono ns order.1 j x (omega (arith, is, first_later (is_from b from) n ns isnt)) get fails in
          omega (arith, rest, first_later r n ns (fails_by b from q r both n isnt)))
    ]

none_fails : (b : List ℕ) (from : ℕ) (q r : Numbered → Bool) → IsBoth b from q r → (ns : List Numbered)
    → position_or_len (is_from b from) ns ≡ length ns → position_or_len r ns ≡ length ns
none_fails b from q r both [] is = refl
none_fails b from q r both (n ∷ ns) is =
    elim (cases_Bool (is_from b from n)) [
      | inl here ↦ absurd (omega (arith, is, first_here (is_from b from) n ns here))
      | inr isnt ↦ (let rest = none_fails b from q r both ns (omega (arith, is, first_later (is_from b from) n ns isnt)) in
          omega (arith, rest, first_later r n ns (fails_by b from q r both n isnt)))
    ]

pub takes_first : (b : List ℕ) (from : ℕ) (q r : Numbered → Bool) → IsBoth b from q r → (ns : List Numbered) (i : ℕ) (x : Numbered)
    → Some i ≡ position (is_from b from) ns → Some x ≡ slice_get ns i → q x ≡ true → Some i ≡ position r ns
takes_first b from q r both ns i x is get passes =
    let at = place_of (is_from b from) ns i (sym is) in sym (placed r ns i (one_passes b from q r both ns i x at.1 (sym get) passes) at.0)

pub takes_none : (b : List ℕ) (from : ℕ) (q r : Numbered → Bool) → IsBoth b from q r → IsMonotone q → (ns : List Numbered) → ComeInOrder ns → (i : ℕ) (x : Numbered)
    → Some i ≡ position (is_from b from) ns → Some x ≡ slice_get ns i → q x ≡ false → None ≡ position r ns
takes_none b from q r both mono ns order i x is get fails =
    let at = place_of (is_from b from) ns i (sym is) in sym (not_placed r ns (one_fails b from q r both mono ns order i x at.1 (sym get) fails))

pub has_none : (b : List ℕ) (from : ℕ) (q r : Numbered → Bool) → IsBoth b from q r → (ns : List Numbered) → None ≡ position (is_from b from) ns → None ≡ position r ns
has_none b from q r both ns is = sym (not_placed r ns (none_fails b from q r both ns (no_place_of (is_from b from) ns (sym is))))

-- ---- one that comes no later than an instant

pub by_last : (b : List ℕ) (from last : ℕ) → IsBoth b from (λ n. nat_le n.frame.stamp last) (is_within b from last)
by_last b from last = record { same = λ n. refl }

pub last_stays : (last : ℕ) → IsMonotone (λ n. nat_le n.frame.stamp last)
last_stays last = record {
  later = λ x y has le past. lt-leb y.frame.stamp last (omega (arith, leb-false x.frame.stamp last past, le));
}

-- ---- bounds

pub le_moves : (a b c : ℕ) → nat_le a (c + b) ≡ nat_le (a - b) c
le_moves a b c =
    elim (cases_Bool (nat_le a (c + b))) [
      | inl is ↦ is ∙ sym (le-leb (a - b) c (omega (arith, leb-true a (c + b) is)))
      | inr isnt ↦ isnt ∙ sym (lt-leb (a - b) c (omega (arith, leb-false a (c + b) isnt)))
    ]

swapped : (a b c : Bool) → (a && b && c) ≡ (a && c && b)
swapped true true true = refl
swapped true true false = refl
swapped true false true = refl
swapped true false false = refl
swapped false b c = refl

pub by_bound : (m : Limits) (left : Record)
    → IsBoth left.bytes (left_at m left - most_of m) (λ n. not (is_early m n.frame left)) (λ n. in_bound m n.frame left)
by_bound m left = record {
  same = λ n.
      swapped (bytes_eq n.frame.bytes left.bytes) (not (is_early m n.frame left)) (nat_le (left_at m left) (n.frame.stamp + most_of m))
      ∙ ap (λ (b : Bool). bytes_eq n.frame.bytes left.bytes && b && not (is_early m n.frame left)) (le_moves (left_at m left) (most_of m) n.frame.stamp);
}

pub by_times : (m : Limits) (times : ℕ) (left : Record)
    → IsBoth left.bytes (left_at m left - times * most_of m) (λ n. nat_lt n.frame.stamp (left_at m left)) (λ n. came_within m times n.frame left)
by_times m times left = record {
  same = λ n.
      swapped (bytes_eq n.frame.bytes left.bytes) (nat_lt n.frame.stamp (left_at m left)) (nat_le (left_at m left) (n.frame.stamp + times * most_of m))
      ∙ ap (λ (b : Bool). bytes_eq n.frame.bytes left.bytes && b && nat_lt n.frame.stamp (left_at m left)) (le_moves (left_at m left) (times * most_of m) n.frame.stamp);
}

not_true : (b : Bool) → b ≡ true → not b ≡ false
not_true true is = refl
not_true false is = sym is

true_not : (b : Bool) → not b ≡ false → b ≡ true
true_not true is = refl
true_not false is = sym is

pub early_stays : (m : Limits) (left : Record) → IsMonotone (λ n. not (is_early m n.frame left))
early_stays m left = record {
  later = λ x y has le early.
      let cost : cost_of m.speed (size_of (length x.frame.bytes)) ≡ cost_of m.speed (size_of (length y.frame.bytes)) = ap (λ (b : List ℕ). cost_of m.speed (size_of (length b))) has in
      let sooner = ltb-true (left_at m left + m.tolerance) (x.frame.stamp + m.least + cost_of m.speed (size_of (length x.frame.bytes))) (true_not (is_early m x.frame left) early) in
      not_true (is_early m y.frame left)
      (lt-ltb (left_at m left + m.tolerance) (y.frame.stamp + m.least + cost_of m.speed (size_of (length y.frame.bytes))) (omega (arith, cost, sooner, le)));
}

pub late_stays : (m : Limits) (left : Record) → IsMonotone (λ n. nat_lt n.frame.stamp (left_at m left))
late_stays m left = record {
  later = λ x y has le late. le-ltb y.frame.stamp (left_at m left) (omega (arith, ltb-false x.frame.stamp (left_at m left) late, le));
}

-- ---- what was found, as it is asked

abbrev found : List ℕ → ℕ → List Numbered → Option ℕ
found bs from ns = position (is_from bs from) ns

as_asked : (bs b : List ℕ) (from f : ℕ) (ns : List Numbered) (o : Option ℕ) → bs ≡ b → from ≡ f → o ≡ found bs from ns → o ≡ found b f ns
as_asked bs b from f ns o same_bytes same_from is =
    is ∙ ap (λ (x : List ℕ). found x from ns) same_bytes ∙ ap (λ (x : ℕ). found b x ns) same_from

-- one within whose bounds a record left
pub bound_none : (m : Limits) (left : Record) (bs : List ℕ) (from : ℕ) (ns : List Numbered) → bs ≡ left.bytes → from ≡ left_at m left - most_of m → None ≡ found bs from ns
    → None ≡ position (λ n. in_bound m n.frame left) ns
bound_none m left bs from ns same_bytes same_from is =
    has_none left.bytes (left_at m left - most_of m) (λ n. not (is_early m n.frame left)) (λ n. in_bound m n.frame left) (by_bound m left) ns
    (as_asked bs left.bytes from (left_at m left - most_of m) ns None same_bytes same_from is)

pub bound_early : (m : Limits) (left : Record) (bs : List ℕ) (from : ℕ) (ns : List Numbered) (i : ℕ) (x : Numbered) → bs ≡ left.bytes → from ≡ left_at m left - most_of m
    → ComeInOrder ns → Some i ≡ found bs from ns → Some x ≡ slice_get ns i → is_early m x.frame left ≡ true → None ≡ position (λ n. in_bound m n.frame left) ns
bound_early m left bs from ns i x same_bytes same_from order is get early =
    takes_none left.bytes (left_at m left - most_of m) (λ n. not (is_early m n.frame left)) (λ n. in_bound m n.frame left) (by_bound m left) (early_stays m left) ns order i x
    (as_asked bs left.bytes from (left_at m left - most_of m) ns (Some i) same_bytes same_from is) get (not_true (is_early m x.frame left) early)

not_false : (b : Bool) → b ≡ false → not b ≡ true
not_false true isnt = sym isnt
not_false false isnt = refl

pub bound_first : (m : Limits) (left : Record) (bs : List ℕ) (from : ℕ) (ns : List Numbered) (i : ℕ) (x : Numbered) → bs ≡ left.bytes → from ≡ left_at m left - most_of m
    → Some i ≡ found bs from ns → Some x ≡ slice_get ns i → is_early m x.frame left ≡ false → Some i ≡ position (λ n. in_bound m n.frame left) ns
bound_first m left bs from ns i x same_bytes same_from is get isnt =
    takes_first left.bytes (left_at m left - most_of m) (λ n. not (is_early m n.frame left)) (λ n. in_bound m n.frame left) (by_bound m left) ns i x
    (as_asked bs left.bytes from (left_at m left - most_of m) ns (Some i) same_bytes same_from is) get (not_false (is_early m x.frame left) isnt)

-- one that came before it left, by at most so many times the bound
pub times_none : (m : Limits) (times : ℕ) (left : Record) (bs : List ℕ) (from : ℕ) (ns : List Numbered) → bs ≡ left.bytes → from ≡ left_at m left - times * most_of m
    → None ≡ found bs from ns → None ≡ position (λ n. came_within m times n.frame left) ns
times_none m times left bs from ns same_bytes same_from is =
    has_none left.bytes (left_at m left - times * most_of m) (λ n. nat_lt n.frame.stamp (left_at m left)) (λ n. came_within m times n.frame left) (by_times m times left) ns
    (as_asked bs left.bytes from (left_at m left - times * most_of m) ns None same_bytes same_from is)

pub times_late : (m : Limits) (times : ℕ) (left : Record) (bs : List ℕ) (from : ℕ) (ns : List Numbered) (i : ℕ) (x : Numbered) → bs ≡ left.bytes
    → from ≡ left_at m left - times * most_of m → ComeInOrder ns → Some i ≡ found bs from ns → Some x ≡ slice_get ns i → left_at m left ≤ x.frame.stamp
    → None ≡ position (λ n. came_within m times n.frame left) ns
times_late m times left bs from ns i x same_bytes same_from order is get late =
    takes_none left.bytes (left_at m left - times * most_of m) (λ n. nat_lt n.frame.stamp (left_at m left)) (λ n. came_within m times n.frame left) (by_times m times left) (late_stays m left) ns
    order i x (as_asked bs left.bytes from (left_at m left - times * most_of m) ns (Some i) same_bytes same_from is) get (le-ltb x.frame.stamp (left_at m left) late)

pub times_first : (m : Limits) (times : ℕ) (left : Record) (bs : List ℕ) (from : ℕ) (ns : List Numbered) (i : ℕ) (x : Numbered) → bs ≡ left.bytes
    → from ≡ left_at m left - times * most_of m → Some i ≡ found bs from ns → Some x ≡ slice_get ns i → x.frame.stamp < left_at m left
    → Some i ≡ position (λ n. came_within m times n.frame left) ns
times_first m times left bs from ns i x same_bytes same_from is get sooner =
    takes_first left.bytes (left_at m left - times * most_of m) (λ n. nat_lt n.frame.stamp (left_at m left)) (λ n. came_within m times n.frame left) (by_times m times left) ns i x
    (as_asked bs left.bytes from (left_at m left - times * most_of m) ns (Some i) same_bytes same_from is) get (lt-ltb x.frame.stamp (left_at m left) sooner)

-- one that comes no later than an instant
pub within_none : (b : List ℕ) (from last : ℕ) (ns : List Numbered) → None ≡ found b from ns → None ≡ position (is_within b from last) ns
within_none b from last ns is = has_none b from (λ n. nat_le n.frame.stamp last) (is_within b from last) (by_last b from last) ns is

pub within_late : (b : List ℕ) (from last : ℕ) (ns : List Numbered) (i : ℕ) (x : Numbered) → ComeInOrder ns → Some i ≡ found b from ns → Some x ≡ slice_get ns i
    → last < x.frame.stamp → None ≡ position (is_within b from last) ns
within_late b from last ns i x order is get late =
    takes_none b from (λ n. nat_le n.frame.stamp last) (is_within b from last) (by_last b from last) (last_stays last) ns order i x is get (lt-leb x.frame.stamp last late)

pub within_first : (b : List ℕ) (from last : ℕ) (ns : List Numbered) (i : ℕ) (x : Numbered) → Some i ≡ found b from ns → Some x ≡ slice_get ns i
    → x.frame.stamp ≤ last → Some i ≡ position (is_within b from last) ns
within_first b from last ns i x is get early =
    takes_first b from (λ n. nat_le n.frame.stamp last) (is_within b from last) (by_last b from last) ns i x is get (le-leb x.frame.stamp last early)
