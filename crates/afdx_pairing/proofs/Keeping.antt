-- Where nothing speaks against a switch, the records are what left of the frames.
use Rattle.std.proofs.Common.{◌≡◌, ◌⊎◌, ℕ, zero, suc, ◌+◌, ◌*◌, ◌-◌, ◌<◌, ◌≤◌, nat_le, nat_lt, not, Bool, true, false, ◌&&◌, ◌||◌, cond}
use Rattle.std.proofs.Common.{List, [], ◌∷◌, ◌++◌, map, take, drop, length, Option, Some, None, refl, sym, ap, subst, ◌∙◌, arith, inl, inr}
use Rattle.std.specs.List.{AllByRecursion, AllZip, position, position_or_len, list_any, find}
use Rattle.std.specs.Option.{option_or, option_map, unwrap_or}
use Rattle.std.specs.Str.{bytes_eq}
use Rattle.std.proofs.lemmas.Bool.{cases_Bool, and_parts, leb-false, ltb-true, ltb-false, lt-leb, le-ltb}
use Rattle.std.proofs.lemmas.List.{append-nil, append_assoc, take-append-drop, take_all}
use Rattle.std.proofs.lemmas.List.Sums.{prefix_len-le-length}
use Rattle.std.proofs.lemmas.Slice.Eq.{bytes_eq-Decides}
use Rattle.afdx_units.specs.Line.{size_of, cost_of}
use Rattle.afdx_pcap.specs.Record.{Record}
use Rattle.afdx_pairing.specs.declared.limits.Limits.{Limits}
use Rattle.afdx_pairing.specs.declared.event.Pair.{Pair}
use Rattle.afdx_pairing.specs.declared.event.Mark.{Mark}
use Rattle.afdx_pairing.specs.declared.event.Event.{Event}
use Rattle.afdx_pairing.specs.declared.event.Event.TheVariants.{Kept, Early, Late, Missing, After, Extra, Before}
use Rattle.afdx_pairing.specs.Events.{Numbered, mark_of}
use Rattle.afdx_pairing.specs.Limits.{left_at, most_of, is_early, is_late, in_bound, came_within, stays}
use Rattle.afdx_pairing.specs.Pairing.{Pairing, gone_by, partner, missing, paired, pairing_told, ended, end_told}
use Rattle.afdx_pairing.specs.Kept.{IsInBound, Apart, MayCome, bytes_of, Sight, Came, Left, Until, own_of, passed_of, left_of, AreInOrder, after_all, told_by_all, all_told, IsFine, FineIsKept}

abbrev pub AllFine : List Event → Type 0
AllFine events = AllByRecursion IsFine events

abbrev pub frames : List Numbered → List Record
frames ns = map (λ n. n.frame) ns

-- ---- lists

fine_parts : (xs ys : List Event) → AllFine (xs ++ ys) → AllFine xs × AllFine ys
fine_parts [] ys all = (tt, all)
fine_parts (x ∷ xs) ys all = let both = fine_parts xs ys all.1 in ((all.0, both.0), both.1)

grouped : (xs ys zs : List Event) → AllFine ((xs ++ ys) ++ zs) → AllFine (xs ++ (ys ++ zs))
grouped xs ys zs fine = subst (λ (events : List Event). AllFine events) (append_assoc xs ys zs) fine

pub pushed : (ns : List Numbered) (n : Numbered) (rs : List Record) → frames (ns ++ n ∷ []) ++ rs ≡ frames ns ++ n.frame ∷ rs
pushed [] n rs = refl
pushed (x ∷ ns) n rs = ap (λ (ys : List Record). x.frame ∷ ys) (pushed ns n rs)

-- those before the first that passes do not
fail_first : {X : Type 0} (p : X → Bool) (xs : List X) → AllByRecursion (λ x. p x ≡ false) (take (position_or_len p xs) xs)
fail_first p [] = tt
fail_first p (x ∷ xs) =
    elim (cases_Bool (p x)) [
      | inl is ↦ rw is tt
      | inr isnt ↦ (let next : 1 + position_or_len p xs ≡ suc (position_or_len p xs) = omega arith in rw (isnt, next) (isnt, fail_first p xs))
    ]

place_is : {X : Type 0} (p : X → Bool) (xs : List X) → unwrap_or (position p xs) (length xs) ≡ position_or_len p xs
place_is {X = X} p xs =
    let most = prefix_len-le-length (λ (x : X). not (p x)) xs in
    elim (cases_Bool (nat_lt (position_or_len p xs) (length xs))) [
      | inl is ↦ rw is refl
      | inr isnt ↦ (let least = ltb-false (position_or_len p xs) (length xs) isnt in rw isnt (omega (arith, least, most)))
    ]

none_passes : {X : Type 0} (p : X → Bool) (xs : List X) → position p xs ≡ None → AllByRecursion (λ x. p x ≡ false) xs
none_passes {X = X} p xs none =
    let same : length xs ≡ position_or_len p xs = ap (λ (o : Option ℕ). unwrap_or o (length xs)) (sym none) ∙ place_is p xs in
    subst (λ (ys : List X). AllByRecursion (λ x. p x ≡ false) ys) (ap (λ (n : ℕ). take n xs) (sym same) ∙ take_all (length xs) xs (omega arith)) (fail_first p xs)

later_place : (b : Bool) (n : ℕ) → cond b (Some (1 + n)) None ≡ Some 0 → ⊥
later_place true n same = let none : 1 + n ≡ 0 = cc in omega (arith, none)
later_place false n same = cc

first_passes : {X : Type 0} (p : X → Bool) (x : X) (xs : List X) → position p (x ∷ xs) ≡ Some 0 → p x ≡ true
first_passes p x xs same =
    elim (cases_Bool (p x)) [
      | inl is ↦ is
      | inr isnt ↦ absurd (later_place _ (position_or_len p xs) (rw isnt at same))
    ]

-- ---- records apart from frames

last_fails : (a b c : Bool) → c ≡ false → (a && b && c) ≡ false
last_fails true true c fails = fails
last_fails true false c fails = refl
last_fails false b c fails = refl

middle_fails : (a b c : Bool) → b ≡ false → (a && b && c) ≡ false
middle_fails true b c fails = rw fails refl
middle_fails false b c fails = refl

-- frames that were let go by an instant, and a record that leaves then or later
far_apart : (m : Limits) (at : ℕ) (ns : List Numbered) (left : Record) → at ≤ left_at m left → AllByRecursion (λ n. stays m at n.frame ≡ false) ns → Apart m (frames ns) left
far_apart m at [] left late far = tt
far_apart m at (n ∷ ns) left late far =
    let above = leb-false at (n.frame.stamp + 2 * most_of m) far.0 in (
      last_fails (bytes_eq n.frame.bytes left.bytes) (nat_lt n.frame.stamp (left_at m left)) (nat_le (left_at m left) (n.frame.stamp + 2 * most_of m))
          (lt-leb (left_at m left) (n.frame.stamp + 2 * most_of m) (omega (arith, above, late))),
      far_apart m at ns left late far.1,
    )

-- frames that came no sooner than a record left
late_apart : (m : Limits) (own : List Record) (left : Record) → AllByRecursion (λ f. left_at m left ≤ f.stamp) own → Apart m own left
late_apart m [] left late = tt
late_apart m (f ∷ own) left late = (
  middle_fails (bytes_eq f.bytes left.bytes) (nat_lt f.stamp (left_at m left)) (nat_le (left_at m left) (f.stamp + 2 * most_of m)) (le-ltb f.stamp (left_at m left) late.0),
  late_apart m own left late.1,
)

any_fails : (a b : Bool) → (a || b) ≡ false → (a ≡ false) × (b ≡ false)
any_fails true b none = cc
any_fails false b none = (refl, none)

none_apart : (m : Limits) (ns : List Numbered) (left : Record) → list_any (λ n. came_within m 2 n.frame left) ns ≡ false → Apart m (frames ns) left
none_apart m [] left none = tt
none_apart m (n ∷ ns) left none =
    let both = any_fails (came_within m 2 n.frame left) (list_any (λ (k : Numbered). came_within m 2 k.frame left) ns) none in
    (both.0, none_apart m ns left both.1)

each_apart : (m : Limits) (ns : List Numbered) (left : Record) → AllByRecursion (λ n. came_within m 2 n.frame left ≡ false) ns → Apart m (frames ns) left
each_apart m [] left each = tt
each_apart m (n ∷ ns) left each = (each.0, each_apart m ns left each.1)

apart_join : (m : Limits) (xs ys : List Numbered) (left : Record) → Apart m (frames xs) left → Apart m (frames ys) left → Apart m (frames (xs ++ ys)) left
apart_join m [] ys left first second = second
apart_join m (x ∷ xs) ys left first second = (first.0, apart_join m xs ys left first.1 second)

apart_parts : (m : Limits) (xs ys : List Numbered) (left : Record) → Apart m (frames (xs ++ ys)) left → Apart m (frames xs) left × Apart m (frames ys) left
apart_parts m [] ys left all = (tt, all)
apart_parts m (x ∷ xs) ys left all = let both = apart_parts m xs ys left all.1 in ((all.0, both.0), both.1)

-- the same of several records
abbrev pub AllApart : Limits → List Record → List Record → Type 0
AllApart m own before = AllByRecursion (Apart m own) before

pub all_parts : (m : Limits) (xs ys : List Numbered) (before : List Record) → AllApart m (frames (xs ++ ys)) before → AllApart m (frames xs) before × AllApart m (frames ys) before
all_parts m xs ys [] all = (tt, tt)
all_parts m xs ys (r ∷ before) all =
    let here = apart_parts m xs ys r all.0 in
    let rest = all_parts m xs ys before all.1 in
    ((here.0, rest.0), (here.1, rest.1))

pub all_join : (m : Limits) (xs ys : List Numbered) (before : List Record) → AllApart m (frames xs) before → AllApart m (frames ys) before → AllApart m (frames (xs ++ ys)) before
all_join m xs ys [] first second = tt
all_join m xs ys (r ∷ before) first second = (apart_join m xs ys r first.0 second.0, all_join m xs ys before first.1 second.1)

all_more : (m : Limits) (n : Numbered) (own before : List Record) → AllApart m (frames (n ∷ [])) before → AllApart m own before → AllApart m (n.frame ∷ own) before
all_more m n own [] first second = tt
all_more m n own (r ∷ before) first second = ((first.0.0, second.0), all_more m n own before first.1 second.1)

all_far : (m : Limits) (at : ℕ) (ns : List Numbered) (before : List Record) → AllByRecursion (λ n. stays m at n.frame ≡ false) ns
    → AllByRecursion (λ r. at ≤ left_at m r) before → AllApart m (frames ns) before
all_far m at ns [] far late = tt
all_far m at ns (r ∷ before) far late = (far_apart m at ns r late.0 far, all_far m at ns before far late.1)

first_part : (m : Limits) (at : ℕ) (xs ys : List Record) → AllByRecursion (λ r. at ≤ left_at m r) (xs ++ ys) → AllByRecursion (λ r. at ≤ left_at m r) xs
first_part m at [] ys all = tt
first_part m at (x ∷ xs) ys all = (all.0, first_part m at xs ys all.1)

-- ---- what is told

speaks : true ≡ false → ⊥
speaks same = cc

none_missing : (ns : List Numbered) → AllFine (missing ns) → ns ≡ []
none_missing [] fine = refl
none_missing (n ∷ ns) fine = absurd (speaks fine.0)

-- none that waits was let go where none is missing
all_wait : (g : ℕ) (ns : List Numbered) → AllFine (missing (take g ns)) → ns ≡ drop g ns
all_wait g ns fine = sym (take-append-drop g ns) ∙ ap (λ (xs : List Numbered). xs ++ drop g ns) (none_missing (take g ns) fine)

kept_by : (early late : Bool) (pair : Pair) → IsFine (cond early (Early pair) (cond late (Late pair) (Kept pair))) → (early ≡ false) × (late ≡ false)
kept_by true late pair fine = absurd (speaks fine)
kept_by false true pair fine = absurd (speaks fine)
kept_by false false pair fine = (refl, refl)

before_by : (first : Bool) (left : Mark) (policed : Option Mark) → IsFine (cond first (Before left) (Extra left policed)) → first ≡ true
before_by true left policed fine = refl
before_by false left policed fine = absurd (speaks fine)

not_true : (b : Bool) → not b ≡ true → b ≡ false
not_true true same = sym same
not_true false same = refl

either_some : (first second : Option ℕ) → option_or first second ≡ Some 0 → (first ≡ Some 0) ⊎ (second ≡ Some 0)
either_some None second same = inr same
either_some (Some i) second same = inl same

second_none : (first second : Option ℕ) → option_or first second ≡ None → second ≡ None
second_none None second same = same
second_none (Some i) second same = cc

three_parts : (a b c : Bool) → (a && b && c) ≡ true → (a ≡ true) × (b ≡ true) × (c ≡ true)
three_parts a b c all = let outer = and_parts (a && b) c all in let inner = and_parts a b outer.0 in (inner.0, inner.1, outer.1)

-- ---- what is kept from a state on

abbrev pub state : Limits → List Numbered → List Numbered → Bool → Pairing
state m waiting policed begun = record { limits = m; waiting = waiting; policed = policed; begun = begun }

pub record Keeps (m : Limits) (last : Option ℕ) (waiting policed : List Numbered) (begun : Bool) (sights : List Sight) : Type 0 where
  pub before : List Record
  pub seen : List Record
  pub gone : List Record
  pub after : List Record
  pub out_is : left_of sights ≡ before ++ seen
  pub passed_is : frames waiting ++ passed_of sights ≡ gone ++ after
  pub same_bytes : bytes_of seen ≡ bytes_of gone
  pub in_bound : AllZip (IsInBound m) gone seen
  pub from_before : AllByRecursion (λ r. left_at m r < m.before) before
  pub none_waiting : AllApart m (frames waiting) before
  pub none_policed : AllApart m (frames policed) before
  pub none_to_come : AllApart m (own_of sights) before
  pub to_come : AllByRecursion (MayCome m last) after
  pub once : begun ≡ true → before ≡ []

abbrev From : Limits → Option ℕ → List Sight → Type 0
From m last sights = (waiting policed : List Numbered) (begun : Bool) → AllFine (all_told (state m waiting policed begun) last sights) → Keeps m last waiting policed begun sights

comes_by : (late : Bool) (mark : Mark) → IsFine (cond late (After mark) (Missing mark)) → late ≡ true
comes_by true mark fine = refl
comes_by false mark fine = absurd (speaks fine)

may_come : (m : Limits) (last : Option ℕ) (ns : List Numbered) → AllFine (map (ended m last) ns) → AllByRecursion (MayCome m last) (frames ns)
may_come m last [] fine = tt
may_come m None (n ∷ ns) fine = absurd (speaks fine.0)
may_come m (Some last) (n ∷ ns) fine =
    (ltb-true last (n.frame.stamp + most_of m) (comes_by (nat_lt last (n.frame.stamp + most_of m)) (mark_of n) fine.0), may_come m (Some last) ns fine.1)

at_end : (m : Limits) (last : Option ℕ) → From m last []
at_end m last waiting policed begun fine = record {
  before = [];
  seen = [];
  gone = [];
  after = frames waiting;
  out_is = refl;
  passed_is = append-nil (frames waiting);
  same_bytes = refl;
  in_bound = tt;
  from_before = tt;
  none_waiting = tt;
  none_policed = tt;
  none_to_come = tt;
  to_come = may_come m last waiting fine;
  once = λ is. refl;
}

on_passed : (m : Limits) (last : Option ℕ) (n : Numbered) (sights : List Sight) → From m last sights → From m last (Came n true ∷ sights)
on_passed m last n sights from waiting policed begun fine =
    let k = from (waiting ++ n ∷ []) policed begun fine in
    let both = all_parts m waiting (n ∷ []) k.before k.none_waiting in
    record {
      before = k.before;
      seen = k.seen;
      gone = k.gone;
      after = k.after;
      out_is = k.out_is;
      passed_is = sym (pushed waiting n (passed_of sights)) ∙ k.passed_is;
      same_bytes = k.same_bytes;
      in_bound = k.in_bound;
      from_before = k.from_before;
      none_waiting = both.0;
      none_policed = k.none_policed;
      none_to_come = all_more m n (own_of sights) k.before both.1 k.none_to_come;
      to_come = k.to_come;
      once = k.once;
    }

on_policed : (m : Limits) (last : Option ℕ) (n : Numbered) (sights : List Sight) → From m last sights → From m last (Came n false ∷ sights)
on_policed m last n sights from waiting policed begun fine =
    let k = from waiting (policed ++ n ∷ []) begun fine in
    let both = all_parts m policed (n ∷ []) k.before k.none_policed in
    record {
      before = k.before;
      seen = k.seen;
      gone = k.gone;
      after = k.after;
      out_is = k.out_is;
      passed_is = k.passed_is;
      same_bytes = k.same_bytes;
      in_bound = k.in_bound;
      from_before = k.from_before;
      none_waiting = k.none_waiting;
      none_policed = both.0;
      none_to_come = all_more m n (own_of sights) k.before both.1 k.none_to_come;
      to_come = k.to_come;
      once = k.once;
    }

-- a record that is taken for the first frame that waits
on_pair : (m : Limits) (last : Option ℕ) (left : Numbered) (sights : List Sight) (waiting policed kept : List Numbered) (begun : Bool) → From m last sights
    → (staying : List Numbered) (i : ℕ) → waiting ≡ staying → partner (state m staying kept begun) left.frame ≡ Some i
    → AllFine (pairing_told (Some i) (state m staying kept begun) left) → AllFine (all_told (paired (Some i) (state m staying kept begun)) last sights)
    → Keeps m last waiting policed begun (Left left ∷ sights)
on_pair m last left sights waiting policed kept begun from [] i whole is fine rest = let never : None ≡ Some i = is in cc
on_pair m last left sights waiting policed kept begun from (w ∷ ws) (suc j) whole is fine rest = absurd (speaks fine.0)
on_pair m last left sights waiting policed kept begun from (w ∷ ws) zero whole is fine rest =
    let pair : Pair = record { came = mark_of w; left = mark_of left; delay = left_at m left.frame - w.frame.stamp } in
    let bounds = kept_by (is_early m w.frame left.frame) (is_late m w.frame left.frame) pair fine.0 in
    let least = ltb-false (left_at m left.frame + m.tolerance) (w.frame.stamp + m.least + cost_of m.speed (size_of (length w.frame.bytes))) bounds.0 in
    let most = ltb-false (w.frame.stamp + most_of m) (left_at m left.frame) bounds.1 in
    let same : bytes_eq w.frame.bytes left.frame.bytes ≡ true =
    elim (either_some (position (λ n. in_bound m n.frame left.frame) (w ∷ ws)) (position (λ n. came_within m 2 n.frame left.frame) (w ∷ ws)) is) [
      | inl first ↦ (three_parts (bytes_eq w.frame.bytes left.frame.bytes) (not (is_early m w.frame left.frame)) (nat_le (left_at m left.frame) (w.frame.stamp + most_of m))
          (first_passes (λ (n : Numbered). in_bound m n.frame left.frame) w ws first)).0
      | inr second ↦ (three_parts (bytes_eq w.frame.bytes left.frame.bytes) (nat_lt w.frame.stamp (left_at m left.frame)) (nat_le (left_at m left.frame) (w.frame.stamp + 2 * most_of m))
          (first_passes (λ (n : Numbered). came_within m 2 n.frame left.frame) w ws second)).0
    ] in
    let bytes : w.frame.bytes ≡ left.frame.bytes = (bytes_eq-Decides w.frame.bytes left.frame.bytes).0 same in
    let k = from ws kept true rest in
    record {
      before = [];
      seen = left.frame ∷ k.seen;
      gone = w.frame ∷ k.gone;
      after = k.after;
      out_is = ap (λ (rs : List Record). left.frame ∷ rs) (k.out_is ∙ ap (λ (rs : List Record). rs ++ k.seen) (k.once refl));
      passed_is = ap (λ (ns : List Numbered). frames ns ++ passed_of sights) whole ∙ ap (λ (rs : List Record). w.frame ∷ rs) k.passed_is;
      same_bytes = ap (λ (b : List ℕ). b ∷ bytes_of k.seen) (sym bytes) ∙ ap (λ (bs : List (List ℕ)). w.frame.bytes ∷ bs) k.same_bytes;
      in_bound = (record { least = least; most = most }, k.in_bound);
      from_before = tt;
      none_waiting = tt;
      none_policed = tt;
      none_to_come = tt;
      to_come = k.to_come;
      once = λ is. refl;
    }

-- a record that is taken for no frame
on_none : (m : Limits) (last : Option ℕ) (left : Numbered) (sights : List Sight) (waiting policed : List Numbered) (begun : Bool) → From m last sights
    → AreInOrder m (Left left ∷ sights)
    → (staying : List Numbered) → waiting ≡ staying → (g : ℕ) → AllByRecursion (λ n. stays m (left_at m left.frame) n.frame ≡ false) (take g policed)
    → partner (state m staying (drop g policed) begun) left.frame ≡ None
    → AllFine (pairing_told None (state m staying (drop g policed) begun) left) → AllFine (all_told (state m staying (drop g policed) begun) last sights)
    → Keeps m last waiting policed begun (Left left ∷ sights)
on_none m last left sights waiting policed begun from order staying whole g far is fine rest =
    let at = left_at m left.frame in
    let soon = before_by (not begun && nat_lt at m.before && not (list_any (λ n. came_within m 2 n.frame left.frame) (drop g policed)))
    (mark_of left) (option_map mark_of (find (λ n. came_within m 1 n.frame left.frame) (drop g policed))) fine.0 in
    let parts = three_parts (not begun) (nat_lt at m.before) (not (list_any (λ n. came_within m 2 n.frame left.frame) (drop g policed))) soon in
    let k = from staying (drop g policed) begun rest in
    let near = none_passes (λ (n : Numbered). came_within m 2 n.frame left.frame) staying
    (second_none (position (λ n. in_bound m n.frame left.frame) staying) (position (λ n. came_within m 2 n.frame left.frame) staying) is) in
    let late : AllByRecursion (λ r. at ≤ left_at m r) k.before =
    first_part m at k.before k.seen (subst (λ (rs : List Record). AllByRecursion (λ r. at ≤ left_at m r) rs) k.out_is order.1) in
    let policed_here = apart_join m (take g policed) (drop g policed) left.frame (far_apart m at (take g policed) left.frame (omega arith) far)
    (none_apart m (drop g policed) left.frame (not_true (list_any (λ n. came_within m 2 n.frame left.frame) (drop g policed)) parts.2)) in
    let policed_later = all_join m (take g policed) (drop g policed) k.before (all_far m at (take g policed) k.before far late) k.none_policed in
    record {
      before = left.frame ∷ k.before;
      seen = k.seen;
      gone = k.gone;
      after = k.after;
      out_is = ap (λ (rs : List Record). left.frame ∷ rs) k.out_is;
      passed_is = ap (λ (ns : List Numbered). frames ns ++ passed_of sights) whole ∙ k.passed_is;
      same_bytes = k.same_bytes;
      in_bound = k.in_bound;
      from_before = (ltb-true at m.before parts.1, k.from_before);
      none_waiting = subst (λ (ns : List Numbered). AllApart m (frames ns) (left.frame ∷ k.before)) (sym whole) (each_apart m staying left.frame near, k.none_waiting);
      none_policed = subst (λ (ns : List Numbered). AllApart m (frames ns) (left.frame ∷ k.before)) (take-append-drop g policed) (policed_here, policed_later);
      none_to_come = (late_apart m (own_of sights) left.frame order.0, k.none_to_come);
      to_come = k.to_come;
      once = λ begins. absurd (let never : false ≡ true = sym (not_true begun parts.0) ∙ begins in cc);
    }

by_partner : (m : Limits) (last : Option ℕ) (left : Numbered) (sights : List Sight) → From m last sights → AreInOrder m (Left left ∷ sights)
    → (waiting policed : List Numbered) (begun : Bool) (staying : List Numbered) → waiting ≡ staying
    → (g : ℕ) → AllByRecursion (λ n. stays m (left_at m left.frame) n.frame ≡ false) (take g policed)
    → (o : Option ℕ) → partner (state m staying (drop g policed) begun) left.frame ≡ o
    → AllFine (pairing_told o (state m staying (drop g policed) begun) left) → AllFine (all_told (paired o (state m staying (drop g policed) begun)) last sights)
    → Keeps m last waiting policed begun (Left left ∷ sights)
by_partner m last left sights from order waiting policed begun staying whole g far None is fine rest =
    on_none m last left sights waiting policed begun from order staying whole g far is fine rest
by_partner m last left sights from order waiting policed begun staying whole g far (Some i) is fine rest =
    on_pair m last left sights waiting policed (drop g policed) begun from staying i whole is fine rest

on_left : (m : Limits) (last : Option ℕ) (left : Numbered) (sights : List Sight) → From m last sights → AreInOrder m (Left left ∷ sights)
    → From m last (Left left ∷ sights)
on_left m last left sights from order waiting policed begun fine =
    let at = left_at m left.frame in
    let g = gone_by m at waiting in
    let h = gone_by m at policed in
    let kept = state m (drop g waiting) (drop h policed) begun in
    let next = paired (partner kept left.frame) kept in
    let here = missing (take g waiting) ++ pairing_told (partner kept left.frame) kept left in
    let told = fine_parts here (all_told next last sights) (grouped here (told_by_all next sights) (end_told (after_all next sights) last) fine) in
    let first = fine_parts (missing (take g waiting)) (pairing_told (partner kept left.frame) kept left) told.0 in
    let far : AllByRecursion (λ n. stays m at n.frame ≡ false) (take h policed) = fail_first (λ (n : Numbered). stays m at n.frame) policed in
    by_partner m last left sights from order waiting policed begun (drop g waiting) (all_wait g waiting first.0) h far (partner kept left.frame) refl first.1 told.1

-- what waits or was policed and came too long ago by an instant
on_going : (m : Limits) (last : Option ℕ) (at : ℕ) (sights : List Sight) → From m last sights → AreInOrder m (Until at ∷ sights)
    → From m last (Until at ∷ sights)
on_going m last at sights from order waiting policed begun fine =
    let g = gone_by m at waiting in
    let h = gone_by m at policed in
    let kept = state m (drop g waiting) (drop h policed) begun in
    let here = missing (take g waiting) in
    let told = fine_parts here (all_told kept last sights) (grouped here (told_by_all kept sights) (end_told (after_all kept sights) last) fine) in
    let whole = all_wait g waiting told.0 in
    let k = from (drop g waiting) (drop h policed) begun told.1 in
    let far : AllByRecursion (λ n. stays m at n.frame ≡ false) (take h policed) = fail_first (λ (n : Numbered). stays m at n.frame) policed in
    let late : AllByRecursion (λ r. at ≤ left_at m r) k.before =
    first_part m at k.before k.seen (subst (λ (rs : List Record). AllByRecursion (λ r. at ≤ left_at m r) rs) k.out_is order.0) in
    let policed_later = all_join m (take h policed) (drop h policed) k.before (all_far m at (take h policed) k.before far late) k.none_policed in
    record {
      before = k.before;
      seen = k.seen;
      gone = k.gone;
      after = k.after;
      out_is = k.out_is;
      passed_is = ap (λ (ns : List Numbered). frames ns ++ passed_of sights) whole ∙ k.passed_is;
      same_bytes = k.same_bytes;
      in_bound = k.in_bound;
      from_before = k.from_before;
      none_waiting = subst (λ (ns : List Numbered). AllApart m (frames ns) k.before) (sym whole) k.none_waiting;
      none_policed = subst (λ (ns : List Numbered). AllApart m (frames ns) k.before) (take-append-drop h policed) policed_later;
      none_to_come = k.none_to_come;
      to_come = k.to_come;
      once = k.once;
    }

keep : (m : Limits) (last : Option ℕ) (sights : List Sight) → AreInOrder m sights → From m last sights
keep m last [] order = at_end m last
keep m last (Came n true ∷ sights) order = on_passed m last n sights (keep m last sights order)
keep m last (Came n false ∷ sights) order = on_policed m last n sights (keep m last sights order)
keep m last (Left left ∷ sights) order = on_left m last left sights (keep m last sights order.2) order
keep m last (Until at ∷ sights) order = on_going m last at sights (keep m last sights order.1) order

pub fine_is_kept : FineIsKept
fine_is_kept m last sights order fine =
    let k = keep m last sights order [] [] false fine in
    record {
      before = k.before;
      seen = k.seen;
      gone = k.gone;
      after = k.after;
      out_is = k.out_is;
      passed_is = k.passed_is;
      same_bytes = k.same_bytes;
      in_bound = k.in_bound;
      from_before = k.from_before;
      of_none = k.none_to_come;
      to_come = k.to_come;
    }
