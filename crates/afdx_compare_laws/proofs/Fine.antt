-- Where the records of a port are what left of the passed frames, nothing that is told of it speaks against the switch.
use Rattle.std.proofs.Common.{◌≡◌, ℕ, ◌+◌, ◌*◌, ◌-◌, ◌<◌, ◌≤◌, nat_le, nat_lt, not, Bool, true, false, ◌&&◌, cond}
use Rattle.std.proofs.Common.{List, [], ◌∷◌, ◌++◌, map, take, drop, length, Option, Some, None, refl, sym, ap, subst, ◌∙◌, arith}
use Rattle.std.specs.List.{AllByRecursion, AllZip, position, position_or_len, list_any, find}
use Rattle.std.specs.Option.{option_or, option_map}
use Rattle.std.specs.Str.{bytes_eq}
use Rattle.std.proofs.lemmas.Bool.{and_parts, and_from, or_from, not_from_false, true≢false, leb-true, ltb-false, lt-ltb, le-ltb, le-leb, false_from_ne_true}
use Rattle.std.proofs.lemmas.List.{append-nil, append_assoc, take-append-drop}
use Rattle.std.proofs.lemmas.Slice.Eq.{bytes_eq-Decides}
use Rattle.afdx_units.specs.Line.{size_of, cost_of}
use Rattle.afdx_pcap.specs.Record.{Record}
use Rattle.afdx_pairing.specs.declared.limits.Limits.{Limits}
use Rattle.afdx_pairing.specs.declared.event.Mark.{Mark}
use Rattle.afdx_pairing.specs.declared.event.Pair.{Pair}
use Rattle.afdx_pairing.specs.declared.event.Event.{Event}
use Rattle.afdx_pairing.specs.declared.event.Event.TheVariants.{Kept, Early, Late, Missing, After, Extra, Before}
use Rattle.afdx_pairing.specs.Events.{Numbered, mark_of}
use Rattle.afdx_pairing.specs.Limits.{left_at, most_of, is_early, is_late, in_bound, came_within, stays}
use Rattle.afdx_pairing.specs.Pairing.{gone_by, partner, missing, paired, pairing_told, ended, end_told}
use Rattle.afdx_pairing.specs.Kept.{IsInBound, Apart, MayCome, bytes_of, Sight, Came, Left, Until, own_of, passed_of, left_of, AreInOrder, after_all, told_by_all, all_told, IsFine}
use Rattle.afdx_pairing.proofs.Firsts.{first_here, first_later, placed, not_placed}
use Rattle.afdx_pairing.proofs.Keeping.{AllFine, frames, state, pushed, AllApart, all_parts, all_join, Keeps}
use Rattle.afdx_compare_laws.specs.Fine.{LeavesLater, IsByEnd, AreByEnd, KeptIsFine}

-- ---- lists

all_more : (P : Record → Type 0) (ns : List Numbered) (n : Numbered) → AllByRecursion P (frames ns) → P n.frame → AllByRecursion P (frames (ns ++ n ∷ []))
all_more P [] n all one = (one, tt)
all_more P (x ∷ ns) n all one = (all.0, all_more P ns n all.1 one)

pub first_is : {A : Type 0} (x y : A) (xs ys : List A) → x ∷ xs ≡ y ∷ ys → x ≡ y
first_is x y xs ys same = cc

pub rest_is : {A : Type 0} (x y : A) (xs ys : List A) → x ∷ xs ≡ y ∷ ys → xs ≡ ys
rest_is x y xs ys same = cc

pub none_is : {A : Type 0} (x : A) (xs : List A) → [] ≡ x ∷ xs → ⊥
none_is x xs same = cc

pub none_after : (xs ys : List Record) → [] ≡ xs ++ ys → ys ≡ []
none_after [] ys same = sym same
none_after (x ∷ xs) ys same = absurd (none_is x (xs ++ ys) same)

pub none_gone : (seen gone : List Record) → seen ≡ [] → bytes_of seen ≡ bytes_of gone → gone ≡ []
none_gone seen [] none same = refl
none_gone seen (g ∷ gone) none same = absurd (none_is g.bytes (bytes_of gone) (sym (ap (λ (rs : List Record). bytes_of rs) none) ∙ same))

all_passed : (P : Record → Type 0) (sights : List Sight) → AllByRecursion P (own_of sights) → AllByRecursion P (passed_of sights)
all_passed P [] all = tt
all_passed P (Came n true ∷ sights) all = (all.0, all_passed P sights all.1)
all_passed P (Came n false ∷ sights) all = all_passed P sights all.1
all_passed P (Left n ∷ sights) all = all_passed P sights all
all_passed P (Until at ∷ sights) all = all_passed P sights all

-- ---- apart from frames

-- of the first frame alone
all_first : (m : Limits) (f : Record) (own before : List Record) → AllApart m (f ∷ own) before → AllApart m (f ∷ []) before
all_first m f own [] all = tt
all_first m f own (r ∷ before) all = ((all.0.0, tt), all_first m f own before all.1)

all_rest : (m : Limits) (f : Record) (own before : List Record) → AllApart m (f ∷ own) before → AllApart m own before
all_rest m f own [] all = tt
all_rest m f own (r ∷ before) all = (all.0.1, all_rest m f own before all.1)

none_any : (m : Limits) (ns : List Numbered) (left : Record) → Apart m (frames ns) left → list_any (λ n. came_within m 2 n.frame left) ns ≡ false
none_any m [] left all = refl
none_any m (n ∷ ns) left all = or_from (came_within m 2 n.frame left) (list_any (λ (k : Numbered). came_within m 2 k.frame left) ns) all.0 (none_any m ns left all.1)

passed_over : {X : Type 0} (p : X → Bool) (xs : List X) → AllByRecursion (λ x. p x ≡ false) xs → position_or_len p xs ≡ length xs
passed_over p [] all = refl
passed_over p (x ∷ xs) all = omega (arith, passed_over p xs all.1, first_later p x xs all.0)

none_found : {X : Type 0} (p : X → Bool) (xs : List X) → AllByRecursion (λ x. p x ≡ false) xs → position p xs ≡ None
none_found p xs all = not_placed p xs (passed_over p xs all)

pub early_least : (m : Limits) (f left : Record) (b : Bool) → is_early m f left ≡ b → not b ≡ true
    → f.stamp + m.least + cost_of m.speed (size_of (length f.bytes)) ≤ left_at m left + m.tolerance
early_least m f left true is never = absurd (true≢false (sym never))
early_least m f left false is soon = ltb-false (left_at m left + m.tolerance) (f.stamp + m.least + cost_of m.speed (size_of (length f.bytes))) is

-- a frame that a record left within the bounds of came before it left
pub not_within : (m : Limits) (f left : Record) → LeavesLater m f → came_within m 2 f left ≡ false → in_bound m f left ≡ false
not_within m f left later apart = false_from_ne_true (in_bound m f left) (λ is.
    let all = and_parts (bytes_eq f.bytes left.bytes && not (is_early m f left)) (nat_le (left_at m left) (f.stamp + most_of m)) is in
    let first = and_parts (bytes_eq f.bytes left.bytes) (not (is_early m f left)) all.0 in
    let least = early_least m f left (is_early m f left) refl first.1 in
    let most = leb-true (left_at m left) (f.stamp + most_of m) all.1 in
    let within = and_from (bytes_eq f.bytes left.bytes && nat_lt f.stamp (left_at m left)) (nat_le (left_at m left) (f.stamp + 2 * most_of m))
    (and_from (bytes_eq f.bytes left.bytes) (nat_lt f.stamp (left_at m left)) first.0 (lt-ltb f.stamp (left_at m left) (omega (arith, least, later))))
    (le-leb (left_at m left) (f.stamp + 2 * most_of m) (omega (arith, most))) in
    true≢false (sym within ∙ apart))

none_within : (m : Limits) (ns : List Numbered) (left : Record) → AllByRecursion (LeavesLater m) (frames ns) → Apart m (frames ns) left
    → AllByRecursion (λ n. in_bound m n.frame left ≡ false) ns
none_within m [] left later apart = tt
none_within m (n ∷ ns) left later apart = (not_within m n.frame left later.0 apart.0, none_within m ns left later.1 apart.1)

none_near : (m : Limits) (ns : List Numbered) (left : Record) → Apart m (frames ns) left → AllByRecursion (λ n. came_within m 2 n.frame left ≡ false) ns
none_near m [] left apart = tt
none_near m (n ∷ ns) left apart = (apart.0, none_near m ns left apart.1)

-- ---- what waits is let go by no instant

module _ (m : Limits) (last : Option ℕ) where
  may_wait : (end : Option ℕ) (at : ℕ) (f : Record) → MayCome m end f → IsByEnd m end at → at ≤ f.stamp + 2 * most_of m
  may_wait None at f comes up = absurd comes
  may_wait (Some end) at f comes up = omega (arith, comes, up)

  waits_by : (at : ℕ) (x : Record) (xs seen gone after : List Record) → x ∷ xs ≡ gone ++ after → bytes_of seen ≡ bytes_of gone → AllZip (IsInBound m) gone seen
      → AllByRecursion (λ r. at ≤ left_at m r) seen → AllByRecursion (MayCome m last) after → IsByEnd m last at → at ≤ x.stamp + 2 * most_of m
  waits_by at x xs seen [] after passed same within late comes up =
      may_wait last at x (subst (λ (rs : List Record). AllByRecursion (MayCome m last) rs) (sym passed) comes).0 up
  waits_by at x xs [] (g ∷ gone) after passed same within late comes up = absurd (none_is g.bytes (bytes_of gone) same)
  waits_by at x xs (y ∷ seen) (g ∷ gone) after passed same within late comes up =
      let stamp = ap (λ (r : Record). r.stamp) (first_is x g xs (gone ++ after) passed) in
      let most = within.0.most in
      let first = late.0 in
      omega (arith, stamp, most, first)

  none_gone_by : (at : ℕ) (waiting : List Numbered) (passed seen gone after : List Record) → frames waiting ++ passed ≡ gone ++ after → bytes_of seen ≡ bytes_of gone
      → AllZip (IsInBound m) gone seen → AllByRecursion (λ r. at ≤ left_at m r) seen → AllByRecursion (MayCome m last) after → IsByEnd m last at → gone_by m at waiting ≡ 0
  none_gone_by at [] passed seen gone after passed_is same within late comes up = refl
  none_gone_by at (x ∷ ws) passed seen gone after passed_is same within late comes up =
      let by = waits_by at x.frame (frames ws ++ passed) seen gone after passed_is same within late comes up in
      first_here (λ (n : Numbered). stays m at n.frame) x ws (le-leb at (x.frame.stamp + 2 * most_of m) by)

  -- ---- what is still to be told

  abbrev Follows : List Sight → Type 0
  Follows sights = (waiting policed : List Numbered) (begun : Bool) → AllByRecursion (LeavesLater m) (frames waiting) → Keeps m last waiting policed begun sights
      → AllFine (all_told (state m waiting policed begun) last sights)

  comes_fine : (late : Bool) (mark : Mark) → late ≡ true → IsFine (cond late (After mark) (Missing mark))
  comes_fine true mark is = refl
  comes_fine false mark is = absurd (true≢false (sym is))

  ended_fine : (end : Option ℕ) (ns : List Numbered) → AllByRecursion (MayCome m end) (frames ns) → AllFine (map (ended m end) ns)
  ended_fine end [] comes = tt
  ended_fine None (n ∷ ns) comes = absurd comes.0
  ended_fine (Some end) (n ∷ ns) comes =
      (comes_fine (nat_lt end (n.frame.stamp + most_of m)) (mark_of n) (lt-ltb end (n.frame.stamp + most_of m) comes.0), ended_fine (Some end) ns comes.1)

  at_end : Follows []
  at_end waiting policed begun later k =
      let gone = none_gone k.seen k.gone (none_after k.before k.seen k.out_is) k.same_bytes in
      let all : frames waiting ≡ k.after = sym (append-nil (frames waiting)) ∙ k.passed_is ∙ ap (λ (rs : List Record). rs ++ k.after) gone in
      ended_fine last waiting (subst (λ (rs : List Record). AllByRecursion (MayCome m last) rs) (sym all) k.to_come)

  on_passed : (n : Numbered) (sights : List Sight) → Follows sights → LeavesLater m n.frame → Follows (Came n true ∷ sights)
  on_passed n sights follows slow waiting policed begun later k = follows (waiting ++ n ∷ []) policed begun (all_more (LeavesLater m) waiting n later slow) (record {
    before = k.before;
    seen = k.seen;
    gone = k.gone;
    after = k.after;
    out_is = k.out_is;
    passed_is = pushed waiting n (passed_of sights) ∙ k.passed_is;
    same_bytes = k.same_bytes;
    in_bound = k.in_bound;
    from_before = k.from_before;
    none_waiting = all_join m waiting (n ∷ []) k.before k.none_waiting (all_first m n.frame (own_of sights) k.before k.none_to_come);
    none_policed = k.none_policed;
    none_to_come = all_rest m n.frame (own_of sights) k.before k.none_to_come;
    to_come = k.to_come;
    once = k.once;
  })

  on_policed : (n : Numbered) (sights : List Sight) → Follows sights → Follows (Came n false ∷ sights)
  on_policed n sights follows waiting policed begun later k = follows waiting (policed ++ n ∷ []) begun later (record {
    before = k.before;
    seen = k.seen;
    gone = k.gone;
    after = k.after;
    out_is = k.out_is;
    passed_is = k.passed_is;
    same_bytes = k.same_bytes;
    in_bound = k.in_bound;
    from_before = k.from_before;
    none_waiting = k.none_waiting;
    none_policed = all_join m policed (n ∷ []) k.before k.none_policed (all_first m n.frame (own_of sights) k.before k.none_to_come);
    none_to_come = all_rest m n.frame (own_of sights) k.before k.none_to_come;
    to_come = k.to_come;
    once = k.once;
  })

  -- by an instant only policed frames are let go
  kept_policed : (at : ℕ) (waiting policed : List Numbered) (begun : Bool) (sights : List Sight) → Keeps m last waiting policed begun sights
      → Keeps m last waiting (drop (gone_by m at policed) policed) begun sights
  kept_policed at waiting policed begun sights k =
      let g = gone_by m at policed in
      record {
        before = k.before;
        seen = k.seen;
        gone = k.gone;
        after = k.after;
        out_is = k.out_is;
        passed_is = k.passed_is;
        same_bytes = k.same_bytes;
        in_bound = k.in_bound;
        from_before = k.from_before;
        none_waiting = k.none_waiting;
        none_policed = (all_parts m (take g policed) (drop g policed) k.before
            (subst (λ (ns : List Numbered). AllApart m (frames ns) k.before) (sym (take-append-drop g policed)) k.none_policed)).1;
        none_to_come = k.none_to_come;
        to_come = k.to_come;
        once = k.once;
      }

  -- what is kept from then on
  kept_going : (at : ℕ) (waiting policed : List Numbered) (begun : Bool) (sights : List Sight) → Keeps m last waiting policed begun (Until at ∷ sights)
      → Keeps m last waiting policed begun sights
  kept_going at waiting policed begun sights k = record {
    before = k.before;
    seen = k.seen;
    gone = k.gone;
    after = k.after;
    out_is = k.out_is;
    passed_is = k.passed_is;
    same_bytes = k.same_bytes;
    in_bound = k.in_bound;
    from_before = k.from_before;
    none_waiting = k.none_waiting;
    none_policed = k.none_policed;
    none_to_come = k.none_to_come;
    to_come = k.to_come;
    once = k.once;
  }

  late_parts : (at : ℕ) (xs ys : List Record) → AllByRecursion (λ r. at ≤ left_at m r) (xs ++ ys) → AllByRecursion (λ r. at ≤ left_at m r) ys
  late_parts at [] ys all = all
  late_parts at (x ∷ xs) ys all = late_parts at xs ys all.1

  on_going : (at : ℕ) (sights : List Sight) → Follows sights → AreInOrder m (Until at ∷ sights) → IsByEnd m last at → Follows (Until at ∷ sights)
  on_going at sights follows order up waiting policed begun later k =
      let late = late_parts at k.before k.seen (subst (λ (rs : List Record). AllByRecursion (λ r. at ≤ left_at m r) rs) k.out_is order.0) in
      let none = none_gone_by at waiting (passed_of sights) k.seen k.gone k.after k.passed_is k.same_bytes k.in_bound late k.to_come up in
      let rest = follows waiting (drop (gone_by m at policed) policed) begun later (kept_policed at waiting policed begun sights (kept_going at waiting policed begun sights k)) in
      subst (λ (g : ℕ). AllFine ((missing (take g waiting) ++ told_by_all (state m (drop g waiting) (drop (gone_by m at policed) policed) begun) sights)
      ++ end_told (after_all (state m (drop g waiting) (drop (gone_by m at policed) policed) begun) sights) last)) (sym none) rest

  -- ---- a record left

  abbrev told_of_left : Numbered → List Sight → List Numbered → List Numbered → Bool → Option ℕ → List Event
  told_of_left n sights waiting policed begun to =
      let kept = state m waiting policed begun in
      pairing_told to kept n ++ all_told (paired to kept) last sights

  before_fine : (first : Bool) (mark : Mark) (policed : Option Mark) → first ≡ true → IsFine (cond first (Before mark) (Extra mark policed))
  before_fine true mark policed is = refl
  before_fine false mark policed is = absurd (true≢false (sym is))

  never_twice : (b : Bool) → (b ≡ true → ⊥) → not b ≡ true
  never_twice true never = absurd (never refl)
  never_twice false never = refl

  -- it came before the recording
  on_before : (n : Numbered) (sights : List Sight) (waiting policed : List Numbered) (begun : Bool) → Follows sights → AllByRecursion (LeavesLater m) (frames waiting)
      → (b : Record) (before seen gone after : List Record) → n.frame ∷ left_of sights ≡ (b ∷ before) ++ seen → frames waiting ++ passed_of sights ≡ gone ++ after
      → bytes_of seen ≡ bytes_of gone → AllZip (IsInBound m) gone seen → AllByRecursion (λ r. left_at m r < m.before) (b ∷ before)
      → AllApart m (frames waiting) (b ∷ before) → AllApart m (frames policed) (b ∷ before) → AllApart m (own_of sights) (b ∷ before)
      → AllByRecursion (MayCome m last) after → (begun ≡ true → ⊥)
      → AllFine (told_of_left n sights waiting policed begun (partner (state m waiting policed begun) n.frame))
  on_before n sights waiting policed begun follows later b before seen gone after out_is passed_is same within from wait police to_come comes never =
      let is = first_is n.frame b (left_of sights) (before ++ seen) out_is in
      let apart = subst (λ (r : Record). Apart m (frames waiting) r) (sym is) wait.0 in
      let policed_apart = subst (λ (r : Record). Apart m (frames policed) r) (sym is) police.0 in
      let soon = subst (λ (r : Record). left_at m r < m.before) (sym is) from.0 in
      let near = none_found (λ (x : Numbered). came_within m 2 x.frame n.frame) waiting (none_near m waiting n.frame apart) in
      let in_bounds = none_found (λ (x : Numbered). in_bound m x.frame n.frame) waiting (none_within m waiting n.frame later apart) in
      let none : partner (state m waiting policed begun) n.frame ≡ None =
      ap (λ (o : Option ℕ). option_or o (position (λ (x : Numbered). came_within m 2 x.frame n.frame) waiting)) in_bounds ∙ near in
      let first = and_from (not begun && nat_lt (left_at m n.frame) m.before) (not (list_any (λ (x : Numbered). came_within m 2 x.frame n.frame) policed))
      (and_from (not begun) (nat_lt (left_at m n.frame) m.before) (never_twice begun never) (lt-ltb (left_at m n.frame) m.before soon))
      (not_from_false (list_any (λ (x : Numbered). came_within m 2 x.frame n.frame) policed) (none_any m policed n.frame policed_apart)) in
      let here = before_fine (not begun && nat_lt (left_at m n.frame) m.before && not (list_any (λ (x : Numbered). came_within m 2 x.frame n.frame) policed)) (mark_of n)
      (option_map mark_of (find (λ (x : Numbered). came_within m 1 x.frame n.frame) policed)) first in
      let rest = follows waiting policed begun later (record {
        before = before;
        seen = seen;
        gone = gone;
        after = after;
        out_is = rest_is n.frame b (left_of sights) (before ++ seen) out_is;
        passed_is = passed_is;
        same_bytes = same;
        in_bound = within;
        from_before = from.1;
        none_waiting = wait.1;
        none_policed = police.1;
        none_to_come = to_come.1;
        to_come = comes;
        once = λ is. absurd (never is);
      }) in
      subst (λ (to : Option ℕ). AllFine (told_of_left n sights waiting policed begun to)) (sym none) (here, rest)

  taken_fine : (early late : Bool) (pair : Pair) → early ≡ false → late ≡ false → IsFine (cond early (Early pair) (cond late (Late pair) (Kept pair)))
  taken_fine true late pair soon past = absurd (true≢false soon)
  taken_fine false true pair soon past = absurd (true≢false past)
  taken_fine false false pair soon past = refl

  -- it is of the first frame that waits
  on_pair : (n : Numbered) (sights : List Sight) (policed : List Numbered) (begun : Bool) → Follows sights → (x : Numbered) (ws : List Numbered)
      → AllByRecursion (LeavesLater m) (frames (x ∷ ws)) → (y g : Record) (seen gone after : List Record) → n.frame ∷ left_of sights ≡ y ∷ seen
      → frames (x ∷ ws) ++ passed_of sights ≡ (g ∷ gone) ++ after → bytes_of (y ∷ seen) ≡ bytes_of (g ∷ gone) → AllZip (IsInBound m) (g ∷ gone) (y ∷ seen)
      → AllByRecursion (MayCome m last) after → AllFine (told_of_left n sights (x ∷ ws) policed begun (partner (state m (x ∷ ws) policed begun) n.frame))
  on_pair n sights policed begun follows x ws later y g seen gone after out_is passed_is same within comes =
      let came : x.frame ≡ g = first_is x.frame g (frames ws ++ passed_of sights) (gone ++ after) passed_is in
      let left : n.frame ≡ y = first_is n.frame y (left_of sights) seen out_is in
      let bounds = subst (λ (r : Record). IsInBound m x.frame r) (sym left) (subst (λ (f : Record). IsInBound m f y) (sym came) within.0) in
      let bytes : x.frame.bytes ≡ n.frame.bytes =
      ap (λ (f : Record). f.bytes) came ∙ sym (first_is y.bytes g.bytes (bytes_of seen) (bytes_of gone) same) ∙ ap (λ (f : Record). f.bytes) (sym left) in
      let least = bounds.least in
      let most = bounds.most in
      let early = le-ltb (left_at m n.frame + m.tolerance) (x.frame.stamp + m.least + cost_of m.speed (size_of (length x.frame.bytes))) least in
      let late = le-ltb (x.frame.stamp + most_of m) (left_at m n.frame) most in
      let is : in_bound m x.frame n.frame ≡ true =
      and_from (bytes_eq x.frame.bytes n.frame.bytes && not (is_early m x.frame n.frame)) (nat_le (left_at m n.frame) (x.frame.stamp + most_of m))
      (and_from (bytes_eq x.frame.bytes n.frame.bytes) (not (is_early m x.frame n.frame)) ((bytes_eq-Decides x.frame.bytes n.frame.bytes).1 bytes) (not_from_false (is_early m x.frame n.frame) early))
      (le-leb (left_at m n.frame) (x.frame.stamp + most_of m) most) in
      let first = first_here (λ (k : Numbered). in_bound m k.frame n.frame) x ws is in
      let found = placed (λ (k : Numbered). in_bound m k.frame n.frame) (x ∷ ws) 0 first (omega arith) in
      let to : partner (state m (x ∷ ws) policed begun) n.frame ≡ Some 0 =
      ap (λ (o : Option ℕ). option_or o (position (λ (k : Numbered). came_within m 2 k.frame n.frame) (x ∷ ws))) found in
      let rest = follows ws policed true later.1 (record {
        before = [];
        seen = seen;
        gone = gone;
        after = after;
        out_is = rest_is n.frame y (left_of sights) seen out_is;
        passed_is = rest_is x.frame g (frames ws ++ passed_of sights) (gone ++ after) passed_is;
        same_bytes = rest_is y.bytes g.bytes (bytes_of seen) (bytes_of gone) same;
        in_bound = within.1;
        from_before = tt;
        none_waiting = tt;
        none_policed = tt;
        none_to_come = tt;
        to_come = comes;
        once = λ is. refl;
      }) in
      let here = taken_fine (is_early m x.frame n.frame) (is_late m x.frame n.frame) (record { came = mark_of x; left = mark_of n; delay = left_at m n.frame - x.frame.stamp }) early late in
      subst (λ (o : Option ℕ). AllFine (told_of_left n sights (x ∷ ws) policed begun o)) (sym to) (here, rest)

  -- it is of a frame that is still to come, which none is
  no_later : (n : Numbered) (y g : Record) (sights : List Sight) (gone after : List Record) → passed_of sights ≡ (g ∷ gone) ++ after → n.frame ≡ y
      → AllByRecursion (λ f. left_at m n.frame ≤ f.stamp) (own_of sights) → AllByRecursion (LeavesLater m) (own_of sights) → IsInBound m g y → ⊥
  no_later n y g sights gone after passed left late slow within =
      let first = (subst (λ (rs : List Record). AllByRecursion (λ f. left_at m n.frame ≤ f.stamp) rs) passed (all_passed (λ f. left_at m n.frame ≤ f.stamp) sights late)).0 in
      let later = (subst (λ (rs : List Record). AllByRecursion (LeavesLater m) rs) passed (all_passed (LeavesLater m) sights slow)).0 in
      let least = within.least in
      let same = ap (λ (r : Record). left_at m r) left in
      omega (arith, first, later, least, same)

  on_seen : (n : Numbered) (sights : List Sight) (waiting policed : List Numbered) (begun : Bool) → Follows sights → AllByRecursion (LeavesLater m) (frames waiting)
      → AllByRecursion (λ f. left_at m n.frame ≤ f.stamp) (own_of sights) → AllByRecursion (LeavesLater m) (own_of sights)
      → (seen gone after : List Record) → n.frame ∷ left_of sights ≡ seen → frames waiting ++ passed_of sights ≡ gone ++ after
      → bytes_of seen ≡ bytes_of gone → AllZip (IsInBound m) gone seen → AllByRecursion (MayCome m last) after
      → AllFine (told_of_left n sights waiting policed begun (partner (state m waiting policed begun) n.frame))
  on_seen n sights waiting policed begun follows later late slow [] gone after out_is passed_is same within comes = absurd (none_is n.frame (left_of sights) (sym out_is))
  on_seen n sights waiting policed begun follows later late slow (y ∷ seen) [] after out_is passed_is same within comes = absurd (none_is y.bytes (bytes_of seen) (sym same))
  on_seen n sights [] policed begun follows later late slow (y ∷ seen) (g ∷ gone) after out_is passed_is same within comes =
      absurd (no_later n y g sights gone after passed_is (first_is n.frame y (left_of sights) seen out_is) late slow within.0)
  on_seen n sights (x ∷ ws) policed begun follows later late slow (y ∷ seen) (g ∷ gone) after out_is passed_is same within comes =
      on_pair n sights policed begun follows x ws later y g seen gone after out_is passed_is same within comes

  by_before : (n : Numbered) (sights : List Sight) (waiting policed : List Numbered) (begun : Bool) → Follows sights → AllByRecursion (LeavesLater m) (frames waiting)
      → AllByRecursion (λ f. left_at m n.frame ≤ f.stamp) (own_of sights) → AllByRecursion (LeavesLater m) (own_of sights)
      → (before seen gone after : List Record) → n.frame ∷ left_of sights ≡ before ++ seen → frames waiting ++ passed_of sights ≡ gone ++ after
      → bytes_of seen ≡ bytes_of gone → AllZip (IsInBound m) gone seen → AllByRecursion (λ r. left_at m r < m.before) before
      → AllApart m (frames waiting) before → AllApart m (frames policed) before → AllApart m (own_of sights) before
      → AllByRecursion (MayCome m last) after → (begun ≡ true → before ≡ [])
      → AllFine (told_of_left n sights waiting policed begun (partner (state m waiting policed begun) n.frame))
  by_before n sights waiting policed begun follows later late slow [] seen gone after out_is passed_is same within from wait police to_come comes once =
      on_seen n sights waiting policed begun follows later late slow seen gone after out_is passed_is same within comes
  by_before n sights waiting policed begun follows later late slow (b ∷ before) seen gone after out_is passed_is same within from wait police to_come comes once =
      on_before n sights waiting policed begun follows later b before seen gone after out_is passed_is same within from wait police to_come comes
      (λ begins. none_is b before (sym (once begins)))

  on_left : (n : Numbered) (sights : List Sight) → Follows sights → AreInOrder m (Left n ∷ sights) → IsByEnd m last (left_at m n.frame) → AllByRecursion (LeavesLater m) (own_of sights)
      → Follows (Left n ∷ sights)
  on_left n sights follows order up slow waiting policed begun later k =
      let at = left_at m n.frame in
      let policed_now = drop (gone_by m at policed) policed in
      let here : AllByRecursion (λ r. at ≤ left_at m r) (n.frame ∷ left_of sights) = (omega arith, order.1) in
      let late = late_parts at k.before k.seen (subst (λ (rs : List Record). AllByRecursion (λ r. at ≤ left_at m r) rs) k.out_is here) in
      let none = none_gone_by at waiting (passed_of sights) k.seen k.gone k.after k.passed_is k.same_bytes k.in_bound late k.to_come up in
      let now = kept_policed at waiting policed begun (Left n ∷ sights) k in
      let told = by_before n sights waiting policed_now begun follows later order.0 slow now.before now.seen now.gone now.after now.out_is now.passed_is now.same_bytes now.in_bound
      now.from_before now.none_waiting now.none_policed now.none_to_come now.to_come now.once in
      let to = partner (state m waiting policed_now begun) n.frame in
      let next = paired to (state m waiting policed_now begun) in
      let all : AllFine ((pairing_told to (state m waiting policed_now begun) n ++ told_by_all next sights) ++ end_told (after_all next sights) last) =
      subst (λ (events : List Event). AllFine events)
      (sym (append_assoc (pairing_told to (state m waiting policed_now begun) n) (told_by_all next sights) (end_told (after_all next sights) last))) told in
      subst (λ (g : ℕ). let kept = state m (drop g waiting) policed_now begun in let after = paired (partner kept n.frame) kept in
      AllFine (((missing (take g waiting) ++ pairing_told (partner kept n.frame) kept n) ++ told_by_all after sights) ++ end_told (after_all after sights) last)) (sym none) all

  follow : (sights : List Sight) → AreInOrder m sights → AreByEnd m last sights → AllByRecursion (LeavesLater m) (own_of sights) → Follows sights
  follow [] order up slow = at_end
  follow (Came n true ∷ sights) order up slow = on_passed n sights (follow sights order up slow.1) slow.0
  follow (Came n false ∷ sights) order up slow = on_policed n sights (follow sights order up slow.1)
  follow (Left n ∷ sights) order up slow = on_left n sights (follow sights order.2 up.1 slow) order up.0 slow
  follow (Until at ∷ sights) order up slow = on_going at sights (follow sights order.1 up.1 slow) order up.0

none_of_none : (m : Limits) (before : List Record) → AllApart m [] before
none_of_none m [] = tt
none_of_none m (r ∷ before) = (tt, none_of_none m before)

pub kept_is_fine : KeptIsFine
kept_is_fine m last sights order up slow k = follow m last sights order up slow [] [] false tt (record {
  before = k.before;
  seen = k.seen;
  gone = k.gone;
  after = k.after;
  out_is = k.out_is;
  passed_is = k.passed_is;
  same_bytes = k.same_bytes;
  in_bound = k.in_bound;
  from_before = k.from_before;
  none_waiting = none_of_none m k.before;
  none_policed = none_of_none m k.before;
  none_to_come = k.of_none;
  to_come = k.to_come;
  once = λ is. absurd (true≢false (sym is));
})
