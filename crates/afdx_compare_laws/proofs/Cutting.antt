-- Pairs of frames and records of a span of recordings.
use Rattle.std.proofs.Common.{◌≡◌, ℕ, ◌+◌, ◌*◌, ◌-◌, ◌<◌, ◌≤◌, Bool, true, false, List, [], ◌∷◌, ◌++◌, map, drop, length, Option, Some, None, refl, sym, ap, subst, ◌∙◌, arith, inl, inr, append_assoc}
use Rattle.std.specs.Prelude.{filter, nat_le, nat_lt, ◌&&◌}
use Rattle.std.specs.List.{AllByRecursion, AllZip}
use Rattle.std.specs.Option.{option_map}
use Rattle.std.specs.Str.{bytes_eq}
use Rattle.std.proofs.ByRecursion.{all_kept_by, kept_by_passes}
use Rattle.std.proofs.lemmas.Bool.{cases_Bool, and_parts, and_from, and_left, and_right, false_from_ne_true, leb-true, leb-false, le-leb, ltb-true}
use Rattle.std.proofs.lemmas.List.Elements.{filter-append}
use Rattle.std.proofs.lemmas.Slice.Eq.{bytes_eq-Decides}
use Rattle.afdx_units.specs.declared.line.Speed.{Speed}
use Rattle.afdx_units.specs.declared.line.Speed.TheVariants.{Ten, Hundred, Thousand}
use Rattle.afdx_units.specs.Line.{size_of, tick_of, cost_of}
use Rattle.afdx_pcap.specs.Record.{Record}
use Rattle.afdx_account.specs.Level.{InOrder}
use Rattle.afdx_filter.specs.Frame.{frame_of}
use Rattle.afdx_pairing.specs.declared.limits.Limits.{Limits}
use Rattle.afdx_pairing.specs.Limits.{left_at, most_of, came_within}
use Rattle.afdx_pairing.specs.Kept.{IsInBound, Apart, MayCome, bytes_of, IsKeptFor}
use Rattle.afdx_following.specs.declared.watch.Start.{Start}
use Rattle.afdx_following.specs.declared.watch.Start.TheVariants.{Rest, Cut}
use Rattle.afdx_following.specs.Watch.{has_begun, has_not_ended, before_of}
use Rattle.afdx_compare_laws.proofs.Narrowing.{begun_stays, ended_stays, is_within, kept_one, left_one, all_map, all_first, all_both, order_first, order_last}

-- a record that left counts
abbrev pub is_seen : Start → Option ℕ → ℕ → Record → Bool
is_seen s u tolerance x = has_begun s 0 x.stamp && has_not_ended u (x.stamp + tolerance)

abbrev first_of : List (List ℕ) → List ℕ
first_of [] = []
first_of (b ∷ bs) = b

-- ---- what limits say of one pair

gap_pays : (speed : Speed) (gap size : ℕ) → gap ≤ 20 → gap * tick_of speed ≤ cost_of speed size
gap_pays Ten gap size le = omega (arith, le)
gap_pays Hundred gap size le = omega (arith, le)
gap_pays Thousand gap size le = omega (arith, le)

-- a frame and the record that left of it
pub record IsPair (m : Limits) (came left : Record) : Type 0 where
  pub within : IsInBound m came left
  pub bytes : left.bytes ≡ came.bytes

came_before : (m : Limits) (came left : Record) → m.gap ≤ 20 → IsPair m came left → came.stamp ≤ left.stamp + m.tolerance
came_before m came left le is =
    let pays = gap_pays m.speed m.gap (size_of (length came.bytes)) le in
    let least = is.within.least in
    omega (arith, pays, least)

begun_with : (s : Start) (tolerance came left : ℕ) → came ≤ left + tolerance → has_begun s tolerance came ≡ true → has_begun s 0 left ≡ true
begun_with Rest tolerance came left le is = refl
begun_with (Cut from) tolerance came left le is = let first = leb-true (from + tolerance) came is in le-leb (from + 0) left (omega (arith, first, le))

on_with : (u : Option ℕ) (tolerance came left : ℕ) → came ≤ left + tolerance → has_not_ended u (left + tolerance) ≡ true → has_not_ended u came ≡ true
on_with None tolerance came left le is = refl
on_with (Some until) tolerance came left le is = let last = leb-true (left + tolerance) until is in le-leb came until (omega (arith, last, le))

left_before : (s : Start) (tolerance bound came at : ℕ) → has_begun s tolerance came ≡ false → at ≤ came + (bound + tolerance) → at < before_of s tolerance bound
left_before Rest tolerance bound came at not le = absurd (let never = not in cc)
left_before (Cut from) tolerance bound came at not le = let past = leb-false (from + tolerance) came not in omega (arith, past, le)

came_later : (s : Start) (tolerance a b : ℕ) → has_begun s tolerance a ≡ false → has_begun s tolerance b ≡ true → a < b
came_later Rest tolerance a b not is = absurd (let never = not in cc)
came_later (Cut from) tolerance a b not is = let past = leb-false (from + tolerance) a not in let first = leb-true (from + tolerance) b is in omega (arith, past, first)

-- ---- the limits of a span

-- recordings that have an end are longer than the tolerance
abbrev pub IsLong : ℕ → Option ℕ → Type 0
IsLong tolerance None = Unit {0}
IsLong tolerance (Some until) = tolerance ≤ until

abbrev pub limits_within : Start → Limits → Limits
limits_within s m = record m { before = before_of s m.tolerance m.bound }

abbrev pub last_within : Option ℕ → Limits → Option ℕ
last_within u m = option_map (λ last. last + m.gap * tick_of m.speed) (option_map (λ until. until - m.tolerance) u)

may_come : (s : Start) (u : Option ℕ) (m : Limits) (came left : Record) → IsLong m.tolerance u → has_not_ended u (left.stamp + m.tolerance) ≡ false
    → left_at m left ≤ came.stamp + most_of m → MayCome (limits_within s m) (last_within u m) came
may_come s None m came left long over le = absurd (let never = over in cc)
may_come s (Some until) m came left long over le = let past = leb-false (left.stamp + m.tolerance) until over in omega (arith, long, past, le)

-- none of these frames has a frame's bytes and came within the bound after it
abbrev pub IsLone : Limits → List Record → Record → Type 0
IsLone m own a = AllByRecursion (λ f. a.bytes ≡ f.bytes → a.stamp < f.stamp → a.stamp + most_of m ≤ f.stamp) own

-- the records that count are of the first frames, and the others may come
pub record GoesOn (s : Start) (u : Option ℕ) (m : Limits) (gone seen : List Record) : Type 0 where
  pub went : List Record
  pub after : List Record
  pub passed_is : filter (is_within s u m.tolerance) gone ≡ went ++ after
  pub same_bytes : bytes_of (filter (is_seen s u m.tolerance) seen) ≡ bytes_of went
  pub in_bound : AllZip (IsInBound (limits_within s m)) went (filter (is_seen s u m.tolerance) seen)
  pub to_come : AllByRecursion (MayCome (limits_within s m) (last_within u m)) after

module _ (s : Start) (u : Option ℕ) (m : Limits) (paid : m.gap ≤ 20) (long : IsLong m.tolerance u) where
  abbrev keeps : Record → Bool
  keeps = is_within s u m.tolerance

  abbrev sees : Record → Bool
  sees = is_seen s u m.tolerance

  abbrev Comes : Record → Type 0
  Comes f = MayCome (limits_within s m) (last_within u m) f

  inside : (came left : Record) → IsInBound m came left → IsInBound (limits_within s m) came left
  inside came left is = record { least = is.least; most = is.most }

  -- ---- past the end

  none_seen : (seen : List Record) (since : ℕ) → InOrder since (map frame_of seen) → has_not_ended u (since + m.tolerance) ≡ false → filter sees seen ≡ []
  none_seen [] since order over = refl
  none_seen (r ∷ seen) since order over =
      let first = order.0 in
      let past = ended_stays u (since + m.tolerance) (r.stamp + m.tolerance) over (omega (arith, first)) in
      let not : sees r ≡ false = and_right (has_begun s 0 r.stamp) (has_not_ended u (r.stamp + m.tolerance)) past in
      left_one sees r seen not ∙ none_seen seen r.stamp order.1 past

  all_come : (gone seen : List Record) (since : ℕ) → InOrder since (map frame_of seen) → has_not_ended u (since + m.tolerance) ≡ false → AllZip (IsPair m) gone seen
      → AllByRecursion Comes gone
  all_come [] seen since order over pairs = tt
  all_come (a ∷ gone) [] since order over pairs = absurd pairs
  all_come (a ∷ gone) (r ∷ seen) since order over pairs =
      let first = order.0 in
      let past = ended_stays u (since + m.tolerance) (r.stamp + m.tolerance) over (omega (arith, first)) in
      (may_come s u m a r long past pairs.0.within.most, all_come gone seen r.stamp order.1 past pairs.1)

  -- ---- from the beginning on

  goes_on : (gone seen : List Record) (since at : ℕ) → has_begun s m.tolerance since ≡ true → InOrder since (map frame_of gone) → InOrder at (map frame_of seen)
      → AllZip (IsPair m) gone seen → GoesOn s u m gone seen
  goes_on [] [] since at begun order left_order pairs = record { went = []; after = []; passed_is = refl; same_bytes = refl; in_bound = tt; to_come = tt }
  goes_on [] (r ∷ seen) since at begun order left_order pairs = absurd pairs
  goes_on (a ∷ gone) [] since at begun order left_order pairs = absurd pairs
  goes_on (a ∷ gone) (r ∷ seen) since at begun order left_order pairs =
      let has = begun_stays s m.tolerance since a.stamp begun order.0 in
      let near = came_before m a r paid pairs.0 in
      let left = begun_with s m.tolerance a.stamp r.stamp near has in
      elim (cases_Bool (has_not_ended u (r.stamp + m.tolerance))) [
        | inl on ↦ (let rest = goes_on gone seen a.stamp r.stamp has order.1 left_order.1 pairs.1 in
            let kept : keeps a ≡ true = and_from _ _ has (on_with u m.tolerance a.stamp r.stamp near on) in
            let is_seen_too : sees r ≡ true = and_from _ _ left on in
            record {
              went = a ∷ rest.went;
              after = rest.after;
              passed_is = kept_one keeps a gone kept ∙ ap (λ (xs : List Record). a ∷ xs) rest.passed_is;
              same_bytes = ap bytes_of (kept_one sees r seen is_seen_too) ∙ ap (λ (b : List ℕ). b ∷ bytes_of (filter sees seen)) pairs.0.bytes
                  ∙ ap (λ (bs : List (List ℕ)). a.bytes ∷ bs) rest.same_bytes;
              in_bound = subst (λ (xs : List Record). AllZip (IsInBound (limits_within s m)) (a ∷ rest.went) xs) (sym (kept_one sees r seen is_seen_too)) (inside a r pairs.0.within, rest.in_bound);
              to_come = rest.to_come;
            })
        | inr over ↦ (let none = none_seen (r ∷ seen) r.stamp (omega arith, left_order.1) over in
            record {
              went = [];
              after = filter keeps (a ∷ gone);
              passed_is = refl;
              same_bytes = ap bytes_of none;
              in_bound = subst (λ (xs : List Record). AllZip (IsInBound (limits_within s m)) [] xs) (sym none) tt;
              to_come = all_kept_by keeps Comes (a ∷ gone) (all_come (a ∷ gone) (r ∷ seen) r.stamp (omega arith, left_order.1) over pairs);
            })
      ]

  -- ---- before it

  module _ (own : List Record) (own_begun : AllByRecursion (λ f. has_begun s m.tolerance f.stamp ≡ true) own) where
    abbrev IsKept : List Record → List Record → Type 0
    IsKept gone seen = IsKeptFor (limits_within s m) (last_within u m) own (filter keeps gone) (filter sees seen)

    apart : (a r : Record) → has_begun s m.tolerance a.stamp ≡ false → left_at m r ≤ a.stamp + most_of m → r.bytes ≡ a.bytes → (fs : List Record)
        → AllByRecursion (λ f. has_begun s m.tolerance f.stamp ≡ true) fs
        → IsLone m fs a → Apart (limits_within s m) fs r
    apart a r not le same [] begun lone = tt
    apart a r not le same (f ∷ fs) begun lone = (
      false_from_ne_true (came_within (limits_within s m) 2 f r) (λ is.
          let outer = and_parts (bytes_eq f.bytes r.bytes && nat_lt f.stamp (left_at m r)) (nat_le (left_at m r) (f.stamp + 2 * most_of m)) is in
          let inner = and_parts (bytes_eq f.bytes r.bytes) (nat_lt f.stamp (left_at m r)) outer.0 in
          let equal : f.bytes ≡ r.bytes = (bytes_eq-Decides f.bytes r.bytes).0 inner.0 in
          let before = ltb-true f.stamp (left_at m r) inner.1 in
          let later = came_later s m.tolerance a.stamp f.stamp not begun.0 in
          let far = lone.0 (sym (equal ∙ same)) later in
          omega (arith, before, far, le)),
      apart a r not le same fs begun.1 lone.1,
    )

    begins : (gone seen : List Record) (since at : ℕ) → InOrder since (map frame_of gone) → InOrder at (map frame_of seen) → AllZip (IsPair m) gone seen
        → AllByRecursion (IsLone m own) gone → IsKept gone seen
    begins [] [] since at order left_order pairs lone =
        record { before = []; seen = []; gone = []; after = []; out_is = refl; passed_is = refl; same_bytes = refl; in_bound = tt; from_before = tt; of_none = tt; to_come = tt }
    begins [] (r ∷ seen) since at order left_order pairs lone = absurd pairs
    begins (a ∷ gone) [] since at order left_order pairs lone = absurd pairs
    begins (a ∷ gone) (r ∷ seen) since at order left_order pairs lone =
        elim (cases_Bool (has_begun s m.tolerance a.stamp)) [
          | inl has ↦ (let on = goes_on (a ∷ gone) (r ∷ seen) a.stamp at has (omega arith, order.1) left_order pairs in
              record {
                before = [];
                seen = filter sees (r ∷ seen);
                gone = on.went;
                after = on.after;
                out_is = refl;
                passed_is = on.passed_is;
                same_bytes = on.same_bytes;
                in_bound = on.in_bound;
                from_before = tt;
                of_none = tt;
                to_come = on.to_come;
              })
          | inr not ↦ (let rest = begins gone seen a.stamp r.stamp order.1 left_order.1 pairs.1 lone.1 in
              let left_out : keeps a ≡ false = and_left (has_begun s m.tolerance a.stamp) (has_not_ended u a.stamp) not in
              elim (cases_Bool (sees r)) [
                | inl is ↦ record {
                  before = r ∷ rest.before;
                  seen = rest.seen;
                  gone = rest.gone;
                  after = rest.after;
                  out_is = kept_one sees r seen is ∙ ap (λ (xs : List Record). r ∷ xs) rest.out_is;
                  passed_is = left_one keeps a gone left_out ∙ rest.passed_is;
                  same_bytes = rest.same_bytes;
                  in_bound = rest.in_bound;
                  from_before = (left_before s m.tolerance m.bound a.stamp (left_at m r) not pairs.0.within.most, rest.from_before);
                  of_none = (apart a r not pairs.0.within.most pairs.0.bytes own own_begun lone.0, rest.of_none);
                  to_come = rest.to_come;
                }
                | inr unseen ↦ record {
                  before = rest.before;
                  seen = rest.seen;
                  gone = rest.gone;
                  after = rest.after;
                  out_is = left_one sees r seen unseen ∙ rest.out_is;
                  passed_is = left_one keeps a gone left_out ∙ rest.passed_is;
                  same_bytes = rest.same_bytes;
                  in_bound = rest.in_bound;
                  from_before = rest.from_before;
                  of_none = rest.of_none;
                  to_come = rest.to_come;
                }
              ])
        ]

-- ---- all of a link at a port

pairs_of : (m : Limits) (gone seen : List Record) → bytes_of seen ≡ bytes_of gone → AllZip (IsInBound m) gone seen → AllZip (IsPair m) gone seen
pairs_of m [] [] same within = tt
pairs_of m [] (r ∷ seen) same within = absurd within
pairs_of m (a ∷ gone) [] same within = absurd within
pairs_of m (a ∷ gone) (r ∷ seen) same within =
    (record { within = within.0; bytes = ap first_of same }, pairs_of m gone seen (ap (λ (bs : List (List ℕ)). drop 1 bs) same) within.1)

-- what is kept at a port of a link, is kept of each span: where the span begins no sooner and ends no later, and frames that came before it
-- are of other bytes than those that came within the bound after them
pub kept_within : (s : Start) (u last : Option ℕ) (m : Limits) (own passed out : List Record) → m.gap ≤ 20 → IsLong m.tolerance u → m.before ≤ before_of s m.tolerance m.bound
    → ((f : Record) → MayCome m last f → MayCome (limits_within s m) (last_within u m) f)
    → InOrder 0 (map frame_of passed) → InOrder 0 (map frame_of out)
    → AllByRecursion (IsLone m (filter (is_within s u m.tolerance) own)) passed
    → IsKeptFor m last own passed out
    → IsKeptFor (limits_within s m) (last_within u m) (filter (is_within s u m.tolerance) own) (filter (is_within s u m.tolerance) passed) (filter (is_seen s u m.tolerance) out)
kept_within s u last m own passed out paid long less later order left_order lone kept =
    let keeping = is_within s u m.tolerance in
    let seeing = is_seen s u m.tolerance in
    let within = filter keeping own in
    let begun = all_map (λ (f : Record). keeping f ≡ true) (λ f. has_begun s m.tolerance f.stamp ≡ true) (λ f is. (and_parts (has_begun s m.tolerance f.stamp) (has_not_ended u f.stamp) is).0)
    within (kept_by_passes keeping own) in
    let gone_order = order_first kept.gone kept.after 0 (subst (λ (xs : List Record). InOrder 0 (map frame_of xs)) kept.passed_is order) in
    let seen_order = order_last kept.before kept.seen 0 (subst (λ (xs : List Record). InOrder 0 (map frame_of xs)) kept.out_is left_order) in
    let lone_gone = all_first (IsLone m within) kept.gone kept.after (subst (AllByRecursion (IsLone m within)) kept.passed_is lone) in
    let inner = begins s u m paid long within begun kept.gone kept.seen 0 0 gone_order seen_order (pairs_of m kept.gone kept.seen kept.same_bytes kept.in_bound) lone_gone in
    record {
      before = filter seeing kept.before ++ inner.before;
      seen = inner.seen;
      gone = inner.gone;
      after = inner.after ++ filter keeping kept.after;
      out_is = ap (filter seeing) kept.out_is ∙ filter-append seeing kept.before kept.seen ∙ ap (λ (xs : List Record). filter seeing kept.before ++ xs) inner.out_is
          ∙ sym (append_assoc (filter seeing kept.before) inner.before inner.seen);
      passed_is = ap (filter keeping) kept.passed_is ∙ filter-append keeping kept.gone kept.after ∙ ap (λ (xs : List Record). xs ++ filter keeping kept.after) inner.passed_is
          ∙ append_assoc inner.gone inner.after (filter keeping kept.after);
      same_bytes = inner.same_bytes;
      in_bound = inner.in_bound;
      from_before = all_both (λ (r : Record). left_at m r < before_of s m.tolerance m.bound) (filter seeing kept.before) inner.before
          (all_kept_by seeing (λ r. left_at m r < before_of s m.tolerance m.bound) kept.before
          (all_map (λ (r : Record). left_at m r < m.before) (λ r. left_at m r < before_of s m.tolerance m.bound)
          (λ r first. omega (arith, first, less)) kept.before kept.from_before)) inner.from_before;
      of_none = all_both (Apart (limits_within s m) within) (filter seeing kept.before) inner.before
          (all_kept_by seeing (Apart (limits_within s m) within) kept.before
          (all_map (Apart m own) (Apart (limits_within s m) within) (λ r. all_kept_by keeping (λ f. came_within m 2 f r ≡ false) own) kept.before kept.of_none)) inner.of_none;
      to_come = all_both (MayCome (limits_within s m) (last_within u m)) inner.after (filter keeping kept.after) inner.to_come
          (all_kept_by keeping (MayCome (limits_within s m) (last_within u m)) kept.after (all_map (MayCome m last) (MayCome (limits_within s m) (last_within u m)) later kept.after kept.to_come));
    }
