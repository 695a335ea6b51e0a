-- Where recordings end with the greatest stamp of all, what was taken before it was known counts all the same.
use Rattle.std.proofs.Common.{◌≡◌, ℕ, ◌+◌, ◌≤◌, max, Bool, true, false, List, [], ◌∷◌, ◌++◌, Option, Some, None, refl, sym, ap, subst, ◌∙◌, arith}
use Rattle.std.specs.Prelude.{nat_le, ◌&&◌, ◌||◌, not, if◌then◌else◌, slice_get}
use Rattle.std.specs.List.{AllByRecursion}
use Rattle.std.specs.Option.{is_some, option_or, option_map_or}
use Rattle.std.proofs.lemmas.Bool.{leb-true, le-leb}
use Rattle.afdx_units.specs.Time.{earlier_of}
use Rattle.afdx_pairing.specs.Events.{Numbered}
use Rattle.afdx_following.specs.declared.watch.Watch.{Watch}
use Rattle.afdx_following.specs.Watch.{has_begun, has_not_ended, has_frame, has_record}
use Rattle.afdx_merging.specs.Merge.{Arrival}
use Rattle.afdx_merging.proofs.Firsts.{earlier_joins}
use Rattle.afdx_recordings.specs.declared.recordings.Recordings.{Recordings}
use Rattle.afdx_compare.specs.declared.sources.Source.{Source}
use Rattle.afdx_compare.specs.Comparison.{Comparison, place_of_own, own_came, with_came, link_at, record_left, with_left, with_until}
use Rattle.afdx_compare.specs.Arrivals.{with_record_of, with_arrivals, greater, least_of, greatest_of}
use Rattle.afdx_compare.specs.Inner.Due.{counts_as, counts}
use Rattle.afdx_compare.specs.Inner.Held.{is_settled_of}
use Rattle.afdx_compare.proofs.Calling.{seen_at}
use Rattle.afdx_compare.proofs.Next.{arrival_same}

-- ---- the least stamp

-- with one more, and with the least of others
pub least_more : (xs : List Arrival) (a : Arrival) (rest : Option ℕ)
    → earlier_of (least_of xs) (earlier_of (Some a.head.frame.stamp) rest) ≡ earlier_of (least_of (xs ++ a ∷ [])) rest
least_more [] a rest = refl
least_more (x ∷ xs) a rest =
    earlier_joins (Some x.head.frame.stamp) (least_of xs) (earlier_of (Some a.head.frame.stamp) rest)
    ∙ ap (λ (o : Option ℕ). earlier_of (Some x.head.frame.stamp) o) (least_more xs a rest)
    ∙ sym (earlier_joins (Some x.head.frame.stamp) (least_of (xs ++ a ∷ [])) rest)

-- ---- the greatest stamp

abbrev pub instant_of : Option ℕ → ℕ
instant_of at = option_map_or (λ x. x) at 0

both_greater : (one other : ℕ) (rest : Option ℕ) → greater one (Some (greater other rest)) ≡ greater other (Some (greater one rest))
both_greater one other None = omega arith
both_greater one other (Some n) = omega arith

pub greatest_more : (xs : List Arrival) (a : Arrival) → greatest_of (xs ++ a ∷ []) ≡ Some (greater a.head.frame.stamp (greatest_of xs))
greatest_more [] a = refl
greatest_more (x ∷ xs) a =
    ap (λ (o : Option ℕ). Some (greater x.head.frame.stamp o)) (greatest_more xs a)
    ∙ ap (λ (n : ℕ). Some n) (both_greater x.head.frame.stamp a.head.frame.stamp (greatest_of xs))

greater_least : (one : ℕ) (rest : Option ℕ) → one ≤ greater one rest
greater_least one None = omega arith
greater_least one (Some n) = omega arith

greater_rest : (one : ℕ) (rest : Option ℕ) → instant_of rest ≤ greater one rest
greater_rest one None = omega arith
greater_rest one (Some n) = omega arith

most_later : (at later : ℕ) (xs : List Arrival) → at ≤ later → AllByRecursion (λ a. a.head.frame.stamp ≤ at) xs → AllByRecursion (λ a. a.head.frame.stamp ≤ later) xs
most_later at later [] le all = tt
most_later at later (x ∷ xs) le all = (omega (arith, le, all.0), most_later at later xs le all.1)

pub all_most : (xs : List Arrival) → AllByRecursion (λ a. a.head.frame.stamp ≤ instant_of (greatest_of xs)) xs
all_most [] = tt
all_most (x ∷ xs) = (
  greater_least x.head.frame.stamp (greatest_of xs),
  most_later (instant_of (greatest_of xs)) (greater x.head.frame.stamp (greatest_of xs)) xs (greater_rest x.head.frame.stamp (greatest_of xs)) (all_most xs),
)

pub most_first : (at : ℕ) (xs ys : List Arrival) → AllByRecursion (λ a. a.head.frame.stamp ≤ at) (xs ++ ys) → AllByRecursion (λ a. a.head.frame.stamp ≤ at) xs
most_first at [] ys all = tt
most_first at (x ∷ xs) ys all = (all.0, most_first at xs ys all.1)

-- what is settled stays so with a greater one
settled_later : (at : Bool) (stamp tolerance one : ℕ) (rest : Option ℕ) → (at || option_map_or (λ g. nat_le (stamp + tolerance) g) rest false) ≡ true
    → (at || nat_le (stamp + tolerance) (greater one rest)) ≡ true
settled_later true stamp tolerance one rest settled = refl
settled_later false stamp tolerance one None settled = absurd (let never = settled in cc)
settled_later false stamp tolerance one (Some g) settled =
    le-leb (stamp + tolerance) (max one g) (let le = leb-true (stamp + tolerance) g settled in omega (arith, le))

one_later : (r : Recordings) (one : ℕ) (rest : Option ℕ) (of : Option Source) (a : Arrival) → is_settled_of r rest of a ≡ true → is_settled_of r (Some (greater one rest)) of a ≡ true
one_later r one rest None a settled = settled
one_later r one rest (Some s) a settled = settled_later (not s.leaves || is_some r.until) a.head.frame.stamp r.tolerance one rest settled

pub all_later : (r : Recordings) (captures : List Source) (one : ℕ) (rest : Option ℕ) (xs : List Arrival) → AllByRecursion (λ a. is_settled_of r rest (slice_get captures a.place) a ≡ true) xs
    → AllByRecursion (λ a. is_settled_of r (Some (greater one rest)) (slice_get captures a.place) a ≡ true) xs
all_later r captures one rest [] all = tt
all_later r captures one rest (x ∷ xs) all = (one_later r one rest (slice_get captures x.place) x all.0, all_later r captures one rest xs all.1)

-- ---- what counts still

abbrev pub up_to : ℕ → Watch → Watch
up_to until w = record w { until = Some until }

ended_still : (b : Bool) (ended : Option ℕ) (until at : ℕ) → has_not_ended ended at ≡ true → at ≤ until → (b && has_not_ended (Some until) at) ≡ (b && has_not_ended ended at)
ended_still b ended until at has le = ap (λ (v : Bool). b && v) (le-leb at until le ∙ sym has)

settled_le : (stamp tolerance : ℕ) (greatest : Option ℕ) → option_map_or (λ g. nat_le (stamp + tolerance) g) greatest false ≡ true → stamp + tolerance ≤ instant_of greatest
settled_le stamp tolerance None settled = absurd (let never = settled in cc)
settled_le stamp tolerance (Some g) settled = leb-true (stamp + tolerance) g settled

-- where no end was given
side_still : (w : Watch) (leaves : Bool) (greatest : Option ℕ) (stamp : ℕ) → w.until ≡ None → stamp ≤ instant_of greatest
    → ((not leaves || false) || option_map_or (λ g. nat_le (stamp + w.tolerance) g) greatest false) ≡ true
    → counts_as (up_to (instant_of greatest) w) leaves stamp ≡ counts_as w leaves stamp
side_still w true greatest stamp none most settled =
    ended_still (has_begun w.start 0 stamp) w.until (instant_of greatest) (stamp + w.tolerance) (ap (λ (o : Option ℕ). has_not_ended o (stamp + w.tolerance)) none)
    (settled_le stamp w.tolerance greatest settled)
side_still w false greatest stamp none most settled =
    ended_still (has_begun w.start w.tolerance stamp) w.until (instant_of greatest) stamp (ap (λ (o : Option ℕ). has_not_ended o stamp) none) most

until_still : (w : Watch) (ended greatest : Option ℕ) (tolerance : ℕ) (leaves : Bool) (stamp : ℕ) → w.until ≡ ended → w.tolerance ≡ tolerance → stamp ≤ instant_of greatest
    → ((not leaves || is_some ended) || option_map_or (λ g. nat_le (stamp + tolerance) g) greatest false) ≡ true
    → counts_as (up_to (instant_of (option_or ended greatest)) w) leaves stamp ≡ counts_as w leaves stamp
until_still w None greatest tolerance leaves stamp none same most settled =
    side_still w leaves greatest stamp none most (subst (λ (k : ℕ). ((not leaves || false) || option_map_or (λ g. nat_le (stamp + k) g) greatest false) ≡ true) (sym same) settled)
until_still w (Some until) greatest tolerance leaves stamp is same most settled =
    ap (λ (o : Option ℕ). counts_as (record w { until = o }) leaves stamp) (sym is)

one_still : (w : Watch) (r : Recordings) (greatest : Option ℕ) (of : Option Source) (a : Arrival) → w.until ≡ r.until → w.tolerance ≡ r.tolerance
    → a.head.frame.stamp ≤ instant_of greatest → is_settled_of r greatest of a ≡ true → counts (up_to (instant_of (option_or r.until greatest)) w) of a ≡ counts w of a
one_still w r greatest None a until same most settled = refl
one_still w r greatest (Some s) a until same most settled = until_still w r.until greatest r.tolerance s.leaves a.head.frame.stamp until same most settled

-- ---- the end may be told later

came_until : (b : Bool) (of : Option ℕ) (until : ℕ) (n : Numbered) (c : Comparison)
    → with_until until (if b then own_came of n c else c) ≡ (if b then own_came of n (with_until until c) else with_until until c)
came_until true None until n c = refl
came_until true (Some place) until n c = refl
came_until false of until n c = refl

left_until : (b : Bool) (to : Option (ℕ × ℕ)) (until : ℕ) (s : Source) (n : Numbered) (c : Comparison)
    → with_until until (if b then record_left s.place to n (seen_at s c) else c) ≡ (if b then record_left s.place to n (seen_at s (with_until until c)) else with_until until c)
left_until true None until s n c = refl
left_until true (Some (link, output)) until s n c = refl
left_until false to until s n c = refl

side_until : (leaves : Bool) (until : ℕ) (s : Source) (n : Numbered) (c : Comparison) → counts_as (up_to until c.watch) leaves n.frame.stamp ≡ counts_as c.watch leaves n.frame.stamp
    → with_until until (if leaves then with_left s n c else with_came s.port n c) ≡ (if leaves then with_left s n (with_until until c) else with_came s.port n (with_until until c))
side_until true until s n c still =
    let to = link_at s.port n.frame.bytes c in
    left_until (has_record c.watch n.frame.stamp) to until s n c
    ∙ ap (λ (b : Bool). if b then record_left s.place to n (seen_at s (with_until until c)) else with_until until c) (sym still)
side_until false until s n c still =
    let of = place_of_own c.table s.port n.frame in
    came_until (has_frame c.watch n.frame.stamp) of until n c
    ∙ ap (λ (b : Bool). if b then own_came of n (with_until until c) else with_until until c) (sym still)

one_until : (of : Option Source) (until : ℕ) (a : Arrival) (c : Comparison) → counts (up_to until c.watch) of a ≡ counts c.watch of a
    → with_until until (with_record_of of a c) ≡ with_record_of of a (with_until until c)
one_until None until a c still = refl
one_until (Some s) until a c still = side_until s.leaves until s a.head c still

pub all_until : (r : Recordings) (captures : List Source) (greatest : Option ℕ) (xs : List Arrival) (c : Comparison) → c.watch.until ≡ r.until → c.watch.tolerance ≡ r.tolerance
    → AllByRecursion (λ a. a.head.frame.stamp ≤ instant_of greatest) xs → AllByRecursion (λ a. is_settled_of r greatest (slice_get captures a.place) a ≡ true) xs
    → with_until (instant_of (option_or r.until greatest)) (with_arrivals captures xs c) ≡ with_arrivals captures xs (with_until (instant_of (option_or r.until greatest)) c)
all_until r captures greatest [] c until same most settled = refl
all_until r captures greatest (x ∷ xs) c until same most settled =
    let of = slice_get captures x.place in
    let at = instant_of (option_or r.until greatest) in
    let d = with_record_of of x c in
    let kept = (arrival_same of x c).watch in
    all_until r captures greatest xs d (ap (λ (w : Watch). w.until) kept ∙ until) (ap (λ (w : Watch). w.tolerance) kept ∙ same) most.1 settled.1
    ∙ ap (λ (e : Comparison). with_arrivals captures xs e) (one_until of at x c (one_still c.watch r greatest of x until same most.0 settled.0))
