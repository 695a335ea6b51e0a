-- Recordings that keep to what is proved of our switch are said to conform.
use Rattle.std.proofs.Common.{◌≡◌, ℕ, zero, suc, ◌+◌, ◌-◌, ◌≤◌, min, cond, Bool, true, false, List, [], ◌∷◌, ◌++◌, map, filter, length}
use Rattle.std.proofs.Common.{Option, Some, None, refl, sym, ap, subst, ◌∙◌, arith, inl, inr}
use Rattle.std.specs.Prelude.{◌==◌, nat_eq, if◌then◌else◌, find, option_map, slice_get, Contains}
use Rattle.std.specs.List.{AllByRecursion, IsDistinct, list_all, position, position_or_len}
use Rattle.std.specs.Option.{option_map_or}
use Rattle.std.proofs.lemmas.Bool.{and_from, and_parts, leb-true, eq-eqb, lt-ltb, true≢false}
use Rattle.std.proofs.lemmas.Option.{same_Some, slice_get-map, slice_get_within}
use Rattle.afdx_units.specs.Time.{last_instant}
use Rattle.afdx_pcap.specs.Record.{Record}
use Rattle.afdx_frame.specs.Address.{link_of}
use Rattle.afdx_units.specs.declared.line.Priority.{Priority}
use Rattle.afdx_account.specs.declared.account.Account.{Account}
use Rattle.afdx_account.specs.Account.{account_terms}
use Rattle.afdx_account.specs.Policing.{Terms}
use Rattle.afdx_levels.specs.Levels.{Levels, at_rest, Allowed}
use Rattle.afdx_levels.specs.Inner.Laws.{chosen, AllFit}
use Rattle.afdx_table.specs.declared.rows.PortRow.{PortRow}
use Rattle.afdx_table.specs.Link.{Link, names_port, leads_to}
use Rattle.afdx_table.specs.Content.{Content, port_row}
use Rattle.afdx_table.specs.WellFormed.{IsPort, IsLink, IsWellFormed}
use Rattle.afdx_table.specs.Inner.Found.{LinksAreFound, LinksAreAtTheirPlaces, PortsAreFound}
use Rattle.afdx_filter.specs.Inner.Clean.{CleanFramesHaveALink}
use Rattle.afdx_load.specs.Inner.Laws.{HighLinksLeaveAPart}
use Rattle.afdx_grouping.specs.Scatter.{IsAcceptedWith}
use Rattle.afdx_pairing.specs.declared.limits.Limits.{Limits}
use Rattle.afdx_pairing.specs.Events.{Numbered}
use Rattle.afdx_pairing.specs.Limits.{most_of}
use Rattle.afdx_pairing.specs.Kept.{IsKeptFor}
use Rattle.afdx_following.specs.declared.watch.Watch.{Watch}
use Rattle.afdx_following.specs.Watch.{has_begun, has_not_ended, has_frame, has_record, limits_of, unknown_since, unknown_from, last_record}
use Rattle.afdx_following.specs.declared.watch.Start.{Start}
use Rattle.afdx_following.specs.declared.watch.Start.TheVariants.{Rest}
use Rattle.afdx_following.specs.Output.{Output, last_at}
use Rattle.afdx_following.specs.Watched.{Watched, levels_at_first, conforms, with_ends}
use Rattle.afdx_following.specs.Followed.{Notice, Arrived, Departed, with_notices, AreNext, own_in, left_in, judged}
use Rattle.afdx_core.specs.Merge.{Capture}
use Rattle.afdx_session.specs.Headline.{records_for}
use Rattle.afdx_merging.specs.Merge.{Arrival, IsMergeOf}
use Rattle.afdx_recordings.specs.declared.recordings.Recordings.{Recordings}
use Rattle.afdx_recordings.specs.declared.outputs.Outputs.{Outputs}
use Rattle.afdx_recordings.specs.Recordings.{is_recorded}
use Rattle.afdx_compare.specs.Comparison.{Comparison, watch_of, bound_in, output_first, outputs_first, IsFirstOf, IsBegun}
use Rattle.afdx_compare.specs.Comparison.{place_of_own, place_of_named, link_at, with_until, with_end, conform}
use Rattle.afdx_compare.specs.Sources.{Sources, sources_of}
use Rattle.afdx_compare.specs.Arrivals.{with_arrival, with_arrivals}
use Rattle.afdx_compare.specs.Within.{levels_since, own_within, recorded, IsKeptWithin}
use Rattle.afdx_compare.specs.Inner.Laws.{watch_within, recorded_ports, came_in, left_out}
use Rattle.afdx_compare.specs.Inner.Own.{own_of}
use Rattle.afdx_compare.specs.Inner.Sound.{IsSound}
use Rattle.afdx_compare.specs.Inner.Told.{told_own, told_record, told_came, told_left, told_of, told}
use Rattle.afdx_compare.specs.Inner.Due.{AreDue}
use Rattle.afdx_compare.proofs.Beginning.{first_each, first_at, begun_sound, begun_by, all_from}
use Rattle.afdx_compare.proofs.Bounding.{bounded}
use Rattle.afdx_compare.proofs.Clocked.{all_due}
use Rattle.afdx_compare.proofs.Explaining.{until_sound}
use Rattle.afdx_compare.proofs.Gathered.{merge_clocked, left_is_recorded}
use Rattle.afdx_compare.proofs.Leading.{is_at, IsPortAt, all_left, left_here}
use Rattle.afdx_compare.proofs.Making.{first_fresh, row_number}
use Rattle.afdx_compare.proofs.Next.{Laws, arrival_same, links_are_next}
use Rattle.afdx_compare.proofs.Owned.{own_is}
use Rattle.afdx_compare.proofs.Owning.{IsPlaced, placed, own_is_within}
use Rattle.afdx_compare.proofs.Picking.{filter_alike}
use Rattle.afdx_compare.proofs.Places.{get_there, all_at, same_get, item_contained}
use Rattle.afdx_compare.proofs.Ported.{HasLimits, all_have, names_all, all_lead}
use Rattle.afdx_compare.proofs.Strangers.{none_foreign, IsLed, all_led}
use Rattle.afdx_compare.proofs.Telling.{links_are_told}
use Rattle.afdx_compare.proofs.Turns.{at_port, among_links}
use Rattle.afdx_compare_laws.specs.Fine.{LeavesLater}
use Rattle.afdx_compare_laws.specs.Fates.{Recorded, AllDiffer, LeaveLater, AreApart, CanBeTold, IsKeptBy}
use Rattle.afdx_compare_laws.specs.Conforming.{recorded_from, IsOffBy, IsByLast, KeptLinkConforms}
use Rattle.afdx_compare_laws.specs.Comparing.{IsExact, IsClear, AreClear, KeptIsConforms}
use Rattle.afdx_compare_laws.proofs.Conforming.{recorded_at, recorded_limits, list_all_from}
use Rattle.afdx_compare_laws.proofs.Fine.{first_is, rest_is}
use Rattle.afdx_compare_laws.proofs.Fitting.{own_fit}
use Rattle.afdx_compare_laws.proofs.Narrowing.{all_map}
use Rattle.afdx_compare_laws.proofs.Told.{limits_in, limits_at, notices_limits, same_limits, same_many, port_there}
use Rattle.afdx_compare.proofs.Conforming.{contained_at, led_alike}
use Rattle.afdx_following.proofs.Explained.{get_mapped}

-- the laws of lower crates that are needed
pub record Lower : Type 0 where
  pub clean : CleanFramesHaveALink
  pub places : LinksAreAtTheirPlaces
  pub found : LinksAreFound
  pub ports : PortsAreFound
  pub part : HighLinksLeaveAPart
  pub link : KeptLinkConforms

-- ---- lists

pub filter_there : {X : Type 0} (test : X → Bool) (xs : List X) (k : ℕ) (x : X) → slice_get xs k ≡ Some x → test x ≡ true → (j : ℕ) × (slice_get (filter test xs) j ≡ Some x)
filter_there test [] k x at is = absurd (let never = at in cc)
filter_there {X} test (y ∷ xs) zero x at is =
    let same : test y ≡ true = ap test (same_Some y x at) ∙ is in
    (0, ap (λ (b : Bool). slice_get (cond b (y ∷ filter test xs) (filter test xs)) 0) same ∙ at)
filter_there {X} test (y ∷ xs) (suc k) x at is = by (test y) refl (filter_there test xs k x at is) where
  by : (b : Bool) → test y ≡ b → (j : ℕ) × (slice_get (filter test xs) j ≡ Some x) → (j : ℕ) × (slice_get (filter test (y ∷ xs)) j ≡ Some x)
  by true keeps rest = (suc rest.0, ap (λ (b : Bool). slice_get (cond b (y ∷ filter test xs) (filter test xs)) (suc rest.0)) keeps ∙ rest.1)
  by false drops rest = (rest.0, ap (λ (b : Bool). slice_get (cond b (y ∷ filter test xs) (filter test xs)) rest.0) drops ∙ rest.1)

pub filter_of : {X : Type 0} (test : X → Bool) (xs : List X) (j : ℕ) (x : X) → slice_get (filter test xs) j ≡ Some x → (k : ℕ) × (slice_get xs k ≡ Some x)
filter_of test [] j x at = absurd (let never = at in cc)
filter_of {X} test (y ∷ xs) j x at = by (test y) refl j at (λ i get. filter_of test xs i x get) where
  by : (b : Bool) → test y ≡ b → (i : ℕ) → slice_get (cond b (y ∷ filter test xs) (filter test xs)) i ≡ Some x
      → ((i : ℕ) → slice_get (filter test xs) i ≡ Some x → (k : ℕ) × (slice_get xs k ≡ Some x)) → (k : ℕ) × (slice_get (y ∷ xs) k ≡ Some x)
  by true is zero get rest = (0, get)
  by true is (suc i) get rest = (let later = rest i get in (suc later.0, later.1))
  by false is i get rest = (let later = rest i get in (suc later.0, later.1))

pub find_in : {X : Type 0} (test : X → Bool) (xs : List X) (x : X) → find test xs ≡ Some x → (k : ℕ) × (slice_get xs k ≡ Some x)
find_in test [] x is = absurd (let never = is in cc)
find_in {X} test (y ∷ xs) x is = by (test y) refl (λ rest. find_in test xs x rest) where
  by : (b : Bool) → test y ≡ b → (find test xs ≡ Some x → (k : ℕ) × (slice_get xs k ≡ Some x)) → (k : ℕ) × (slice_get (y ∷ xs) k ≡ Some x)
  by true here rest = (0, sym (ap (λ (b : Bool). cond b (Some y) (find test xs)) here) ∙ is)
  by false other rest = (let later = rest (sym (ap (λ (b : Bool). cond b (Some y) (find test xs)) other) ∙ is) in (suc later.0, later.1))

all_joined : {X : Type 0} (P : X → Type 0) (xs ys : List X) → AllByRecursion P xs → AllByRecursion P ys → AllByRecursion P (xs ++ ys)
all_joined P [] ys first second = second
all_joined P (x ∷ xs) ys first second = (first.0, all_joined P xs ys first.1 second)

pub all_from_each : {X : Type 0} (P : X → Type 0) (xs : List X) → ((k : ℕ) (x : X) → slice_get xs k ≡ Some x → P x) → AllByRecursion P xs
all_from_each P [] each = tt
all_from_each P (x ∷ xs) each = (each 0 x refl, all_from_each P xs (λ k y at. each (suc k) y at))

-- what holds of the limits of outputs holds of ports with the same limits
by_limits : (P : Limits → Type 0) (os : List Output) (ports : List Recorded) → limits_in os ≡ limits_at ports → AllByRecursion (λ o. P o.limits) os → AllByRecursion (λ p. P p.limits) ports
by_limits P [] [] same all = tt
by_limits P [] (p ∷ ports) same all = absurd (let never = same in cc)
by_limits P (o ∷ os) [] same all = tt
by_limits P (o ∷ os) (p ∷ ports) same all =
    (subst P (first_is o.limits p.limits (limits_in os) (limits_at ports) same) all.0, by_limits P os ports (rest_is o.limits p.limits (limits_in os) (limits_at ports) same) all.1)

-- one number is at one place
distinct_place : (ns : List ℕ) → IsDistinct nat_eq ns → (a b n : ℕ) → slice_get ns a ≡ Some n → slice_get ns b ≡ Some n → a ≡ b
unfolding IsDistinct
distinct_place [] distinct a b n at other = absurd (let never = at in cc)
distinct_place (m ∷ ns) distinct zero zero n at other = refl
distinct_place (m ∷ ns) distinct zero (suc b) n at other =
    absurd (true≢false (sym (eq-eqb m n (same_Some m n at)) ∙ all_at (λ k. nat_eq m k ≡ false) ns b n other distinct.0))
distinct_place (m ∷ ns) distinct (suc a) zero n at other =
    absurd (true≢false (sym (eq-eqb m n (same_Some m n other)) ∙ all_at (λ k. nat_eq m k ≡ false) ns a n at distinct.0))
distinct_place (m ∷ ns) distinct (suc a) (suc b) n at other = ap (λ (k : ℕ). suc k) (distinct_place ns distinct.1 a b n at other)

-- ---- a link's outputs

abbrev ports_of : List Output → List ℕ
ports_of os = map (λ o. o.port) os

module _ (w : Watch) (t : Content) (outs : Outputs) (keeps : Bool) (priority : Priority) where
  abbrev outputs_of : List ℕ → List Output
  outputs_of ports = outputs_first w t outs keeps priority ports

  one_recorded : (port : ℕ) (is : Bool) → is_recorded outs port ≡ is → (row : Option PortRow) (rest : List Output) → AllByRecursion (λ o. is_recorded outs o.port ≡ true) rest
      → AllByRecursion (λ o. is_recorded outs o.port ≡ true) ((if is then output_first w t keeps priority port row else []) ++ rest)
  one_recorded port true is None rest all = all
  one_recorded port true is (Some row) rest all = (is, all)
  one_recorded port false is row rest all = all

  all_recorded : (ports : List ℕ) → AllByRecursion (λ o. is_recorded outs o.port ≡ true) (outputs_of ports)
  all_recorded [] = tt
  all_recorded (port ∷ ports) = one_recorded port (is_recorded outs port) refl (port_row t port) (outputs_of ports) (all_recorded ports)

  one_other : (n port : ℕ) (is : Bool) (row : Option PortRow) (rest : List Output) → nat_eq n port ≡ false → AllByRecursion (λ k. nat_eq n k ≡ false) (ports_of rest)
      → AllByRecursion (λ k. nat_eq n k ≡ false) (ports_of ((if is then output_first w t keeps priority port row else []) ++ rest))
  one_other n port true None rest other all = all
  one_other n port true (Some row) rest other all = (other, all)
  one_other n port false row rest other all = all

  all_other : (n : ℕ) (ports : List ℕ) → AllByRecursion (λ k. nat_eq n k ≡ false) ports → AllByRecursion (λ k. nat_eq n k ≡ false) (ports_of (outputs_of ports))
  all_other n [] other = tt
  all_other n (port ∷ ports) other = one_other n port (is_recorded outs port) (port_row t port) (outputs_of ports) other.0 (all_other n ports other.1)

  one_distinct : (port : ℕ) (is : Bool) (row : Option PortRow) (rest : List Output) → AllByRecursion (λ k. nat_eq port k ≡ false) (ports_of rest) → IsDistinct nat_eq (ports_of rest)
      → IsDistinct nat_eq (ports_of ((if is then output_first w t keeps priority port row else []) ++ rest))
  unfolding IsDistinct
  one_distinct port true None rest other all = all
  one_distinct port true (Some row) rest other all = (other, all)
  one_distinct port false row rest other all = all

  all_distinct : (ports : List ℕ) → IsDistinct nat_eq ports → IsDistinct nat_eq (ports_of (outputs_of ports))
  unfolding IsDistinct
  all_distinct [] distinct = tt
  all_distinct (port ∷ ports) distinct =
      one_distinct port (is_recorded outs port) (port_row t port) (outputs_of ports) (all_other port ports distinct.0) (all_distinct ports distinct.1)

port_position : (os : List Output) → IsDistinct nat_eq (ports_of os) → (k : ℕ) (o : Output) → slice_get os k ≡ Some o → position_or_len (λ x. x.port == o.port) os ≡ k
unfolding IsDistinct
port_position [] distinct k o get = absurd (let never = get in cc)
port_position (x ∷ os) distinct zero o get = rw (eq-eqb x.port o.port (ap (λ (y : Output). y.port) (same_Some x o get))) refl
port_position (x ∷ os) distinct (suc k) o get =
    let at : slice_get (ports_of os) k ≡ Some o.port = slice_get-map (λ (y : Output). y.port) os k ∙ ap (λ (y : Option Output). option_map (λ (z : Output). z.port) y) get in
    let other : (x.port == o.port) ≡ false = all_at (λ n. nat_eq x.port n ≡ false) (ports_of os) k o.port at distinct.0 in
    let rest = port_position os distinct.1 k o get in
    let next : 1 + position_or_len (λ y. y.port == o.port) os ≡ suc k = omega (arith, rest) in
    rw other next

port_place : (os : List Output) → IsDistinct nat_eq (ports_of os) → (k : ℕ) (o : Output) → slice_get os k ≡ Some o → position (λ x. x.port == o.port) os ≡ Some k
port_place os distinct k o get =
    let is = port_position os distinct k o get in
    let lt = slice_get_within os k o get in
    ap (λ (b : Bool). cond b (Some (position_or_len (λ (x : Output). x.port == o.port) os)) None)
    (lt-ltb (position_or_len (λ (x : Output). x.port == o.port) os) (length os) (omega (arith, is, lt))) ∙ ap (λ (n : ℕ). Some n) is

-- ---- the link that a record names

-- ---- what a link is told of is within the span

ended_frame : (w : Watch) (n : Numbered) → has_frame w n.frame.stamp ≡ true → IsByLast w.tolerance (last_record w) (Arrived n)
ended_frame w n has = by w.until (and_parts (has_begun w.start w.tolerance n.frame.stamp) (has_not_ended w.until n.frame.stamp) has).1 where
  by : (until : Option ℕ) → has_not_ended until n.frame.stamp ≡ true → IsByLast w.tolerance (option_map (λ at. at - w.tolerance) until) (Arrived n)
  by None is = tt
  by (Some until) is = let le = leb-true n.frame.stamp until is in omega (arith, le)

ended_record : (w : Watch) (place : ℕ) (n : Numbered) → has_record w n.frame.stamp ≡ true → IsByLast w.tolerance (last_record w) (Departed place n)
ended_record w place n has = by w.until (and_parts (has_begun w.start 0 n.frame.stamp) (has_not_ended w.until (n.frame.stamp + w.tolerance)) has).1 where
  by : (until : Option ℕ) → has_not_ended until (n.frame.stamp + w.tolerance) ≡ true → IsByLast w.tolerance (option_map (λ at. at - w.tolerance) until) (Departed place n)
  by None is = tt
  by (Some until) is = let le = leb-true (n.frame.stamp + w.tolerance) until is in omega (arith, le)

abbrev AreByLast : Watch → List Notice → Type 0
AreByLast w xs = AllByRecursion (IsByLast w.tolerance (last_record w)) xs

own_by_last : (w : Watch) (place : ℕ) (o : Option ℕ) (n : Numbered) (b : Bool) → has_frame w n.frame.stamp ≡ b → AreByLast w (if b then told_own place o n else [])
own_by_last w place o n false has = tt
own_by_last w place None n true has = tt
own_by_last w place (Some link) n true has = elim (link == place) as (λ b. AreByLast w (if b then Arrived n ∷ [] else [])) [
  | true ↦ (ended_frame w n has, tt)
  | false ↦ tt
]

record_by_last : (w : Watch) (place : ℕ) (o : Option (ℕ × ℕ)) (n : Numbered) (b : Bool) → has_record w n.frame.stamp ≡ b → AreByLast w (if b then told_record place o n else [])
record_by_last w place o n false has = tt
record_by_last w place None n true has = tt
record_by_last w place (Some (link, output)) n true has = elim (link == place) as (λ b. AreByLast w (if b then Departed output n ∷ [] else [])) [
  | true ↦ (ended_record w output n has, tt)
  | false ↦ tt
]

side_by_last : (place : ℕ) (leaves : Bool) (port : ℕ) (n : Numbered) (c : Comparison) → AreByLast c.watch (if leaves then told_left place port n c else told_came place port n c)
side_by_last place true port n c = record_by_last c.watch place (link_at port n.frame.bytes c) n (has_record c.watch n.frame.stamp) refl
side_by_last place false port n c = own_by_last c.watch place (place_of_own c.table port n.frame) n (has_frame c.watch n.frame.stamp) refl

one_by_last : (place : ℕ) (s : Sources) (k : ℕ) (n : Numbered) (c : Comparison) → AreByLast c.watch (told_of place (slice_get s.captures k) n c)
one_by_last place s k n c = elim (slice_get s.captures k) as (λ of. AreByLast c.watch (told_of place of n c)) [
  | None ↦ tt
  | Some x ↦ side_by_last place x.leaves x.port n c
]

pub told_by_last : (place : ℕ) (s : Sources) (arrivals : List Arrival) (c : Comparison) → AreByLast c.watch (told place s.captures arrivals c)
told_by_last place s [] c = tt
told_by_last place s (a ∷ arrivals) c =
    let next = with_arrival s.captures a c in
    let same = arrival_same (slice_get s.captures a.place) a c in
    all_joined (IsByLast c.watch.tolerance (last_record c.watch)) (told_of place (slice_get s.captures a.place) a.head c) (told place s.captures arrivals next)
    (one_by_last place s a.place a.head c)
    (subst (λ (x : Watch). AreByLast x (told place s.captures arrivals next)) same.watch (told_by_last place s arrivals next))

-- ---- what is known of an account at first

levels_are : (account : Account) (tolerance : ℕ) (since : Option ℕ) → levels_since (account_terms account) tolerance since ≡ levels_at_first account tolerance since
levels_are account tolerance None = refl
levels_are account tolerance (Some since) = refl

full_at_rest : (start : Start) (tolerance : ℕ) → start ≡ Rest → unknown_from tolerance start ≡ None
full_at_rest start tolerance is = ap (λ (s : Start). unknown_from tolerance s) is

-- ---- all of it

module _ (lower : Lower) (t : Content) (r : Recordings) (from until : ℕ) (keeping : Bool) (captures : List (List Record)) (arrivals : List Arrival) (first : Comparison)
    (formed : IsWellFormed t) (accepted : IsAcceptedWith (t.latency - r.least) t) (bound : AllByRecursion (λ rs. AllByRecursion (λ x. x.stamp ≤ last_instant) rs) captures)
    (begun : IsBegun t r from keeping first) (merge : IsMergeOf (sources_of t r).clocks captures arrivals)
    (none : none_foreign (with_arrivals (sources_of t r).captures arrivals (with_until until first)).ports ≡ true)
    (clear : AreClear (watch_within t r from until) t captures (with_arrivals (sources_of t r).captures arrivals (with_until until first)))
    (kept : IsKeptWithin (watch_within t r from until) t (recorded_ports t r) (came_in t.ports captures) (left_out t r captures)) where
  abbrev w : Watch
  w = watch_within t r from until

  abbrev c : Comparison
  c = with_until until first

  abbrev sources : Sources
  sources = sources_of t r

  abbrev read : List Capture
  read = came_in t.ports captures

  abbrev all : Comparison
  all = with_arrivals sources.captures arrivals c

  abbrev last : Option ℕ
  last = last_record c.watch

  abbrev laws : Laws
  laws = record { clean = lower.clean; places = lower.places; ports = lower.ports }

  watch_is : c.watch ≡ w
  watch_is = ap (λ (x : Watch). record x { until = Some until }) begun.watch

  sound : IsSound c
  sound = until_sound until first (begun_sound t r from keeping first formed begun)

  many : length first.links ≡ length t.links
  many = sound.many_links ∙ ap (λ (x : Content). length x.links) begun.table

  due : AreDue c.watch c.table sources.captures arrivals
  due =
      subst (λ (x : Watch). AreDue x c.table sources.captures arrivals) (sym watch_is)
      (subst (λ (x : Content). AreDue w x sources.captures arrivals) (sym begun.table) (all_due r t from (Some until) arrivals (merge_clocked sources.clocks captures arrivals merge)))

  abbrev notices : ℕ → List Notice
  notices place = told place sources.captures arrivals c

  watch_after : (arrived : List Arrival) (d : Comparison) → (with_arrivals sources.captures arrived d).watch ≡ d.watch
  watch_after [] d = refl
  watch_after (a ∷ arrived) d = watch_after arrived (with_arrival sources.captures a d) ∙ (arrival_same (slice_get sources.captures a.place) a d).watch

  -- ---- a link at its place

  placed_at : (place : ℕ) (l : Link) → slice_get t.links place ≡ Some l → IsPlaced t l place
  placed_at place l there =
      let at = placed lower.found lower.places t l (lower.found.found t formed l (item_contained t.links place l there)) in
      let id : (k : ℕ) → slice_get t.links k ≡ Some l → slice_get (map (λ (x : Link). x.id) t.links) k ≡ Some l.id =
      λ k get. slice_get-map (λ (x : Link). x.id) t.links k ∙ ap (λ (x : Option Link). option_map (λ (y : Link). y.id) x) get in
      let same = distinct_place (map (λ (x : Link). x.id) t.links) formed.links_distinct at.0 place l.id (id at.0 at.1.there) (id place there) in
      record { named = at.1.named ∙ ap (λ (k : ℕ). Some k) same; there = there }

  own_are : (l : Link) (place : ℕ) → IsPlaced t l place → own_in (notices place) ≡ own_within w t l read
  own_are l place at =
      let formed_link = all_at (λ (x : Link). IsLink t.ports x) t.links place l at.there formed.links in
      own_is place sources.captures arrivals c
      ∙ ap (λ (x : Watch). own_of x c.table place sources.captures arrivals) watch_is
      ∙ ap (λ (x : Content). own_of w x place sources.captures arrivals) begun.table
      ∙ own_is_within lower.clean lower.found lower.places w t r captures arrivals l place formed.ports_rise formed_link.from_port bound merge at

  next_told : (place : ℕ) (f : Watched) → slice_get first.links place ≡ Some f → AreNext f (notices place)
  next_told place f get =
      let start : first_at c.watch ≡ first_at (watch_of t r from) = ap (λ (x : Watch). first_at x) begun.watch in
      let by = subst (λ (at : ℕ). AllByRecursion (λ x. x.latest ≤ at) first.links) (sym start) (begun_by t r from keeping first begun) in
      links_are_next laws place sources.captures arrivals c f (first_at c.watch) sound get merge.in_order due by (all_from c.watch first.table sources.captures arrivals due)

  -- ---- records at a port

  led : (port : ℕ) → AllByRecursion (IsLed c port) (all_left c.watch port sources.captures arrivals)
  led port = all_led c port sources.captures arrivals c sound (λ q bytes. refl) due none

  module _ (place : ℕ) (l : Link) (f : Watched) (there : slice_get t.links place ≡ Some l) (get : slice_get first.links place ≡ Some f) where
    at : IsPlaced t l place
    at = placed_at place l there

    one : IsFirstOf (watch_of t r from) t r.outputs keeping l f
    one = first_each (watch_of t r from) t r.outputs keeping t.links first.links begun.links place l f there get

    abbrev outputs : List Output
    outputs = outputs_first (watch_of t r from) t r.outputs keeping l.priority l.to

    abbrev own : List Record
    own = own_within w t l read

    outputs_are : f.outputs ≡ outputs
    outputs_are = ap (λ (x : Watched). x.outputs) one.first

    distinct : IsDistinct nat_eq (ports_of outputs)
    distinct = all_distinct (watch_of t r from) t r.outputs keeping l.priority l.to (all_at (λ (x : Link). IsLink t.ports x) t.links place l there formed.links).targets.once

    port_at : (k : ℕ) (o : Output) → slice_get f.outputs k ≡ Some o → position (λ x. x.port == o.port) f.outputs ≡ Some k → IsPortAt c place k o.port
    port_at k o here is = λ q bytes led.
        (let by = among_links q place k c.links (place_of_named c.table bytes) led in
        let followed : by.0 ≡ f = same_get c.links place by.0 f by.1 get in
        let found = at_port q by.0.outputs k by.2 in
        let output : found.0 ≡ o = same_get f.outputs k found.0 o (ap (λ (x : Watched). slice_get x.outputs k) (sym followed) ∙ found.1) here in
        sym found.2 ∙ ap (λ (x : Output). x.port) output)

    -- what left for it at one of its outputs is what was recorded of it there
    record IsAtPort (k : ℕ) (o : Output) : Type 0 where
      row : PortRow
      among : Contains (recorded_ports t r) row
      leads : leads_to row.id l ≡ true
      left : left_in k (notices place) ≡ records_for l (recorded w (left_out t r captures row))
      limits : (b : ℕ) → bound_in (t.latency - r.least) t row l.priority ≡ b → o.limits ≡ limits_of w b row.speed

    at_output : (k : ℕ) (o : Output) → slice_get outputs k ≡ Some o → IsAtPort k o
    at_output k o here =
        let limited = all_at (λ (x : Output). HasLimits (watch_of t r from) t l.priority x.port x.limits) outputs k o here (all_have (watch_of t r from) t r.outputs keeping l.priority l.to) in
        let row = limited.row in
        let number : row.id ≡ o.port = row_number t o.port row limited.is_row in
        let in_table = find_in (λ (p : PortRow). p.id == o.port) t.ports row limited.is_row in
        let is_recorded_here = ap (λ (n : ℕ). is_recorded r.outputs n) number ∙ all_at (λ (x : Output). is_recorded r.outputs x.port ≡ true) outputs k o here
        (all_recorded (watch_of t r from) t r.outputs keeping l.priority l.to) in
        let j = filter_there (λ (p : PortRow). is_recorded r.outputs p.id) t.ports in_table.0 row in_table.1 is_recorded_here in
        let names = all_at (λ (x : Output). names_port x.port l.to ≡ true) outputs k o here (all_lead (watch_of t r from) t r.outputs keeping l.priority l.to l.to (names_all l.to)) in
        let here_f : slice_get f.outputs k ≡ Some o = ap (λ (os : List Output). slice_get os k) outputs_are ∙ here in
        let is : position (λ x. x.port == o.port) f.outputs ≡ Some k = ap (λ (os : List Output). position (λ (x : Output). x.port == o.port) os) outputs_are ∙ port_place outputs distinct k o here in
        let left_are : all_left c.watch o.port sources.captures arrivals ≡ recorded w (left_out t r captures row) =
        ap (λ (x : Watch). all_left x o.port sources.captures arrivals) watch_is
        ∙ ap (λ (n : ℕ). all_left w n sources.captures arrivals) (sym number)
        ∙ left_is_recorded w t r captures arrivals j.0 row formed.ports_rise merge j.1 in
        record {
          row = row;
          among = item_contained (recorded_ports t r) j.0 row j.1;
          leads = ap (λ (n : ℕ). names_port n l.to) number ∙ names;
          left = left_here c place k o.port sources.captures arrivals c (λ q bytes. refl) (port_at k o here_f is)
              ∙ filter_alike (λ x. is_at place k (link_at o.port x.bytes c)) (λ x. link_of x.bytes == l.id) (all_left c.watch o.port sources.captures arrivals)
              (all_map (IsLed c o.port) (λ x. is_at place k (link_at o.port x.bytes c) ≡ (link_of x.bytes == l.id))
              (λ x is_led. led_alike lower.found lower.places t c l place k o.port f x begun.table at get is is_led.link is_led.output is_led.is)
              (all_left c.watch o.port sources.captures arrivals) (led o.port))
              ∙ ap (λ (rs : List Record). records_for l rs) left_are;
          limits = λ b bound_is. limited.limits ∙ ap (λ (x : ℕ). limits_of w x row.speed) bound_is;
        }

    -- so it keeps to it there
    kept_at : (k : ℕ) (o : Output) → slice_get outputs k ≡ Some o → IsKeptFor o.limits (last_at o.limits (last_record w)) own (chosen (kept.fates l) own) (left_in k (notices place))
    kept_at k o here =
        let port = at_output k o here in
        let row = port.row in
        let has = contained_at (recorded_ports t r) row port.among in
        let in_table = filter_of (λ (p : PortRow). is_recorded r.outputs p.id) t.ports has.0 row has.1 in
        let contains : Contains t.ports row = item_contained t.ports in_table.0 row in_table.1 in
        let it = kept.kept row port.among l (item_contained t.links place l there) port.leads in
        let b = bounded lower.part t (t.latency - r.least) formed accepted row contains place l there port.leads in
        let delay = (all_at (λ (x : PortRow). IsPort x) t.ports in_table.0 row in_table.1 formed.ports).delay_most in
        let within = b.within in
        let same : b.bound ≡ it.0 = same_Some b.bound it.0 (sym b.is ∙ it.1) in
        let bound_is : bound_in (t.latency - r.least) t row l.priority ≡ it.0 =
        ap (λ (x : Option ℕ). min (option_map_or (λ y. y) x 0) 18446744073709551615) b.is
        ∙ (let least : min b.bound 18446744073709551615 ≡ b.bound = omega (arith, within, delay) in least) ∙ same in
        let limits = port.limits it.0 bound_is in
        subst (λ (m : Limits). IsKeptFor m (last_at m (last_record w)) own (chosen (kept.fates l) own) (left_in k (notices place))) (sym limits)
        (subst (λ (rs : List Record). IsKeptFor (limits_of w it.0 row.speed) (last_at (limits_of w it.0 row.speed) (last_record w)) own (chosen (kept.fates l) own) rs) (sym port.left) it.2)

    abbrev ports : List Recorded
    ports = recorded_from last (notices place) 0 outputs

    abbrev told_last : Watched
    told_last = with_notices (notices place) f

    told_there : slice_get all.links place ≡ Some told_last
    told_there = links_are_told place sources.captures arrivals c ∙ ap (λ (x : Option Watched). option_map (with_notices (notices place)) x) get

    clear_here : IsClear w own told_last
    clear_here = clear place l told_last there told_there

    same_ports : limits_in outputs ≡ limits_at ports
    same_ports = recorded_limits last (notices place) 0 outputs

    same_told : limits_in told_last.outputs ≡ limits_at ports
    same_told = notices_limits (notices place) f ∙ ap (λ (os : List Output). limits_in os) outputs_are ∙ same_ports

    own_is_told : own ≡ own_in (notices place)
    own_is_told = sym (own_are l place at)

    last_is : (m : Limits) → last_at m (last_record w) ≡ last_at m last
    last_is m = ap (λ (x : Watch). last_at m (last_record x)) (sym watch_is)

    later : AllByRecursion (LeaveLater (own_in (notices place))) ports
    later =
        subst (λ (rs : List Record). AllByRecursion (LeaveLater rs) ports) own_is_told
        (by_limits (λ m. AllByRecursion (LeavesLater m) own) told_last.outputs ports same_told clear_here.later)

    off : AllByRecursion (IsOffBy r.tolerance) outputs
    off = all_from_each (IsOffBy r.tolerance) outputs (λ k o here.
        let at_port = at_output k o here in
        ap (λ (m : Limits). m.tolerance) (at_port.limits (bound_in (t.latency - r.least) t at_port.row l.priority) refl))

    ended : AllByRecursion (IsByLast r.tolerance last) (notices place)
    ended = subst (λ (x : Watch). AllByRecursion (IsByLast x.tolerance (last_record c.watch)) (notices place)) watch_is (told_by_last place sources arrivals c)

    abbrev levels : Levels
    levels = levels_at_first one.account r.tolerance (unknown_since w)

    fit : AllFit (account_terms one.account) (map judged (own_in (notices place)))
    fit =
        subst (λ (rs : List Record). AllFit (account_terms one.account) (map judged rs)) own_is_told
        (subst (λ (x : Terms). AllFit x (map judged own)) (sym one.terms)
        (own_fit lower.clean lower.found t formed l (item_contained t.links place l there) w read))

    full : IsExact w → levels ≡ at_rest (account_terms one.account) 0
    full exactly =
        ap (λ (since : Option ℕ). levels_at_first one.account r.tolerance since) (full_at_rest w.start w.tolerance exactly.rest)
        ∙ ap (λ (x : ℕ). at_rest (account_terms one.account) x) exactly.exact

    can : CanBeTold (account_terms one.account) r.tolerance levels (own_in (notices place)) ports
    can = elim clear_here.apart [
      | inl apart ↦ inl (subst (λ (rs : List Record). AllByRecursion (AreApart rs) ports) own_is_told
          (by_limits (λ m. AllDiffer (most_of m) own) told_last.outputs ports same_told apart))
      | inr exactly ↦ inr (record { exact = exactly.exact; full = full exactly; fit = fit })
    ]

    allowed : Allowed (account_terms one.account) r.tolerance levels (map judged (own_in (notices place))) (kept.fates l)
    allowed =
        subst (λ (rs : List Record). Allowed (account_terms one.account) r.tolerance levels (map judged rs) (kept.fates l)) own_is_told
        (subst (λ (ls : Levels). Allowed (account_terms one.account) r.tolerance ls (map judged own) (kept.fates l)) (levels_are one.account r.tolerance (unknown_since w))
        (subst (λ (x : Terms). Allowed x r.tolerance (levels_since x r.tolerance (unknown_since w)) (map judged own) (kept.fates l)) (sym one.terms)
        (kept.are_allowed l (item_contained t.links place l there))))

    kept_there : AllByRecursion (IsKeptBy (own_in (notices place)) (kept.fates l)) ports
    kept_there = all_from_each (IsKeptBy (own_in (notices place)) (kept.fates l)) ports (λ k p at_p.
        let o = port_there ports outputs k p (sym (same_many outputs ports same_ports)) at_p in
        let of = recorded_at last (notices place) 0 outputs k p at_p in
        let m = same_limits outputs ports k o.0 p same_ports o.1 at_p in
        let end : last_at p.limits (last_record w) ≡ p.last = last_is p.limits ∙ sym of.last_is in
        let out : left_in k (notices place) ≡ p.out = ap (λ (i : ℕ). left_in i (notices place)) (let here : k ≡ 0 + k = omega arith in here) ∙ sym of.out_is in
        subst (λ (rs : List Record). IsKeptFor p.limits p.last rs (chosen (kept.fates l) rs) p.out) own_is_told
        (subst (λ (rs : List Record). IsKeptFor p.limits p.last own (chosen (kept.fates l) own) rs) out
        (subst (λ (e : Option ℕ). IsKeptFor p.limits e own (chosen (kept.fates l) own) (left_in k (notices place))) end
        (subst (λ (x : Limits). IsKeptFor x (last_at x (last_record w)) own (chosen (kept.fates l) own) (left_in k (notices place))) m (kept_at k o.0 o.1)))))

    link_conforms : conforms (with_ends last told_last) ≡ true
    link_conforms =
        ap (λ (x : Watched). conforms (with_ends last (with_notices (notices place) x))) one.first
        ∙ lower.link one.account r.tolerance (unknown_since w) outputs (notices place) last (kept.fates l) r.tolerance_limit (first_fresh (watch_of t r from) t r.outputs keeping l.priority l.to)
        off (subst (λ (x : Watched). AreNext x (notices place)) one.first (next_told place f get)) ended later can allowed kept_there

  -- ---- each of them

  found_there : (place : ℕ) (g : Watched) → slice_get all.links place ≡ Some g → (f : Watched) × (slice_get first.links place ≡ Some f) × (with_notices (notices place) f ≡ g)
  found_there place g at_g = by (slice_get first.links place) refl (sym (links_are_told place sources.captures arrivals c) ∙ at_g) where
    by : (o : Option Watched) → slice_get first.links place ≡ o → option_map (with_notices (notices place)) o ≡ Some g
        → (f : Watched) × (slice_get first.links place ≡ Some f) × (with_notices (notices place) f ≡ g)
    by None get is = absurd (let never = is in cc)
    by (Some f) get is = (f, get, same_Some (with_notices (notices place) f) g is)

  pub conforms_there : conform (with_end all) ≡ true
  conforms_there =
      and_from (none_foreign all.ports) (list_all (λ x. conforms x) (with_end all).links) none
      (list_all_from (λ x. conforms x) (with_end all).links (λ place g at_g.
      let ended = get_mapped (λ x. with_ends (last_record all.watch) x) all.links place g at_g in
      let found = found_there place ended.0 ended.1.0 in
      let lt = slice_get_within first.links place found.0 found.1 in
      let l = get_there t.links place (omega (arith, lt, many)) in
      ap (λ (x : Watched). conforms x) (sym ended.1.1)
      ∙ ap (λ (x : Watch). conforms (with_ends (last_record x) ended.0)) (watch_after arrivals c)
      ∙ ap (λ (x : Watched). conforms (with_ends last x)) (sym found.2)
      ∙ link_conforms place l.0 found.0 l.1 found.1))

pub kept_is_conforms : Lower → KeptIsConforms
kept_is_conforms lower t r from until keeping captures arrivals first formed accepted bound begun merge none clear kept =
    conforms_there lower t r from until keeping captures arrivals first formed accepted bound begun merge none clear kept
