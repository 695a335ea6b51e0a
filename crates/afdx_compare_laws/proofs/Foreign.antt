-- What recordings keep to has no record that is foreign.
use Rattle.std.proofs.Common.{◌≡◌, ℕ, zero, suc, ◌+◌, Bool, true, false, List, [], ◌∷◌, ◌++◌, map, filter, length, Option, Some, None, refl, sym, ap, subst, ◌∙◌, arith, inl, inr}
use Rattle.std.specs.Prelude.{◌==◌, ◌&&◌, if◌then◌else◌, slice_get, Contains}
use Rattle.std.specs.List.{AllByRecursion, position}
use Rattle.std.specs.Str.{bytes_eq}
use Rattle.std.proofs.lemmas.Bool.{cases_Bool, le-leb, eq-eqb}
use Rattle.std.proofs.lemmas.List.Elements.{recursion_from_All}
use Rattle.std.proofs.lemmas.Option.{slice_get_within}
use Rattle.std.proofs.lemmas.Slice.Eq.{bytes_eq-Decides}
use Rattle.afdx_pcap.specs.Record.{Record}
use Rattle.afdx_frame.specs.Address.{constant_of, link_of}
use Rattle.afdx_table.specs.declared.rows.PortRow.{PortRow}
use Rattle.afdx_table.specs.Link.{Link, leads_to}
use Rattle.afdx_table.specs.Content.{Content, link_place}
use Rattle.afdx_table.specs.WellFormed.{IsWellFormed}
use Rattle.afdx_table.specs.Inner.Found.{LinksAreFound, LinksAreAtTheirPlaces, PortsAreFound}
use Rattle.afdx_pairing.specs.Events.{Numbered}
use Rattle.afdx_following.specs.declared.watch.Watch.{Watch}
use Rattle.afdx_following.specs.Watch.{has_frame, has_record}
use Rattle.afdx_following.specs.Watched.{Watched, changed_at}
use Rattle.afdx_core.specs.Merge.{Capture}
use Rattle.afdx_merging.specs.Merge.{Arrival, IsMergeOf}
use Rattle.afdx_recordings.specs.declared.recordings.Recordings.{Recordings}
use Rattle.afdx_recordings.specs.declared.outputs.Outputs.{Outputs}
use Rattle.afdx_recordings.specs.Recordings.{is_recorded}
use Rattle.afdx_compare.specs.Comparison.{Port, Comparison, no_records, with_seen, own_came, with_came, IsFirstOf, IsBegun, place_of_own, place_of_named, led_to}
use Rattle.afdx_compare.specs.Comparison.{output_among, link_among, link_at, record_left, watch_of, with_until}
use Rattle.afdx_compare.specs.Sources.{Sources, inputs_from, outputs_from, sources_of}
use Rattle.afdx_compare.specs.Arrivals.{with_record_of, with_arrival, with_arrivals}
use Rattle.afdx_compare.specs.Within.{recorded, IsKeptWithin}
use Rattle.afdx_compare.specs.Inner.Laws.{watch_within, recorded_ports, came_in, left_out}
use Rattle.afdx_compare.specs.Inner.Sound.{IsSound}
use Rattle.afdx_compare.proofs.Beginning.{first_each, begun_sound}
use Rattle.afdx_compare.proofs.Gathered.{left_is_recorded}
use Rattle.afdx_compare.proofs.Leading.{LeadAlike, alike_after, all_left, left_from}
use Rattle.afdx_compare.proofs.Next.{arrival_same}
use Rattle.afdx_compare.proofs.Owning.{IsPlaced, placed}
use Rattle.afdx_compare.proofs.Places.{get_there, all_at, item_contained}
use Rattle.afdx_compare.proofs.Ported.{output_place}
use Rattle.afdx_compare.proofs.Strangers.{none_foreign, IsLed}
use Rattle.afdx_compare_laws.specs.Comparing.{HasAddress, HaveAddresses, KeptIsNotForeign}
use Rattle.afdx_compare_laws.proofs.Comparing.{filter_there, all_from_each}
use Rattle.afdx_compare_laws.proofs.Narrowing.{all_first, all_both}

-- ---- lists

pub all_last : {X : Type 0} (P : X → Type 0) (xs ys : List X) → AllByRecursion P (xs ++ ys) → AllByRecursion P ys
all_last P [] ys all = all
all_last P (x ∷ xs) ys all = all_last P xs ys all.1

-- what is left of a list by a test passes it
filter_holds : {X : Type 0} (test : X → Bool) (xs : List X) → AllByRecursion (λ x. test x ≡ true) (filter test xs)
filter_holds test [] = tt
filter_holds {X} test (x ∷ xs) = elim (cases_Bool (test x)) [
  | inl is ↦ rw is (is, filter_holds test xs)
  | inr not ↦ rw not (filter_holds test xs)
]

-- ---- where each record is led to a link, none is foreign

none_at_first : (ps : List PortRow) → none_foreign (map (λ p. no_records) ps) ≡ true
none_at_first [] = refl
none_at_first (p ∷ ps) = none_at_first ps

seen_none : (place : ℕ) (ports : List Port) → none_foreign (changed_at place with_seen ports) ≡ none_foreign ports
seen_none place [] = refl
seen_none zero (p ∷ ports) = refl
seen_none (suc place) (p ∷ ports) = ap (λ (b : Bool). (p.foreign == 0) && b) (seen_none place ports)

-- one record more was seen at a place
abbrev with_seen_at : ℕ → Comparison → Comparison
with_seen_at place c = record c { ports = changed_at place with_seen c.ports }

record_none : (place : ℕ) (n : Numbered) (c : Comparison) (to : Option (ℕ × ℕ)) (x : ℕ × ℕ) → to ≡ Some x → none_foreign c.ports ≡ true
    → none_foreign (record_left place to n (with_seen_at place c)).ports ≡ true
record_none place n c None x led none = absurd (let never = led in cc)
record_none place n c (Some (link, output)) x led none = seen_none place c.ports ∙ none

left_none : (first : Comparison) (place port : ℕ) (n : Numbered) (c : Comparison) (b : Bool) → LeadAlike first c
    → AllByRecursion (IsLed first port) (if b && (port == port) then n.frame ∷ [] else []) → none_foreign c.ports ≡ true
    → none_foreign (if b then record_left place (link_at port n.frame.bytes c) n (with_seen_at place c) else c).ports ≡ true
left_none first place port n c false alike led none = none
left_none first place port n c true alike led none =
    let one = (subst (λ (b : Bool). AllByRecursion (IsLed first port) (if b then n.frame ∷ [] else [])) (eq-eqb port port refl) led).0 in
    record_none place n c (link_at port n.frame.bytes c) (one.link, one.output) (alike port n.frame.bytes ∙ one.is) none

came_none : (b : Bool) (of : Option ℕ) (n : Numbered) (c : Comparison) → none_foreign c.ports ≡ true → none_foreign (if b then own_came of n c else c).ports ≡ true
came_none true None n c none = none
came_none true (Some place) n c none = none
came_none false of n c none = none

side_none : (first : Comparison) (leaves : Bool) (place port : ℕ) (n : Numbered) (c : Comparison) → LeadAlike first c
    → (leaves ≡ true → AllByRecursion (IsLed first port) (if leaves then (if has_record c.watch n.frame.stamp && (port == port) then n.frame ∷ [] else []) else []))
    → none_foreign c.ports ≡ true
    → none_foreign (if leaves then (if has_record c.watch n.frame.stamp then record_left place (link_at port n.frame.bytes c) n (with_seen_at place c) else c) else with_came port n c).ports ≡ true
side_none first true place port n c alike led none = left_none first place port n c (has_record c.watch n.frame.stamp) alike (led refl) none
side_none first false place port n c alike led none = came_none (has_frame c.watch n.frame.stamp) (place_of_own c.table port n.frame) n c none

one_none : (s : Sources) (first : Comparison) (a : Arrival) (c : Comparison) → LeadAlike first c
    → ((x : _) → slice_get s.captures a.place ≡ Some x → x.leaves ≡ true → AllByRecursion (IsLed first x.port) (left_from c.watch x.port (Some x) a.head.frame))
    → none_foreign c.ports ≡ true → none_foreign (with_record_of (slice_get s.captures a.place) a c).ports ≡ true
one_none s first a c alike led none = elim (slice_get s.captures a.place) as (λ of.
    ((x : _) → of ≡ Some x → x.leaves ≡ true → AllByRecursion (IsLed first x.port) (left_from c.watch x.port (Some x) a.head.frame)) → none_foreign (with_record_of of a c).ports ≡ true) [
      | None ↦ λ all. none
      | Some x ↦ λ all. side_none first x.leaves x.place x.port a.head c alike (λ leaves. all x refl leaves) none
    ] led

all_none : (first : Comparison) (s : Sources) (arrivals : List Arrival) (c : Comparison) → LeadAlike first c
    → ((k : ℕ) (x : _) → slice_get s.captures k ≡ Some x → x.leaves ≡ true → AllByRecursion (IsLed first x.port) (all_left c.watch x.port s.captures arrivals))
    → none_foreign c.ports ≡ true → none_foreign (with_arrivals s.captures arrivals c).ports ≡ true
all_none first s [] c alike led none = none
all_none first s (a ∷ arrivals) c alike led none =
    let of = slice_get s.captures a.place in
    let d = with_arrival s.captures a c in
    let same = arrival_same of a c in
    all_none first s arrivals d (alike_after first of a c alike)
    (λ k x there leaves. subst (λ (w : Watch). AllByRecursion (IsLed first x.port) (all_left w x.port s.captures arrivals)) (sym same.watch)
    (all_last (IsLed first x.port) (left_from c.watch x.port of a.head.frame) (all_left c.watch x.port s.captures arrivals) (led k x there leaves)))
    (one_none s first a c alike
    (λ x is leaves. subst (λ (y : _). AllByRecursion (IsLed first x.port) (left_from c.watch x.port y a.head.frame)) is
    (all_first (IsLed first x.port) (left_from c.watch x.port of a.head.frame) (all_left c.watch x.port s.captures arrivals) (led a.place x is leaves))) none)

-- ---- a capture of what left is of a port that was recorded

record IsOfPort (outs : Outputs) (ps : List PortRow) (port : ℕ) : Type 0 where
  place : ℕ
  row : PortRow
  there : slice_get ps place ≡ Some row
  is : is_recorded outs row.id ≡ true
  number : row.id ≡ port

module _ (outs : Outputs) (ps : List PortRow) where
  inputs_may : (place : ℕ) (qs : List PortRow) → AllByRecursion (λ x. x.leaves ≡ true → IsOfPort outs ps x.port) (inputs_from place qs)
  inputs_may place [] = tt
  inputs_may place (q ∷ qs) = (λ never. absurd (let no = never in cc), inputs_may (place + 1) qs)

  outputs_may : (place : ℕ) (qs : List PortRow) → ((k : ℕ) (q : PortRow) → slice_get qs k ≡ Some q → (j : ℕ) × (slice_get ps j ≡ Some q))
      → AllByRecursion (λ x. x.leaves ≡ true → IsOfPort outs ps x.port) (outputs_from outs place qs)
  outputs_may place [] within = tt
  outputs_may place (q ∷ qs) within =
      let here = within 0 q refl in
      elim (cases_Bool (is_recorded outs q.id)) [
        | inl is ↦ rw is (λ leaves. record { place = here.0; row = q; there = here.1; is = is; number = refl }, outputs_may (place + 1) qs (λ k x at. within (suc k) x at))
        | inr not ↦ rw not (outputs_may (place + 1) qs (λ k x at. within (suc k) x at))
      ]

-- ---- what keeps to it is led

-- the link that a record names leads to its port, since of others nothing left
pub leads_there : (w : Watch) (t : Content) (ports : List PortRow) (read : List Capture) (out : PortRow → List Record) → (kept : IsKeptWithin w t ports read out)
    → (p : PortRow) → (among : Contains ports p) → (k : ℕ) (x : Record) → slice_get (recorded w (out p)) k ≡ Some x → (l : Link) → Contains t.links l → link_of x.bytes ≡ l.id
    → leads_to p.id l ≡ true
leads_there w t ports read out kept p among k x at l there same = elim (cases_Bool (leads_to p.id l)) [
  | inl is ↦ is
  | inr not ↦
      let held = filter_there (λ (y : Record). link_of y.bytes == l.id) (recorded w (out p)) k x at (eq-eqb (link_of x.bytes) l.id same) in
      let none : None ≡ Some x = ap (λ (rs : List Record). slice_get rs held.0) (sym (kept.none_else p among l there not)) ∙ held.1 in
      absurd (let never = none in cc)
]

module _ (found : LinksAreFound) (places : LinksAreAtTheirPlaces) (ports : PortsAreFound) (t : Content) (r : Recordings) (from until : ℕ) (keeping : Bool) (captures : List (List Record))
    (arrivals : List Arrival) (first : Comparison) (formed : IsWellFormed t) (begun : IsBegun t r from keeping first) (merge : IsMergeOf (sources_of t r).clocks captures arrivals)
    (named : HaveAddresses (watch_within t r from until) t (recorded_ports t r) (left_out t r captures))
    (kept : IsKeptWithin (watch_within t r from until) t (recorded_ports t r) (came_in t.ports captures) (left_out t r captures)) where
  abbrev w : Watch
  w = watch_within t r from until

  abbrev c : Comparison
  c = with_until until first

  abbrev sources : Sources
  sources = sources_of t r

  abbrev IsOfLink : Record → Type 0
  IsOfLink x = (l : Link) × Contains t.links l × (link_of x.bytes ≡ l.id)

  abbrev out : PortRow → List Record
  out p = recorded w (left_out t r captures p)

  watch_is : c.watch ≡ w
  watch_is = ap (λ (x : Watch). record x { until = Some until }) begun.watch

  sound : IsSound first
  sound = begun_sound t r from keeping first formed begun

  many : length first.links ≡ length t.links
  many = sound.many_links ∙ ap (λ (x : Content). length x.links) begun.table

  module _ (j : ℕ) (p : PortRow) (among : slice_get (recorded_ports t r) j ≡ Some p) where
    contained : Contains (recorded_ports t r) p
    contained = item_contained (recorded_ports t r) j p among

    is_there : is_recorded r.outputs p.id ≡ true
    is_there = all_at (λ (x : PortRow). is_recorded r.outputs x.id ≡ true) (recorded_ports t r) j p among (filter_holds (λ (x : PortRow). is_recorded r.outputs x.id) t.ports)

    module _ (in_table : Contains t.ports p) (l : Link) (place : ℕ) (at : IsPlaced t l place) (led : leads_to p.id l ≡ true) where
      f : (x : Watched) × (slice_get first.links place ≡ Some x)
      f = get_there first.links place (let lt = slice_get_within t.links place l at.there in omega (arith, lt, many))

      one : IsFirstOf (watch_of t r from) t r.outputs keeping l f.0
      one = first_each (watch_of t r from) t r.outputs keeping t.links first.links begun.links place l f.0 at.there f.1

      output : (k : ℕ) × (position (λ o. o.port == p.id) f.0.outputs ≡ Some k)
      output =
          let is = output_place (watch_of t r from) t r.outputs keeping l.priority p.id p l.to is_there (ports t formed p in_table) led in
          (is.0, ap (λ (x : Watched). position (λ o. o.port == p.id) x.outputs) one.first ∙ is.1)

      led_at : (x : Record) → HasAddress t x → link_of x.bytes ≡ l.id → IsLed c p.id x
      led_at x has same = record {
        link = place;
        output = output.0;
        is = ap (λ (y : Content). link_among p.id first.links (place_of_named y x.bytes)) begun.table
            ∙ ap (λ (b : Bool). link_among p.id first.links (if b && bytes_eq (constant_of x.bytes) t.constant then link_place t (link_of x.bytes) else None))
            (le-leb 6 (length x.bytes) has.0)
            ∙ ap (λ (b : Bool). link_among p.id first.links (if b then link_place t (link_of x.bytes) else None)) ((bytes_eq-Decides (constant_of x.bytes) t.constant).1 has.1)
            ∙ ap (λ (n : ℕ). link_among p.id first.links (link_place t n)) same
            ∙ ap (λ (o : Option ℕ). link_among p.id first.links o) at.named
            ∙ ap (λ (o : Option Watched). output_among p.id place o) f.1
            ∙ ap (λ (o : Option ℕ). led_to place o) output.1;
      }

    all_led_there : Contains t.ports p → AllByRecursion (IsLed c p.id) (out p)
    all_led_there in_table = all_from_each (IsLed c p.id) (out p) (λ k x at.
        let of : IsOfLink x = all_at IsOfLink (out p) k x at (recursion_from_All IsOfLink (out p) (kept.of_links p contained)) in
        let has = all_at (HasAddress t) (out p) k x at (named p contained) in
        let is = placed found places t of.0 (found.found t formed of.0 of.1) in
        led_at in_table of.0 is.0 is.1 (leads_there w t (recorded_ports t r) (came_in t.ports captures) (left_out t r captures) kept p contained k x at of.0 of.1 of.2) x has of.2)

  may : AllByRecursion (λ x. x.leaves ≡ true → IsOfPort r.outputs t.ports x.port) (sources_of t r).captures
  may = all_both (λ x. x.leaves ≡ true → IsOfPort r.outputs t.ports x.port) (inputs_from 0 t.ports) (outputs_from r.outputs 0 t.ports) (inputs_may r.outputs t.ports 0 t.ports)
      (outputs_may r.outputs t.ports 0 t.ports (λ k q at. (k, at)))

  led_from : (k : ℕ) (x : _) → slice_get (sources_of t r).captures k ≡ Some x → x.leaves ≡ true → AllByRecursion (IsLed c x.port) (all_left c.watch x.port sources.captures arrivals)
  led_from k x there leaves =
      let of : IsOfPort r.outputs t.ports x.port = all_at (λ y. y.leaves ≡ true → IsOfPort r.outputs t.ports y.port) (sources_of t r).captures k x there may leaves in
      let j = filter_there (λ (p : PortRow). is_recorded r.outputs p.id) t.ports of.place of.row of.there of.is in
      subst (λ (n : ℕ). AllByRecursion (IsLed c n) (all_left c.watch n sources.captures arrivals)) of.number
      (subst (λ (y : Watch). AllByRecursion (IsLed c of.row.id) (all_left y of.row.id sources.captures arrivals)) (sym watch_is)
      (subst (λ (rs : List Record). AllByRecursion (IsLed c of.row.id) rs) (sym (left_is_recorded w t r captures arrivals j.0 of.row formed.ports_rise merge j.1))
      (all_led_there j.0 of.row j.1 (item_contained t.ports of.place of.row of.there))))

  not_foreign : none_foreign (with_arrivals sources.captures arrivals c).ports ≡ true
  not_foreign = all_none c sources arrivals c (λ port bytes. refl) led_from (ap (λ (ps : List Port). none_foreign ps) begun.ports ∙ none_at_first t.ports)

pub kept_is_not_foreign : LinksAreFound → LinksAreAtTheirPlaces → PortsAreFound → KeptIsNotForeign
kept_is_not_foreign found places ports t r from until keeping captures arrivals first formed begun merge named kept =
    not_foreign found places ports t r from until keeping captures arrivals first formed begun merge named kept
