-- What arrived at an output port is what its capture has, by the clock.
use Rattle.std.proofs.Common.{◌≡◌, ◌≢◌, ℕ, ◌+◌, ◌<◌, Bool, true, false, cond, List, [], ◌∷◌, ◌++◌, map, filter, flat_map, length, Option, Some, None, refl, sym, ap, subst, ◌∙◌}
use Rattle.std.specs.Prelude.{◌==◌, ◌&&◌, if◌then◌else◌, slice_get}
use Rattle.std.specs.List.{AllByRecursion}
use Rattle.std.proofs.lemmas.Bool.{eqb-true, eq-eqb}
use Rattle.afdx_pcap.specs.Record.{Record}
use Rattle.afdx_table.specs.declared.rows.PortRow.{PortRow}
use Rattle.afdx_table.specs.Content.{Content}
use Rattle.afdx_table.specs.WellFormed.{Rises}
use Rattle.afdx_pairing.specs.Events.{Numbered}
use Rattle.afdx_following.specs.declared.watch.Watch.{Watch}
use Rattle.afdx_following.specs.Watch.{has_record}
use Rattle.afdx_merging.specs.declared.clock.Clock.{Clock}
use Rattle.afdx_merging.specs.Merge.{Arrival, due_at, numbered_from, arrival_at, at_place, IsMergeOf}
use Rattle.afdx_recordings.specs.declared.recordings.Recordings.{Recordings}
use Rattle.afdx_compare.specs.declared.sources.Source.{Source}
use Rattle.afdx_compare.specs.Sources.{output_clock, sources_of}
use Rattle.afdx_compare.specs.Within.{recorded}
use Rattle.afdx_compare.specs.Inner.Laws.{recorded_ports, left_out}
use Rattle.afdx_compare.specs.Inner.Reading.{AreClocked}
use Rattle.afdx_compare.proofs.Captured.{IsAlone, output_alone, output_by, left_at_port}
use Rattle.afdx_compare.proofs.Leading.{left_from, all_left}
use Rattle.afdx_compare.proofs.Owning.{none_if, records_at}
use Rattle.afdx_compare.proofs.Picking.{flat_filter, picked, frames, all_place, frames_numbered}
use Rattle.afdx_compare.proofs.Places.{get_there}

-- ---- each arrival is by the clock of its capture

all_by : (place : ℕ) (c : Clock) (ns : List Numbered) → AllByRecursion (λ a. a.due ≡ due_at c a.head.frame.stamp) (map (arrival_at place c) ns)
all_by place c [] = tt
all_by place c (n ∷ ns) = (refl, all_by place c ns)

abbrev HaveDues : List Clock → List Arrival → Type 0
HaveDues clocks arrivals = (place : ℕ) (c : Clock) → slice_get clocks place ≡ Some c → AllByRecursion (λ a. a.due ≡ due_at c a.head.frame.stamp) (at_place place arrivals)

all_clocked : (clocks : List Clock) (arrivals : List Arrival) → AllByRecursion (λ a. a.place < length clocks) arrivals → HaveDues clocks arrivals → AreClocked clocks arrivals
all_clocked clocks [] within dues = tt
all_clocked clocks (a ∷ arrivals) within dues =
    let clock = get_there clocks a.place within.0 in
    let here = subst (λ (b : Bool). AllByRecursion (λ x. x.due ≡ due_at clock.0 x.head.frame.stamp) (cond b (a ∷ at_place a.place arrivals) (at_place a.place arrivals)))
    (eq-eqb a.place a.place refl) (dues a.place clock.0 clock.1) in (
      record { clock = clock.0; at = clock.1; due = here.0 },
      all_clocked clocks arrivals within.1 (λ place c at. later (a.place == place) place c (dues place c at)),
    ) where
      later : (b : Bool) (place : ℕ) (c : Clock) → AllByRecursion (λ x. x.due ≡ due_at c x.head.frame.stamp) (cond b (a ∷ at_place place arrivals) (at_place place arrivals))
          → AllByRecursion (λ x. x.due ≡ due_at c x.head.frame.stamp) (at_place place arrivals)
      later true place c all = all.1
      later false place c all = all

pub merge_clocked : (clocks : List Clock) (captures : List (List Record)) (arrivals : List Arrival) → IsMergeOf clocks captures arrivals → AreClocked clocks arrivals
merge_clocked clocks captures arrivals merge =
    all_clocked clocks arrivals merge.within (λ place c at.
    (let rs = records_at captures clocks place c merge.many at in
    subst (λ (those : List Arrival). AllByRecursion (λ a. a.due ≡ due_at c a.head.frame.stamp) those) (sym (merge.each place c rs.0 at rs.1)) (all_by place c (numbered_from 1 c rs.0))))

-- ---- what left at a port

left_picked : (w : Watch) (port : ℕ) (captures : List Source) (arrivals : List Arrival) → all_left w port captures arrivals ≡ picked (left_from w port) captures arrivals
left_picked w port captures [] = refl
left_picked w port captures (a ∷ arrivals) = ap (λ (rs : List Record). left_from w port (slice_get captures a.place) a.head.frame ++ rs) (left_picked w port captures arrivals)

not_same : (s : Source) (port : ℕ) (b : Bool) → (s.port == port) ≡ b → (s.port ≡ port → ⊥) → b ≡ false
not_same s port true is never = absurd (never (eqb-true s.port port is))
not_same s port false is never = refl

other_left : (w : Watch) (port : ℕ) (captures : List Source) (i : ℕ) → IsAlone captures i true port → (k : ℕ) (r : Record) → k ≢ i → (of : Option Source) → slice_get captures k ≡ of
    → left_from w port of r ≡ []
other_left w port captures i alone k r other None get = refl
other_left w port captures i alone k r other (Some s) get = by s.leaves refl where
  by : (b : Bool) → s.leaves ≡ b → (if b then (if has_record w r.stamp && (s.port == port) then r ∷ [] else []) else []) ≡ []
  by true side = none_if (has_record w r.stamp) (s.port == port) r (not_same s port (s.port == port) refl (λ number. absurd (other (alone.alone k s get side number))))
  by false side = refl

and_right : (b : Bool) → (b && true) ≡ b
and_right true = refl
and_right false = refl

this_left : (w : Watch) (port : ℕ) (captures : List Source) (i : ℕ) → (alone : IsAlone captures i true port) → (r : Record)
    → left_from w port (slice_get captures i) r ≡ (if has_record w r.stamp then r ∷ [] else [])
this_left w port captures i alone r =
    ap (λ (of : Option Source). left_from w port of r) alone.there
    ∙ ap (λ (b : Bool). if b then (if has_record w r.stamp && (alone.source.port == port) then r ∷ [] else []) else []) alone.leaves_is
    ∙ ap (λ (b : Bool). if has_record w r.stamp && b then r ∷ [] else []) (eq-eqb alone.source.port port alone.port_is)
    ∙ ap (λ (b : Bool). if b then r ∷ [] else []) (and_right (has_record w r.stamp))

pub left_is_recorded : (w : Watch) (t : Content) (r : Recordings) (captures : List (List Record)) (arrivals : List Arrival) (j : ℕ) (p : PortRow) → Rises t.ports
    → IsMergeOf (sources_of t r).clocks captures arrivals → slice_get (recorded_ports t r) j ≡ Some p
    → all_left w p.id (sources_of t r).captures arrivals ≡ recorded w (left_out t r captures p)
left_is_recorded w t r captures arrivals j p rise merge at =
    let i = length t.ports + j in
    let sources = (sources_of t r).captures in
    let alone = output_alone t r rise j p at in
    let clock = output_by t r j p at in
    let rs = records_at captures (sources_of t r).clocks i (output_clock r p) merge.many clock in
    let h : Record → List Record = λ x. if has_record w x.stamp then x ∷ [] else [] in
    left_picked w p.id sources arrivals
    ∙ all_place (left_from w p.id) h sources i (λ k x other. other_left w p.id sources i alone k x other (slice_get sources k) refl) (this_left w p.id sources i alone) arrivals
    ∙ ap (λ (those : List Arrival). flat_map h (frames those)) (merge.each i (output_clock r p) rs.0 clock rs.1)
    ∙ ap (λ (xs : List Record). flat_map h xs) (frames_numbered i 1 (output_clock r p) rs.0)
    ∙ flat_filter (λ x. has_record w x.stamp) _
    ∙ ap (λ (xs : List Record). filter (λ x. has_record w x.stamp) xs) (sym (left_at_port t r rise captures j p rs.0 at rs.1))
