use Rattle.std.proofs.Common.{◌≡◌, List, [], ◌∷◌, ◌++◌, length, Option, Some, None, sym, ap, subst, ◌∙◌}
use Rattle.std.specs.Prelude.{IfSome, IfNone}
use Rattle.afdx_units.specs.Time.{earlier_of}
use Rattle.afdx_merging.specs.declared.clock.Clock.{Clock}
use Rattle.afdx_merging.specs.Merge.{Arrival, IsAfter}
use Rattle.afdx_merging.specs.Read.{AreMerged}
use Rattle.afdx_merging.specs.Inner.Merging.{HasMerged, least_of}
use Rattle.afdx_merging.proofs.Failing.{of_error}
use Rattle.afdx_compare.specs.declared.sources.CompareFault.TheVariants.{Memory}
use Rattle.afdx_compare.specs.Sources.{Sources}
use Rattle.afdx_compare.specs.Found.{IsCompareFault, WereAllRead}
use Rattle.afdx_compare.proofs.Clocked.{sources_many}
use Rattle.afdx_compare.proofs.Faulting.{fault_within, fault_is, fault_read}
use Rattle.afdx_compare.proofs.Reading.{starts, next_may, next_read, read_out}
use Rattle.afdx_compare.proofs.findings.read_all.Goals as goal

pub loop-record-init : goal.loop-record-init
loop-record-init g c = λ first merged.
    starts g.R.Read.remaining c.args.recordings.now c.args.sources.now first c.args.readers.now c.args.merging.now c.new.result.items c.args.comparison.now c.new.ensures.items merged

pub next-requires : goal.next-requires
next-requires g c =
    let m = c.requires.merged in
    let has = c.loop-record.invariant m.0 m.1 in
    (c.args.sources.now.clocks, m.0, has.came, has.merged)

pub take_next-requires-clause-places : goal.take_next-requires-clause-places
take_next-requires-clause-places g c =
    let rem = g.R.Read.remaining in
    let s = c.args.sources.now in
    let m = c.requires.merged in
    let l = c.loop-record in
    let has = l.invariant m.0 m.1 in
    let a : Arrival = c.in-Ok-Some.arrival in
    let next = subst (λ (o : Option Arrival). IfSome o (λ x. (clocks : List Clock) (first : List g.row.R.Denot) (came : List Arrival) → HasMerged rem clocks first l.readers l.merging came
    → HasMerged rem clocks first c.next.new.readers c.next.new.self (came ++ x ∷ []) × IsAfter clocks came x)) c.in-Ok-Some.field-0-is c.in-Ok-Some.ensures.some in
    let on = next s.clocks m.0 has.came has.merged in
    (next_may rem c.ports_are_found.ensures c.args.recordings.now s m.0 l.readers c.next.new.readers l.merging c.next.new.self (least_of c.args.merging.now.lanes.items) l.held.greatest
    l.held.records.items c.args.comparison.now l.comparison c.requires.ready has a on.0 on.1).places

pub take_next-requires-clause-sound : goal.take_next-requires-clause-sound
take_next-requires-clause-sound g c =
    let rem = g.R.Read.remaining in
    let s = c.args.sources.now in
    let m = c.requires.merged in
    let l = c.loop-record in
    let has = l.invariant m.0 m.1 in
    let a : Arrival = c.in-Ok-Some.arrival in
    let next = subst (λ (o : Option Arrival). IfSome o (λ x. (clocks : List Clock) (first : List g.row.R.Denot) (came : List Arrival) → HasMerged rem clocks first l.readers l.merging came
    → HasMerged rem clocks first c.next.new.readers c.next.new.self (came ++ x ∷ []) × IsAfter clocks came x)) c.in-Ok-Some.field-0-is c.in-Ok-Some.ensures.some in
    let on = next s.clocks m.0 has.came has.merged in
    (next_may rem c.ports_are_found.ensures c.args.recordings.now s m.0 l.readers c.next.new.readers l.merging c.next.new.self (least_of c.args.merging.now.lanes.items) l.held.greatest
    l.held.records.items c.args.comparison.now l.comparison c.requires.ready has a on.0 on.1).sound

pub take_next-requires-clause-in_turn : goal.take_next-requires-clause-in_turn
take_next-requires-clause-in_turn g c =
    let rem = g.R.Read.remaining in
    let s = c.args.sources.now in
    let m = c.requires.merged in
    let l = c.loop-record in
    let has = l.invariant m.0 m.1 in
    let a : Arrival = c.in-Ok-Some.arrival in
    let next = subst (λ (o : Option Arrival). IfSome o (λ x. (clocks : List Clock) (first : List g.row.R.Denot) (came : List Arrival) → HasMerged rem clocks first l.readers l.merging came
    → HasMerged rem clocks first c.next.new.readers c.next.new.self (came ++ x ∷ []) × IsAfter clocks came x)) c.in-Ok-Some.field-0-is c.in-Ok-Some.ensures.some in
    let on = next s.clocks m.0 has.came has.merged in
    (next_may rem c.ports_are_found.ensures c.args.recordings.now s m.0 l.readers c.next.new.readers l.merging c.next.new.self (least_of c.args.merging.now.lanes.items) l.held.greatest
    l.held.records.items c.args.comparison.now l.comparison c.requires.ready has a on.0 on.1).in_turn

pub loop-record-preserved : goal.loop-record-preserved
loop-record-preserved g c = λ first merged.
    let rem = g.R.Read.remaining in
    let s = c.args.sources.now in
    let l = c.loop-record in
    let has = l.invariant first merged in
    let a : Arrival = c.in-Ok-Some.arrival in
    let next = subst (λ (o : Option Arrival). IfSome o (λ x. (clocks : List Clock) (first : List g.row.R.Denot) (came : List Arrival) → HasMerged rem clocks first l.readers l.merging came
    → HasMerged rem clocks first c.next.new.readers c.next.new.self (came ++ x ∷ []) × IsAfter clocks came x)) c.in-Ok-Some.field-0-is c.in-Ok-Some.ensures.some in
    let on = next s.clocks first has.came has.merged in
    let least = subst (λ (o : Option Arrival). IfSome o (λ x. earlier_of (Some x.head.frame.stamp) (least_of c.next.new.self.lanes.items) ≡ least_of l.merging.lanes.items))
    c.in-Ok-Some.field-0-is c.in-Ok-Some.ensures.least in
    next_read rem c.args.recordings.now s first l.readers c.next.new.readers l.merging c.next.new.self (least_of c.args.merging.now.lanes.items) l.held.greatest c.take_next.new.held.greatest
    l.held.records.items c.take_next.new.held.records.items c.args.comparison.now l.comparison c.take_next.new.comparison has a on.0 on.1 least
    c.in_ok-take_next-in-Ok-Some.ensures.greatest c.in_ok-take_next-in-Ok-Some.ensures.taken

pub returns-in-Ok-None-clause-ok : goal.returns-in-Ok-None-clause-ok
returns-in-Ok-None-clause-ok g c = λ first merged.
    let rem = g.R.Read.remaining in
    let s = c.args.sources.now in
    let l = c.loop-record in
    let has = l.invariant first merged in
    let ends = subst (λ (o : Option Arrival). IfNone o ((clocks : List Clock) (first : List g.row.R.Denot) (came : List Arrival) → HasMerged rem clocks first l.readers l.merging came
    → AreMerged rem clocks first came)) c.in-Ok-None.field-0-is c.in-Ok-None.ensures.none in
    let none = subst (λ (o : Option Arrival). IfNone o (least_of l.merging.lanes.items ≡ None)) c.in-Ok-None.field-0-is c.in-Ok-None.ensures.none_left in
    read_out rem c.args.recordings.now s first l.readers l.merging (least_of c.args.merging.now.lanes.items) l.held.greatest l.held.records.items c.args.comparison.now l.comparison has
    (ends s.clocks first has.came has.merged) none

pub fault-requires : goal.fault-requires
fault-requires g c =
    let rem = g.R.Read.remaining in
    let s = c.args.sources.now in
    let m = c.requires.merged in
    let has = c.loop-record.invariant m.0 m.1 in
    let ready = c.requires.ready in
    let many : length m.0 ≡ length s.captures =
    has.merged.long ∙ ap (λ (x : Sources). length x.clocks) ready.sources ∙ sym (sources_many c.args.recordings.now c.args.comparison.now.table)
    ∙ ap (λ (x : Sources). length x.captures) (sym ready.sources) in
    fault_within rem (length s.captures) m.0 c.in-Err.fault many (c.in-Err.ensures.err s.clocks m.0 has.came has.merged)

pub returns-in-Err-clause-err : goal.returns-in-Err-clause-err
returns-in-Err-clause-err g c = λ first merged.
    let s = c.args.sources.now in
    let has = c.loop-record.invariant first merged in
    fault_is g.R.Read.remaining s.captures first c.in-Err.fault c.fault.result (c.in-Err.ensures.err s.clocks first has.came has.merged) c.fault.ensures

pub returns-in_err-take_next-in-Ok-Some-clause-err : goal.returns-in_err-take_next-in-Ok-Some-clause-err
returns-in_err-take_next-in-Ok-Some-clause-err g c =
    let rem = g.R.Read.remaining in
    let s = c.args.sources.now in
    of_error (λ fault. (first : List g.row.R.Denot) → HasMerged rem s.clocks first c.args.readers.now c.args.merging.now [] → IsCompareFault rem s.captures first fault) c.from_residual.result Memory
    c.from_residual.ensures (λ first merged. tt)

pub returns-in-Err-clause-read : goal.returns-in-Err-clause-read
returns-in-Err-clause-read g c = fault_read g.R.Read.remaining c.args.sources.now.captures c.next.new.readers c.in-Err.fault c.fault.result c.in-Err.ensures.read c.fault.ensures

pub returns-in_err-take_next-in-Ok-Some-clause-read : goal.returns-in_err-take_next-in-Ok-Some-clause-read
returns-in_err-take_next-in-Ok-Some-clause-read g c =
    of_error (λ fault. WereAllRead g.R.Read.remaining c.next.new.readers fault) c.from_residual.result Memory c.from_residual.ensures tt
