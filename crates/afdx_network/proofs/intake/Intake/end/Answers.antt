use Rattle.std.proofs.Common.{◌≡◌, List, [], ◌∷◌, ◌++◌, length, map, Option, Some, refl, sym, ap, subst, ◌∙◌, arith}
use Rattle.std.specs.Prelude.{IfSome, IfNone}
use Rattle.std.proofs.lemmas.List.{length-map}
use Rattle.std.proofs.lemmas.Result.{IfOk-weaker, IfErr-weaker}
use Rattle.afdx_units.specs.Time.{earlier_of}
use Rattle.afdx_merging.specs.declared.clock.Clock.{Clock}
use Rattle.afdx_merging.specs.Merge.{Arrival, IsAfter, same_clock}
use Rattle.afdx_merging.specs.Read.{AreMerged}
use Rattle.afdx_merging.specs.Inner.Merging.{HasMerged, least_of}
use Rattle.afdx_wiring.specs.declared.layout.End.{End}
use Rattle.afdx_network_check.specs.Net.{Network}
use Rattle.afdx_network.specs.Given.{open_ends}
use Rattle.afdx_network.specs.Inner.Intake.{AreMet, AreOverLines, HasTaken, HasTakenAll, IsLineFault, IsIntakeFault}
use Rattle.afdx_network.specs.declared.line.Line.{Line}
use Rattle.afdx_network.proofs.Answering.{written_back}
use Rattle.afdx_network.proofs.Meeting.{next_number}
use Rattle.afdx_network.proofs.Taking.{reads_none, reads_one, reads_all, line_there, fault_among, fault_there}
use Rattle.afdx_network.proofs.intake.Intake.end.Goals as goal

pub loop-record-init : goal.loop-record-init
loop-record-init g c = λ net first came taken. reads_none g.R.Read.remaining net first c.args.self came c.args.readers.now taken

pub next-requires : goal.next-requires
next-requires g c =
    let t = c.requires in
    let r = c.loop-record.invariant t.0 t.1 t.2 t.3 in
    (map (λ (e : End). same_clock) (open_ends t.0), t.1, t.2 ++ r.more, r.taken.merged)

pub loop-record-preserved : goal.loop-record-preserved
loop-record-preserved g c = λ net first came taken.
    let rem = g.R.Read.remaining in
    let l = c.loop-record in
    let r = l.invariant net first came taken in
    let next = subst (λ (o : Option Arrival). IfSome o (λ x. (clocks : List Clock) (first : List g.row.R.Denot) (came : List Arrival) → HasMerged rem clocks first l.readers l.self.merging came
    → HasMerged rem clocks first c.next.new.readers c.next.new.self (came ++ x ∷ []) × IsAfter clocks came x)) c.in-Ok-Some.field-0-is c.in-Ok-Some.ensures.some in
    let on = next (map (λ (e : End). same_clock) (open_ends net)) first (came ++ r.more) r.taken.merged in
    let least = subst (λ (o : Option Arrival). IfSome o (λ x. earlier_of (Some x.head.frame.stamp) (least_of c.next.new.self.lanes.items) ≡ least_of l.self.merging.lanes.items))
    c.in-Ok-Some.field-0-is c.in-Ok-Some.ensures.least in
    let number = next_number rem (map (λ (e : End). same_clock) (open_ends net)) first c.next.new.readers c.next.new.self (came ++ r.more) c.in-Ok-Some.arrival on.0 in
    let old = l.self.lines in
    let value = c.deref_mut.ensures.value in
    let met = c.meet.ensures net (came ++ r.more) number (subst (λ (lines : List Line). AreMet net lines (came ++ r.more)) (sym value) r.taken.met) in
    let kept = c.meet.auto.lines ∙ ap (λ (lines : List Line). length lines) value in
    let long = old.ok.0 in
    let back = written_back old.items c.meet.new.lines old.len kept (omega (arith, long)) in
    reads_one rem net first c.args.self came l.readers c.next.new.readers l.self _ c.in-Ok-Some.arrival r refl
    (subst (λ (lines : List Line). AreMet net lines ((came ++ r.more) ++ c.in-Ok-Some.arrival ∷ [])) (sym back) met) on.0 least

pub check_lines-requires : goal.check_lines-requires
check_lines-requires g c =
    let t = c.requires in
    let r = c.loop-record.invariant t.0 t.1 t.2 t.3 in
    (t.0, t.2 ++ r.more, r.taken.ends, r.taken.met)

pub returns-in-Ok-None-clause-ok : goal.returns-in-Ok-None-clause-ok
returns-in-Ok-None-clause-ok g c =
    IfOk-weaker c.check_lines.result (λ _. (net : Network) (came : List Arrival) → AreMet net c.loop-record.self.lines.items came → AreOverLines net came)
    (λ _. (net : Network) (first : List g.row.R.Denot) (came : List Arrival) → HasTaken g.R.Read.remaining net first c.args.readers.now c.args.self came
    → HasTakenAll g.R.Read.remaining net first c.args.self came)
    (λ _ over net first came taken.
    let rem = g.R.Read.remaining in
    let l = c.loop-record in
    let r = l.invariant net first came taken in
    let ends = subst (λ (o : Option Arrival). IfNone o ((clocks : List Clock) (first : List g.row.R.Denot) (came : List Arrival) → HasMerged rem clocks first l.readers l.self.merging came
    → AreMerged rem clocks first came)) c.in-Ok-None.field-0-is c.in-Ok-None.ensures.none in
    reads_all rem net first c.args.self came l.readers l.self r (ends (map (λ (e : End). same_clock) (open_ends net)) first (came ++ r.more) r.taken.merged) (over net (came ++ r.more) r.taken.met))
    c.check_lines.ensures.ok

pub returns-in-Ok-None-clause-err : goal.returns-in-Ok-None-clause-err
returns-in-Ok-None-clause-err g c =
    IfErr-weaker c.check_lines.result
    (λ why. (net : Network) (came : List Arrival) → c.loop-record.self.ends.items ≡ open_ends net → AreMet net c.loop-record.self.lines.items came → IsLineFault net came why)
    (λ why. (net : Network) (first : List g.row.R.Denot) (came : List Arrival) → HasTaken g.R.Read.remaining net first c.args.readers.now c.args.self came
    → IsIntakeFault g.R.Read.remaining net first why)
    (λ why broken net first came taken.
    let rem = g.R.Read.remaining in
    let l = c.loop-record in
    let r = l.invariant net first came taken in
    let ends = subst (λ (o : Option Arrival). IfNone o ((clocks : List Clock) (first : List g.row.R.Denot) (came : List Arrival) → HasMerged rem clocks first l.readers l.self.merging came
    → AreMerged rem clocks first came)) c.in-Ok-None.field-0-is c.in-Ok-None.ensures.none in
    line_there rem net first (came ++ r.more) (ends (map (λ (e : End). same_clock) (open_ends net)) first (came ++ r.more) r.taken.merged) why
    (broken net (came ++ r.more) r.taken.ends r.taken.met))
    c.check_lines.ensures.err

pub fault_at-requires : goal.fault_at-requires
fault_at-requires g c =
    let t = c.requires in
    let r = c.loop-record.invariant t.0 t.1 t.2 t.3 in
    fault_among g.R.Read.remaining t.1 c.deref.result.now c.in-Err.fault
    (r.taken.merged.long ∙ length-map (open_ends t.0) (λ (e : End). same_clock) ∙ ap (λ (es : List End). length es) (sym (c.deref.ensures.value ∙ r.taken.ends)))
    (c.in-Err.ensures.err (map (λ (e : End). same_clock) (open_ends t.0)) t.1 (t.2 ++ r.more) r.taken.merged)

pub returns-in-Err-clause-err : goal.returns-in-Err-clause-err
returns-in-Err-clause-err g c = λ net first came taken.
    let r = c.loop-record.invariant net first came taken in
    fault_there g.R.Read.remaining net first c.deref.result.now c.in-Err.fault c.fault_at.result (c.deref.ensures.value ∙ r.taken.ends)
    (c.in-Err.ensures.err (map (λ (e : End). same_clock) (open_ends net)) first (came ++ r.more) r.taken.merged) c.fault_at.ensures
