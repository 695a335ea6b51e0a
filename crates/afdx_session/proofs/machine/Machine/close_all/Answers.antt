use Rattle.std.proofs.Common.{rules, ◌<◌, ◌≤◌, ◌+◌, length, set, length-set, sym, subst, ◌∙◌, ap}
use Rattle.std.proofs.lemmas.Option.{slice_get-get_or}
use Rattle.afdx_session.specs.Inner.Kept.{IsGoing}
use Rattle.afdx_session.specs.Inner.View.{AreHalfDone, AreEndedLanes}
use Rattle.afdx_session.proofs.Settles.{back_items}
use Rattle.afdx_session.proofs.Closing.{Closes, closes_none, no_fault, closes_over, closes_one, closes_half, closes_fault, closes_all}
use Rattle.afdx_session.proofs.Ending.{ends_half}
use Rattle.afdx_session.proofs.machine.Machine.close_all.Goals as goal
use Rattle.afdx_session.proofs.machine.Machine.close_all.Goals.{then-not-lane+in_ok-close, else-not-lane}

pub loop-lane-init : goal.loop-lane-init
loop-lane-init g c = subst (λ ls. Closes c.args.self.now ls 0) (sym c.deref_mut-lane-items.ensures.value) (closes_none c.args.self.now c.requires.ready.1.running.going)

pub close-requires : goal.close-requires
close-requires g c =
    let items = c.loop-lane.lane-items in
    let lt = subst (λ n. c.loop-lane.lane-index < n) (sym c.loop-lane.auto.lane-items) c.loop-lane-test.true in
    no_fault items c.loop-lane.invariant.going.streams c.loop-lane.lane-index _ c.loop-lane.invariant.going.lanes_are (slice_get-get_or items c.loop-lane.lane-index c.lane-item.result lt)

pub returns-in_err-close-clause-half : goal.returns-in_err-close-clause-half
returns-in_err-close-clause-half g c =
    let v = c.args.self.now.lanes in
    let items = c.loop-lane.lane-items in
    let lt = subst (λ n. c.loop-lane.lane-index < n) (sym c.loop-lane.auto.lane-items) c.loop-lane-test.true in
    let long = length-set items c.loop-lane.lane-index c.close.new.self ∙ c.loop-lane.auto.lane-items ∙ ap (λ ls. length ls) c.deref_mut-lane-items.ensures.value in
    subst (λ ls. AreHalfDone v.items ls) (sym (back_items v (set items c.loop-lane.lane-index c.close.new.self) long))
    (closes_half c.args.self.now items c.loop-lane.lane-index _ _ (slice_get-get_or items c.loop-lane.lane-index c.lane-item.result lt) c.close.ensures.still c.close.ensures.undone
    c.close.ensures.bytes c.loop-lane.invariant)

pub returns-in_err-close-clause-err : goal.returns-in_err-close-clause-err
returns-in_err-close-clause-err g c =
    let items = c.loop-lane.lane-items in
    let lt = subst (λ n. c.loop-lane.lane-index < n) (sym c.loop-lane.auto.lane-items) c.loop-lane-test.true in
    let why =
    closes_fault c.taken_records_are_the_first.ensures.ends c.requires.ready.0 c.args.self.now items c.loop-lane.lane-index _ c.in_err-close.field-0.0 c.requires.ready.1.marked
    (slice_get-get_or items c.loop-lane.lane-index c.lane-item.result lt)
    c.in_err-close.ensures.err c.loop-lane.invariant in
    search rules

pub loop-lane-preserved : goal.loop-lane-preserved
loop-lane-preserved g c =
    let items = c.loop-lane.lane-items in
    let lt = subst (λ n. c.loop-lane.lane-index < n) (sym c.loop-lane.auto.lane-items) c.loop-lane-test.true in
    let at = slice_get-get_or items c.loop-lane.lane-index c.lane-item.result lt in
    elim c.if-not-lane.branch [
      | then-not-lane+in_ok-close w ↦
          subst (λ ls. Closes c.args.self.now ls (c.loop-lane.lane-index + 1)) (sym w.lane-items-is)
          (closes_one c.by_stamp_is_ordered.ensures c.merged_is_a_merge.ensures c.merged_is_by_stamp_and_port.ensures c.requires.ready.0 c.args.self.now items c.loop-lane.lane-index _ _
          w.in_ok-close.ensures.ok.0 c.requires.of c.requires.ready.1 at w.if-not-lane.true
          w.close.ensures.still w.close.ensures.undone w.close.ensures.bytes w.close.ensures.ended w.in_ok-close.ensures.ok.1 w.in_ok-close.ensures.ok.2 c.loop-lane.invariant)
      | else-not-lane w ↦
          subst (λ ls. Closes c.args.self.now ls (c.loop-lane.lane-index + 1)) (sym w.lane-items-is)
          (closes_over c.requires.ready.0 c.args.self.now items c.loop-lane.lane-index _ c.requires.ready.1 at w.if-not-lane.false c.loop-lane.invariant)
    ]

pub returns-clause-half : goal.returns-clause-half
returns-clause-half g c =
    let v = c.args.self.now.lanes in
    let items = c.loop-lane.lane-items in
    subst (λ ls. AreHalfDone v.items ls) (sym (back_items v items (c.loop-lane.auto.lane-items ∙ ap (λ ls. length ls) c.deref_mut-lane-items.ensures.value)))
    (ends_half c.loop-lane.lane-index v.items items c.loop-lane.invariant.ends)

pub returns-clause-ok : goal.returns-clause-ok
returns-clause-ok g c =
    let m = c.args.self.now in
    let items = c.loop-lane.lane-items in
    let le = subst (λ n. n ≤ c.loop-lane.lane-index) (sym c.loop-lane.auto.lane-items) c.loop-lane-test.false in
    subst (λ ls. IsGoing m.switch.run.table ls m.switch m.counts × AreEndedLanes m.lanes.items ls)
    (sym (back_items m.lanes items (c.loop-lane.auto.lane-items ∙ ap (λ ls. length ls) c.deref_mut-lane-items.ensures.value)))
    (c.loop-lane.invariant.going, closes_all m items c.loop-lane.lane-index le c.loop-lane.invariant)
