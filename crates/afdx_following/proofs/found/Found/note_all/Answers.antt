use Rattle.std.proofs.Common.{arith, sym}
use Rattle.afdx_following.proofs.Counting.{told_none, told_next, told_all}
use Rattle.afdx_following.proofs.found.Found.note_all.Goals as goal

pub loop-event-init : goal.loop-event-init
loop-event-init g c = sym (told_none c.args.self.now)

pub loop-event-preserved : goal.loop-event-preserved
loop-event-preserved g c =
    told_next c.args.events.now c.loop-event.event-index c.event-item.result c.args.self.now c.loop-event.self c.note.new.self c.loop-event-test.true c.event-item.is c.loop-event.invariant
    c.in_ok-note.ensures

pub returns : goal.returns
returns g c = told_all c.args.events.now c.loop-event.event-index c.args.self.now c.loop-event.self (omega arith) c.loop-event.invariant
