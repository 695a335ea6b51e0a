use Rattle.std.proofs.Common.{Some, None}
use Rattle.afdx_paced.proofs.Calls.{going_is}
use Rattle.afdx_paced.proofs.Sending.{next_is, next_some}
use Rattle.afdx_paced.proofs.paced.Paced.next_sent.Goals as goal

pub returns-in-Some : goal.returns-in-Some
returns-in-Some g c =
    let s = c.self.inside in
    let going = going_is s.feeder s.reached s.failed c.args.self.now c.self.view_is c.requires.going in
    let view = rw going at c.self.view_is in
    next_is c.later_arrivals_change_nothing.ensures c.merges_are_cut.ensures c.by_stamp_is_ordered.ensures s.reached s.feeder c.args.self.now c.args.port (Some c.in-Some.next.1) view
    c.self.invariant.0 (c.self.invariant.1 going) (next_some s.feeder.switch.run c.args.port c.in-Some.next c.in-Some.ensures)

pub returns-in-None : goal.returns-in-None
returns-in-None g c =
    let s = c.self.inside in
    let going = going_is s.feeder s.reached s.failed c.args.self.now c.self.view_is c.requires.going in
    let view = rw going at c.self.view_is in
    next_is c.later_arrivals_change_nothing.ensures c.merges_are_cut.ensures c.by_stamp_is_ordered.ensures s.reached s.feeder c.args.self.now c.args.port None view
    c.self.invariant.0 (c.self.invariant.1 going) c.in-None.ensures
