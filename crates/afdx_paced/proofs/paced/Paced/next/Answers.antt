use Rattle.std.proofs.Common.{Some, None, max, subst, sym}
use Rattle.afdx_paced.specs.Paced.{Paced, IsNext}
use Rattle.afdx_paced.specs.Inner.Kept.{IsSorted, IsCut}
use Rattle.afdx_paced.proofs.Lists.{all_weaker}
use Rattle.afdx_paced.proofs.Calls.{going_is}
use Rattle.afdx_paced.proofs.Quiet.{comes_next, none_next}
use Rattle.afdx_paced.proofs.paced.Paced.next.Goals as goal

pub next_arrival-requires-clause-sorted : goal.next_arrival-requires-clause-sorted
next_arrival-requires-clause-sorted g c =
    let s = c.self.inside in
    let going = going_is s.feeder s.reached s.failed c.args.self.now c.self.view_is c.requires.going in
    all_weaker (IsCut s.reached) IsSorted (λ l cut. cut.sorted) s.feeder.lanes.items (c.self.invariant.1 going).cut

pub returns-in_err-first : goal.returns-in_err-first
returns-in_err-first g c =
    let s = c.self.inside in
    let going = going_is s.feeder s.reached s.failed c.args.self.now c.self.view_is c.requires.going in
    let view = rw going at c.self.view_is in
    let none = none_next c.later_arrivals_change_nothing.ensures c.merges_are_cut.ensures c.by_stamp_is_ordered.ensures c.events_follow_the_line.ensures.parts s.reached s.feeder
    c.next_arrival.result c.next_start.result (c.self.invariant.1 going) c.next_arrival.ensures c.next_start.ensures (sym c.in_err-first.ensures) in
    rw c.from_residual.ensures (subst (λ (v : Paced). IsNext v None) view none)

pub returns : goal.returns
returns g c =
    let s = c.self.inside in
    let going = going_is s.feeder s.reached s.failed c.args.self.now c.self.view_is c.requires.going in
    let view = rw going at c.self.view_is in
    let first = c.in_ok-first.first in
    let some = comes_next c.later_arrivals_change_nothing.ensures c.merges_are_cut.ensures c.by_stamp_is_ordered.ensures c.lagging_ports_follow.ensures.stays s.reached first s.feeder
    c.next_arrival.result c.next_start.result (c.self.invariant.1 going) c.next_arrival.ensures c.next_start.ensures (sym c.in_ok-first.ensures) in
    rw c.later_of.ensures (subst (λ (v : Paced). IsNext v (Some (max first s.reached))) view some)
