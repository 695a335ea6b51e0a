use Rattle.std.proofs.Common.{sym, subst}
use Rattle.afdx_pairing.specs.Inner.Queue.{AreInOrder}
use Rattle.afdx_pairing.proofs.Places.{in_order, one_found, none_found}
use Rattle.afdx_pairing.proofs.queue.Queue.first_from.Goals as goal

pub first_from-requires : goal.first_from-requires
first_from-requires g c =
    subst AreInOrder (sym (c.self.invariant.spots c.args.bytes.now)) (in_order c.args.bytes.now c.self.inside.gone c.self.inside.items.items c.self.invariant.in_order)

pub returns-in_err-spot-clause-place : goal.returns-in_err-spot-clause-place
returns-in_err-spot-clause-place g c =
    rw c.from_residual.ensures
    (none_found c.self.inside.items.items c.args.self.now c.self.inside.spots c.self.inside.gone c.args.bytes.now c.args.from c.self.invariant c.self.view_is c.in_err-spot.ensures)

pub overflow_sub-result : goal.overflow_sub-result
overflow_sub-result g c =
    (one_found c.self.inside.items.items c.args.self.now c.self.inside.spots c.self.inside.gone c.args.bytes.now c.args.from c.in_ok-spot.spot c.self.invariant c.self.view_is c.in_ok-spot.ensures).0

pub returns-clause-place : goal.returns-clause-place
returns-clause-place g c =
    (one_found c.self.inside.items.items c.args.self.now c.self.inside.spots c.self.inside.gone c.args.bytes.now c.args.from c.in_ok-spot.spot c.self.invariant c.self.view_is c.in_ok-spot.ensures).1

pub returns-clause-some : goal.returns-clause-some
returns-clause-some g c =
    (one_found c.self.inside.items.items c.args.self.now c.self.inside.spots c.self.inside.gone c.args.bytes.now c.args.from c.in_ok-spot.spot c.self.invariant c.self.view_is c.in_ok-spot.ensures).2
