use Rattle.std.proofs.Common.{◌<◌, ◌≤◌, arith, sym}
use Rattle.afdx_pairing.proofs.Firsts.{none_within, within_none, within_late, within_first}
use Rattle.afdx_pairing.proofs.queue.Queue.first_within.Goals as goal

pub returns-in_err-place : goal.returns-in_err-place
returns-in_err-place g c = rw c.from_residual.ensures (within_none c.args.bytes.now c.args.from c.args.last c.args.self.now c.in_err-place.ensures.place)

pub returns-in_err-get : goal.returns-in_err-get
returns-in_err-get g c = absurd (none_within c.args.self.now c.in_ok-place.place (sym c.in_err-get.ensures) c.in_ok-place.ensures.some)

pub returns-then-from : goal.returns-then-from
returns-then-from g c =
    let late : c.args.last < c.in_ok-get.field-0.now.frame.stamp = omega (arith, c.if-from.true, c.from.ensures, c.ns.ensures.instant, c.stamp.ensures) in
    within_late c.args.bytes.now c.args.from c.args.last c.args.self.now c.in_ok-place.place c.in_ok-get.field-0.now c.first_from.ensures.in_order c.in_ok-place.ensures.place c.in_ok-get.ensures late

pub returns : goal.returns
returns g c =
    let early : c.in_ok-get.field-0.now.frame.stamp ≤ c.args.last = omega (arith, c.if-from.false, c.from.ensures, c.ns.ensures.instant, c.stamp.ensures) in
    within_first c.args.bytes.now c.args.from c.args.last c.args.self.now c.in_ok-place.place c.in_ok-get.field-0.now c.in_ok-place.ensures.place c.in_ok-get.ensures early
