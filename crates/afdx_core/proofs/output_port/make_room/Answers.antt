use Rattle.std.proofs.Common.{◌+◌, ◌<◌, ◌≤◌, length, get_or, set, arith}
use Rattle.afdx_core.specs.Inner.OutputPorts.{OutletValue}
use Rattle.afdx_core.specs.Inner.OutputPorts.{Out}
use Rattle.afdx_core.proofs.Outs.{became_step, became_stays, all_step}
use Rattle.afdx_core.proofs.output_port.make_room.Goals as goal

pub returns-in_err-reserve-clause-seen : goal.returns-in_err-reserve-clause-seen
returns-in_err-reserve-clause-seen g c =
    let os = c.loop-output_port.output_ports in
    let k = c.loop-output_port.output_port-index in
    let d = c.output_port-item.result in
    let o = get_or os k d in
    let next : OutletValue _ = c.reserve.new.self in
    became_stays c.args.output_ports.now (set os k next) (k + 1)
    (became_step (λ (x : Out). x) c.args.output_ports.now os k next d (omega (arith, c.loop-output_port-test.true)) c.loop-output_port.invariant.became
    c.reserve.ensures.seen)

pub loop-output_port-preserved : goal.loop-output_port-preserved
loop-output_port-preserved g c =
    let os = c.loop-output_port.output_ports in
    let k = c.loop-output_port.output_port-index in
    let d = c.output_port-item.result in
    let o = get_or os k d in
    let next : OutletValue _ = c.reserve.new.self in
    let lt : k < length os = omega (arith, c.loop-output_port-test.true) in
    record {
      became = became_step (λ (x : Out). x) c.args.output_ports.now os k next d lt c.loop-output_port.invariant.became
          c.reserve.ensures.seen;
      room = all_step (λ (x : OutletValue _). c.args.items ≤ x.port.room) os k next lt c.loop-output_port.invariant.room c.in_ok-reserve.ensures.ok;
    }

pub returns-clause-room : goal.returns-clause-room
returns-clause-room g c k d lt = c.loop-output_port.invariant.room k d (omega (arith, lt, c.loop-output_port-test.false))
