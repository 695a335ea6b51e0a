use Rattle.std.proofs.Common.{arith}
use Rattle.afdx_following.specs.Output.{Output, with_end}
use Rattle.afdx_following.proofs.Changing.{one_changed, all_changed}
use Rattle.afdx_following.proofs.watched.end_all.Goals as goal

pub loop-output-preserved : goal.loop-output-preserved
loop-output-preserved g c =
    one_changed (λ (o : Output). with_end c.args.last o) c.args.outputs.now c.loop-output.outputs c.loop-output.output-index c.output-item.result c.end.new.self (omega arith)
    c.loop-output.invariant c.output-item.is c.in_ok-end.ensures

pub returns : goal.returns
returns g c =
    all_changed (λ (o : Output). with_end c.args.last o) c.args.outputs.now c.loop-output.outputs c.loop-output.output-index (omega arith) c.loop-output.invariant
