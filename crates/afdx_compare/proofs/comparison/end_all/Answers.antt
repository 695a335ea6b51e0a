use Rattle.std.proofs.Common.{arith}
use Rattle.afdx_following.specs.Watched.{with_ends}
use Rattle.afdx_following.proofs.Changing.{one_changed, all_changed}
use Rattle.afdx_compare.proofs.comparison.end_all.Goals as goal

pub loop-link-preserved : goal.loop-link-preserved
loop-link-preserved g c =
    one_changed (with_ends c.args.last) c.args.links.now c.loop-link.links c.loop-link.link-index c.link-item.result c.end.new.self (omega arith)
    c.loop-link.invariant c.link-item.is c.in_ok-end.ensures.ok

pub returns : goal.returns
returns g c = all_changed (with_ends c.args.last) c.args.links.now c.loop-link.links c.loop-link.link-index (omega arith) c.loop-link.invariant
