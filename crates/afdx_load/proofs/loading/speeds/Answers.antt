use Rattle.std.proofs.Common.{◌∙◌, length-set}
use Rattle.afdx_load.proofs.SlotLemmas.{placed}
use Rattle.afdx_load.proofs.loading.speeds.Goals as goal

pub loop-row-preserved : goal.loop-row-preserved
loop-row-preserved c = record {
  long = length-set _ _ _ ∙ c.loop-row.invariant.long;
  placed = placed c.args.ports.now c.loop-row.speeds c.loop-row.row-index c.from.result _ c.requires.numbers c.requires.order c.loop-row-test.true c.loop-row.invariant.long c.from.ensures
      c.loop-row.invariant.placed;
}
