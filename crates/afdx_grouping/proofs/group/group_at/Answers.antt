use Rattle.std.proofs.Common.{arith}
use Rattle.afdx_grouping.proofs.Adding.{group_more, less_small, none_small}
use Rattle.afdx_grouping.proofs.group.group_at.Goals as goal

pub loop-index-init : goal.loop-index-init
loop-index-init c = record { so_far = c.none-group.ensures c.args.to.now.speed; small = none_small c.args.to.now.speed c.none-group.result (c.none-group.ensures c.args.to.now.speed) }

pub added-group-requires-clause-room : goal.added-group-requires-clause-room
added-group-requires-clause-room c = less_small c.loop-index.index 4095 c.loop-index.group (omega (arith, c.link_count-index-end.ensures.well_formed.few_links)) c.loop-index.invariant.small

pub loop-index-preserved : goal.loop-index-preserved
loop-index-preserved c = record {
  so_far = group_more c.args.table.now.links c.loop-index.index c.args.from c.args.to.now c.link_at.result.now c.loop-index.group _
      (omega arith) c.link_at.ensures.link c.loop-index.invariant.so_far c.added-group.ensures.added;
  small = c.added-group.ensures.small c.loop-index.index c.loop-index.invariant.small;
}
