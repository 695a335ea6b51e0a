use Rattle.afdx_network.proofs.Listing.{all_next}
use Rattle.afdx_network.proofs.given.all_ends.Goals as goal

pub loop-switch-preserved : goal.loop-switch-preserved
loop-switch-preserved c =
    let l = c.loop-switch in
    record {
      tables = l.invariant.tables;
      ends = all_next c.tables-table-items.result.now l.switch c.table-item.result l.ends.items c.push_all.new.ends.items c.loop-switch-test.true c.table-item.is
          l.invariant.ends c.in_ok-push_all.ensures;
    }
