use Rattle.afdx_count.proofs.Numbered.{links_once}
use Rattle.afdx_count.proofs.links.Links.new.Goals as goal

pub invariant_of-result : goal.invariant_of-result
invariant_of-result g c = links_once c.args.table.now.links c.in_ok-tallies.tallies.items c.in_ok-tallies.ensures.distinct c.in_ok-tallies.ensures.tallies
