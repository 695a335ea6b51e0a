use Rattle.afdx_network_check.proofs.hops.Hops.+way_to.Given as goal

abbrev pub decreases-way_to : goal.decreases-way_to
decreases-way_to l = l.rows
