use Rattle.afdx_network_check.proofs.hops.Hops.+way_within.Given as goal

abbrev pub decreases-way_within : goal.decreases-way_within
decreases-way_within l = l.rows
