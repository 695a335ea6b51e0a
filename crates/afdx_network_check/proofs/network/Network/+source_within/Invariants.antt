use Rattle.afdx_network_check.proofs.network.Network.+source_within.Given as goal

abbrev pub decreases-source_within : goal.decreases-source_within
decreases-source_within l = l.rows
