use Rattle.afdx_network_trace.proofs.numbering.Search.+first_within.Given as goal

abbrev pub decreases-first_within : goal.decreases-first_within
decreases-first_within l = l.switches
