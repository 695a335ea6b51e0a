use Rattle.std.proofs.Common.{◌≡◌, map, take}
use Rattle.afdx_network_report.specs.LinkEnds.{link_end_of}
use Rattle.afdx_serve.proofs.network_ends.ends_of_ways.Given as goal

abbrev pub invariant-loop-way : goal.invariant-loop-way
invariant-loop-way l = l.ends.items ≡ map link_end_of (take l.way-index l.ways)
