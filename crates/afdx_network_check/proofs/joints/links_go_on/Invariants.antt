use Rattle.std.proofs.Common.{◌≡◌, drop}
use Rattle.afdx_network_check.specs.Order.{first_of, goes_on}
use Rattle.afdx_network_check.proofs.joints.links_go_on.Given as goal

abbrev pub invariant-loop-index : goal.invariant-loop-index
invariant-loop-index l = first_of (goes_on l.what l.at l.there l.wire) (drop l.index l.here.links) ≡ first_of (goes_on l.what l.at l.there l.wire) l.here.links
