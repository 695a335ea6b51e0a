use Rattle.afdx_grouping.proofs.Scatter.{accepted_none, none_accepted}
use Rattle.afdx_grouping.proofs.laws.accepted_has_no_scattered_fault.Goals as goal

pub returns : goal.returns
returns c =
    let fault = c.carries_without_a_fault.ensures in
    λ d t. (accepted_none fault d t.latency t.links t.ports, none_accepted fault d t.latency t.links t.ports)
