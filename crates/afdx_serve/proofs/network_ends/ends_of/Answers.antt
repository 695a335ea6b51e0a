use Rattle.std.proofs.Common.{refl}
use Rattle.afdx_serve.proofs.NetworkMeasureLemmas.{unchecked_ends}
use Rattle.afdx_serve.proofs.network_ends.ends_of.Goals as goal

pub returns-in_ok-exits-in-Unchecked : goal.returns-in_ok-exits-in-Unchecked
returns-in_ok-exits-in-Unchecked c =
    let ends = rw c.deref.ensures.value at c.ends_of_exits.ensures in
    let exits = c.in_ok-exits-in-Unchecked.ensures in
    rw c.in-Unchecked.is (unchecked_ends c.in-Unchecked.network c.in_ok-exits-in-Unchecked.exits.items c.ends_of_exits.result exits.all exits.order ends)

pub accepted_ends-requires : goal.accepted_ends-requires
accepted_ends-requires c = (rw c.in-Accepted.is at c.requires) refl

pub returns-in-Accepted : goal.returns-in-Accepted
returns-in-Accepted c = rw c.in-Accepted.is c.accepted_ends.ensures
