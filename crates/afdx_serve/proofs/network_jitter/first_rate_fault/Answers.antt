use Rattle.std.proofs.Common.{◌<◌, length, rules}
use Rattle.std.proofs.lemmas.List.Elements.{Contains-get_or}
use Rattle.afdx_serve.proofs.network_jitter.first_rate_fault.Goals as goal

pub rate_fault-fault-requires : goal.rate_fault-fault-requires
rate_fault-fault-requires c =
    let within : c.loop-row.row-index < length c.args.table.now.ports = search rules in
    rw c.loads-loads.ensures
    (rw c.loop-row.invariant.all (c.ports_are_found.ensures c.args.table.now c.ports-row-items.ensures.well_formed _ (Contains-get_or c.args.table.now.ports c.loop-row.row-index _ within)))
