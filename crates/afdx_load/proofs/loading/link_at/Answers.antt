use Rattle.afdx_table.specs.WellFormed.{IsLink}
use Rattle.afdx_load.proofs.RowLemmas.{slots_fit}
use Rattle.afdx_load.proofs.loading.link_at.Goals as goal

pub returns-clause-members : goal.returns-clause-members
returns-clause-members c =
    let limits = c.link_at.ensures.limits in
    let formed : IsLink c.args.table.now.ports c.unwrap.result.now = rw c.unwrap.ensures at limits in
    slots_fit c.args.table.now.ports c.unwrap.result.now.to c.link_at.ensures.well_formed.ports formed.targets.are_ports formed.targets.once
