use Rattle.std.proofs.Common.{◌<◌, List, length, subst}
use Rattle.std.proofs.lemmas.List.Elements.{Contains-get_or}
use Rattle.afdx_table.specs.declared.rows.PortRow.{PortRow}
use Rattle.afdx_table.specs.Content.{Content}
use Rattle.afdx_table.specs.WellFormed.{IsWellFormed}
use Rattle.afdx_rows.proofs.delayed.put_buffers.Goals as goal

pub put_port-requires : goal.put_port-requires
put_port-requires g c =
    let ports = c.args.measures.now.run.table.ports in
    let within : c.loop-row.row-index < length ports = subst (λ (rows : List PortRow). c.loop-row.row-index < length rows) c.loop-row.invariant.0 c.loop-row-test.true in
    let formed : IsWellFormed c.args.measures.now.run.table = subst (λ (t : Content). IsWellFormed t) c.table.ensures c.ports-row-items.ensures.well_formed in
    rw c.loop-row.invariant.0 (c.ports_are_found.ensures c.args.measures.now.run.table formed _ (Contains-get_or ports c.loop-row.row-index _ within))
