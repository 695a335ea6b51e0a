use Rattle.std.proofs.Common.{◌∙◌, ap, List}
use Rattle.afdx_table.specs.declared.rows.PortRow.{PortRow}
use Rattle.afdx_paced.proofs.Fresh.{fresh_all, fresh_of_table, fresh_going}
use Rattle.afdx_paced.proofs.feeder.Feeder.new.Goals as goal

pub returns : goal.returns
returns g c =
    let lanes = c.in_ok-lanes.ensures ∙ ap (λ (ports : List PortRow). fresh_all ports) c.ports.ensures.ports in (
      fresh_of_table _ c.args.table _ c.ports.ensures.well_formed c.in_ok-switch.ensures lanes,
      c.in_ok-switch.ensures,
      fresh_going c.starts_with_none.ensures _ c.args.table _ c.in_ok-switch.ensures c.in_ok-counts.ensures lanes,
      lanes,
    )
