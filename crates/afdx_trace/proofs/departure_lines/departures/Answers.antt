use Rattle.std.proofs.Common.{◌≡◌, ◌<◌, List, length, slice_index_or, Some, subst, rules}
use Rattle.std.specs.Prelude.{Contains}
use Rattle.std.proofs.lemmas.List.Elements.{Contains-get_or}
use Rattle.afdx_units.specs.declared.line.Speed.TheVariants.{Ten}
use Rattle.afdx_table.specs.declared.rows.PortRow.{PortRow}
use Rattle.afdx_table.specs.Content.{Content, port_row}
use Rattle.afdx_trace.proofs.departure_lines.departures.Goals as goal

pub put_port-requires : goal.put_port-requires
put_port-requires g c =
    let ports = c.ports-port-items.result.now in
    let d : PortRow = record { id = 0; speed = Ten; buffer = 0; max_delay = 0 } in
    let p = slice_index_or ports c.loop-port.port-index d in
    let within : c.loop-port.port-index < length ports = search rules in
    let among = subst (λ (ps : List PortRow). Contains ps p) c.ports-port-items.ensures.ports (Contains-get_or ports c.loop-port.port-index d within) in
    subst (λ (t : Content). port_row t p.id ≡ Some p) c.table.ensures (c.ports_are_found.ensures c.table.result.now c.ports-port-items.ensures.well_formed p among)
