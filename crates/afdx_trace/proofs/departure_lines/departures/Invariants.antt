use Rattle.std.proofs.Common.{◌≡◌, ◌++◌, drop, string_bytes}
use Rattle.std.specs.Prelude.{flat_map}
use Rattle.afdx_trace.specs.Departures.{departures_heading, port_lines}
use Rattle.afdx_trace.proofs.departure_lines.departures.Given as goal

abbrev pub invariant-loop-port : goal.invariant-loop-port
invariant-loop-port g l = departures_heading ++ flat_map (port_lines l.shown l.done.run) l.done.run.table.ports
    ≡ string_bytes l.text ++ flat_map (port_lines l.shown l.done.run) (drop l.port-index l.done.run.table.ports)
