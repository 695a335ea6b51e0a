use Rattle.std.proofs.Common.{◌≡◌, ◌++◌, drop, string_bytes}
use Rattle.std.specs.Prelude.{flat_map}
use Rattle.afdx_rows.specs.Counts.{in_row}
use Rattle.afdx_rows.proofs.Columns.{names_in}
use Rattle.afdx_rows.proofs.counted.put_inputs.Given as goal

abbrev pub invariant-loop-port : goal.invariant-loop-port
invariant-loop-port g l =
    string_bytes l.initial.text ++ flat_map (in_row (names_in l.columns) l.switch) l.ports
    ≡ string_bytes l.text ++ flat_map (in_row (names_in l.columns) l.switch) (drop l.port-index l.ports)
