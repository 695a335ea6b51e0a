use Rattle.std.proofs.Common.{◌≡◌, ◌++◌, drop, string_bytes}
use Rattle.std.specs.Prelude.{flat_map}
use Rattle.afdx_rows.specs.Delays.{row_at}
use Rattle.afdx_rows.proofs.Columns.{names_in}
use Rattle.afdx_rows.proofs.delayed.put_link.Given as goal

abbrev pub invariant-loop-port : goal.invariant-loop-port
invariant-loop-port g l =
    (l.port-items ≡ l.link.to) × (string_bytes l.initial.text ++ flat_map (row_at (names_in l.columns) l.promised l.measures.run l.link) l.port-items
    ≡ string_bytes l.text ++ flat_map (row_at (names_in l.columns) l.promised l.measures.run l.link) (drop l.port-index l.port-items))
