use Rattle.std.proofs.Common.{◌≡◌, ◌++◌, drop, string_bytes}
use Rattle.std.specs.Prelude.{flat_map}
use Rattle.afdx_rows.specs.Delays.{link_rows}
use Rattle.afdx_rows.proofs.Columns.{names_in}
use Rattle.afdx_rows.proofs.delayed.put_links.Given as goal

abbrev pub invariant-loop-place : goal.invariant-loop-place
invariant-loop-place g l =
    string_bytes l.initial.text ++ flat_map (link_rows (names_in l.columns) l.promised l.measures.run) l.measures.run.table.links
    ≡ string_bytes l.text ++ flat_map (link_rows (names_in l.columns) l.promised l.measures.run) (drop l.place l.measures.run.table.links)
