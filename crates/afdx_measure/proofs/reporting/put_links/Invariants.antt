use Rattle.std.proofs.Common.{◌≡◌, ◌++◌, drop, string_bytes}
use Rattle.std.specs.Prelude.{flat_map}
use Rattle.afdx_measure.specs.Report.{link_lines}
use Rattle.afdx_measure.proofs.reporting.put_links.Given as goal

abbrev pub invariant-loop-place : goal.invariant-loop-place
invariant-loop-place g l =
    string_bytes l.initial.text ++ flat_map (link_lines l.promised l.measures.run) l.measures.run.table.links
    ≡ string_bytes l.text ++ flat_map (link_lines l.promised l.measures.run) (drop l.place l.measures.run.table.links)
