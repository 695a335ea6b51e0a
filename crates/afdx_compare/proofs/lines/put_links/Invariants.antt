use Rattle.std.proofs.Common.{◌≡◌, ◌++◌, drop, string_bytes}
use Rattle.afdx_compare.specs.Report.{links_from}
use Rattle.afdx_compare.proofs.lines.put_links.Given as goal

abbrev pub invariant-loop-place : goal.invariant-loop-place
invariant-loop-place g l =
    string_bytes l.initial.text ++ links_from l.form l.comparison.table.links 0 l.comparison.links
    ≡ string_bytes l.text ++ links_from l.form l.comparison.table.links l.place (drop l.place l.comparison.links)
