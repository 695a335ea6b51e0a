use Rattle.std.proofs.Common.{◌≡◌, ◌++◌, drop}
use Rattle.afdx_compare.specs.Rows.{links_rows}
use Rattle.afdx_compare.proofs.rows.add_links.Given as goal

abbrev pub invariant-loop-place : goal.invariant-loop-place
invariant-loop-place g l =
    l.initial.rows.items ++ links_rows l.port l.comparison.table.links 0 l.comparison.links
    ≡ l.rows.items ++ links_rows l.port l.comparison.table.links l.place (drop l.place l.comparison.links)
