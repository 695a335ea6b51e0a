use Rattle.std.proofs.Common.{◌≡◌, ◌++◌, drop, flat_map}
use Rattle.afdx_compare.specs.Rows.{output_rows}
use Rattle.afdx_compare.proofs.rows.add_link.Given as goal

abbrev pub invariant-loop-output : goal.invariant-loop-output
invariant-loop-output g l =
    l.initial.rows.items ++ flat_map (output_rows l.port l.link) l.output-items
    ≡ l.rows.items ++ flat_map (output_rows l.port l.link) (drop l.output-index l.output-items)
