use Rattle.std.proofs.Common.{◌≡◌, ◌++◌, drop, map}
use Rattle.afdx_compare.specs.Rows.{foreign_row}
use Rattle.afdx_compare.proofs.rows.add_foreign.Given as goal

abbrev pub invariant-loop-mark : goal.invariant-loop-mark
invariant-loop-mark g l = l.initial.rows.items ++ map foreign_row l.marks ≡ l.rows.items ++ map foreign_row (drop l.mark-index l.marks)
