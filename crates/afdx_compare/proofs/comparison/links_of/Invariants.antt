use Rattle.std.proofs.Common.{take}
use Rattle.afdx_compare.specs.Comparison.{AreFirstOf}
use Rattle.afdx_compare.proofs.comparison.links_of.Given as goal

abbrev pub invariant-loop-place : goal.invariant-loop-place
invariant-loop-place g l =
    AreFirstOf l.making.watch l.making.table.now l.making.outputs l.making.keeps (take l.place l.making.table.now.links) l.links.items
