use Rattle.std.proofs.Common.{◌<◌, ◌++◌, ◌∷◌, [], List, length, ap, subst, ◌∙◌, arith}
use Rattle.afdx_table.specs.declared.rows.PortRow.{PortRow}
use Rattle.afdx_compare.specs.Comparison.{Port}
use Rattle.afdx_compare.proofs.Making.{blank_more}
use Rattle.afdx_compare.proofs.comparison.ports_of.Goals as goal

pub loop-row-preserved : goal.loop-row-preserved
loop-row-preserved g c =
    let i = c.loop-row._row-index in
    let before = c.loop-row.ports.items in
    let within : i < length c.ports-row-items.result.now = omega (arith, c.loop-row-test.true) in
    blank_more c.args.table.now.ports i before c.push.new.self.items (subst (λ (ps : List PortRow). i < length ps) c.ports-row-items.ensures.ports within)
    (c.in_ok-push.ensures.items ∙ ap (λ (p : Port). before ++ p ∷ []) c.new.ensures) c.loop-row.invariant
