use Rattle.std.proofs.Common.{◌≡◌, ◌<◌, ◌≤◌, arith, sym, subst, get_or, length, take, All, List}
use Rattle.std.proofs.lemmas.Grind.{common_steps}
use Rattle.std.proofs.lemmas.List.{take_more, take_all}
use Rattle.std.proofs.lemmas.List.Elements.{All-push}
use Rattle.afdx_table.specs.Content.{Content}
use Rattle.afdx_table.specs.WellFormed.{IsWellFormed}
use Rattle.afdx_network_check.proofs.hops.Hops.new.Goals as goal

pub loop-switch-preserved : goal.loop-switch-preserved
loop-switch-preserved c = record {
  bounds = grind (arith, common_steps);
  well_formed =
      let tables_are : c.tables-table-items.result.now ≡ c.args.network.now.tables = c.tables-table-items.ensures.tables in
      let item : c.table-item.result ≡ get_or c.args.network.now.tables c.loop-switch.switch c.table-item.result =
      subst (λ (us : List Content). c.table-item.result ≡ get_or us c.loop-switch.switch c.table-item.result) tables_are c.table-item.is in
      let within : c.loop-switch.switch < length c.args.network.now.tables = simp (← tables_are) c.loop-switch-test.true in
      let formed : IsWellFormed (get_or c.args.network.now.tables c.loop-switch.switch c.table-item.result) = subst IsWellFormed item c.switch_bounds.ensures.well_formed in
      subst (All IsWellFormed) (sym (take_more c.args.network.now.tables c.loop-switch.switch c.table-item.result within))
      (All-push IsWellFormed (take c.loop-switch.switch c.args.network.now.tables) (get_or c.args.network.now.tables c.loop-switch.switch c.table-item.result)
      c.loop-switch.invariant.well_formed formed);
}

pub returns-clause-well_formed : goal.returns-clause-well_formed
returns-clause-well_formed c =
    let tables_are : c.tables-table-items.result.now ≡ c.args.network.now.tables = c.tables-table-items.ensures.tables in
    let over : length c.args.network.now.tables ≤ c.loop-switch.switch = simp (← tables_are) c.loop-switch-test.false in
    subst (All IsWellFormed) (take_all c.loop-switch.switch c.args.network.now.tables over) c.loop-switch.invariant.well_formed
