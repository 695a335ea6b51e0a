use Rattle.std.proofs.Common.{◌≡◌, ◌<◌, ◌≤◌, ◌+◌, ◌++◌, ◌∙◌, ap, sym, subst, get_or, length, drop, take, map, List, All}
use Rattle.std.proofs.lemmas.List.{take_more, take_all}
use Rattle.std.proofs.lemmas.List.Elements.{All-push}
use Rattle.afdx_table.specs.Content.{Content}
use Rattle.afdx_table.specs.WellFormed.{IsWellFormed}
use Rattle.afdx_network_check.specs.declared.jitters.RowNeed.{RowNeed}
use Rattle.afdx_network_check.specs.Net.{Network, Row, rows_from}
use Rattle.afdx_network_check.specs.Needs.{need_in}
use Rattle.afdx_network_check.proofs.NeedLemmas.{needs_go}
use Rattle.afdx_network_check.proofs.hops.Hops.needs.Goals as goal

pub loop-switch-preserved : goal.loop-switch-preserved
loop-switch-preserved c =
    let f : Row → RowNeed = need_in c.args.start c.args.self.now in
    let ts : List Content = c.args.self.now.tables in
    let tables_are : c.tables-table-items.result.now ≡ c.args.self.now.tables = c.tables-table-items.ensures.tables ∙ ap (λ (n : Network). n.tables) c.network.ensures in
    let item : c.table-item.result ≡ get_or c.args.self.now.tables c.loop-switch.switch c.table-item.result =
    subst (λ (us : List Content). c.table-item.result ≡ get_or us c.loop-switch.switch c.table-item.result) tables_are c.table-item.is in
    let within : c.loop-switch.switch < length c.args.self.now.tables = simp (← tables_are) c.loop-switch-test.true in
    let go = needs_go (need_in c.args.start c.args.self.now) c.loop-switch.needs.items c.loop-switch.switch c.args.self.now.tables c.table-item.result within item in
    let formed : IsWellFormed (get_or c.args.self.now.tables c.loop-switch.switch c.table-item.result) = subst IsWellFormed item c.in_ok-add_needs.ensures.well_formed in
    record {
      rows = ap (λ (ns : List RowNeed). ns ++ map f (rows_from (c.loop-switch.switch + 1) (drop (c.loop-switch.switch + 1) ts))) c.in_ok-add_needs.ensures.rows ∙ go ∙ c.loop-switch.invariant.rows;
      well_formed =
          subst (All IsWellFormed) (sym (take_more c.args.self.now.tables c.loop-switch.switch c.table-item.result within))
          (All-push IsWellFormed (take c.loop-switch.switch c.args.self.now.tables) (get_or c.args.self.now.tables c.loop-switch.switch c.table-item.result)
          c.loop-switch.invariant.well_formed formed);
    }

pub returns-clause-well_formed : goal.returns-clause-well_formed
returns-clause-well_formed c =
    let tables_are : c.tables-table-items.result.now ≡ c.args.self.now.tables = c.tables-table-items.ensures.tables ∙ ap (λ (n : Network). n.tables) c.network.ensures in
    let over : length c.args.self.now.tables ≤ c.loop-switch.switch = simp (← tables_are) c.loop-switch-test.false in
    subst (All IsWellFormed) (take_all c.loop-switch.switch c.args.self.now.tables over) c.loop-switch.invariant.well_formed
