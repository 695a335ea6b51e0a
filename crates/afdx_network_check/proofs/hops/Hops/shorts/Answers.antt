use Rattle.std.proofs.Common.{rules, ◌≡◌, ◌<◌, ◌∙◌, sym, ap, subst, get_or, length, List}
use Rattle.afdx_table.specs.Content.{Content}
use Rattle.afdx_network_check.specs.Net.{Network}
use Rattle.afdx_network_check.proofs.Shorts.{switch_adds, switch_refuses, refuses}
use Rattle.afdx_network_check.proofs.hops.Hops.shorts.Goals as goal

pub returns-in_err-add_shorts : goal.returns-in_err-add_shorts
returns-in_err-add_shorts c =
    let tables_are : c.tables-table-items.result.now ≡ c.args.self.now.tables = c.tables-table-items.ensures.tables ∙ ap (λ (n : Network). n.tables) c.network.ensures in
    let item : c.table-item.result ≡ get_or c.args.self.now.tables c.loop-switch.switch c.table-item.result =
    subst (λ (ts : List Content). c.table-item.result ≡ get_or ts c.loop-switch.switch c.table-item.result) tables_are c.table-item.is in
    let within : c.loop-switch.switch < length c.args.self.now.tables = simp (← tables_are) c.loop-switch-test.true in
    let stops = switch_refuses c.args.self.now c.loop-switch.shorts.items c.loop-switch.switch c.args.self.now.tables c.table-item.result within item in
    refuses _ _ c.from_residual.result c.in_err-add_shorts.field-0.0 (search rules)
    (λ other. sym c.loop-switch.invariant ∙ stops c.in_err-add_shorts.field-0.0 (c.in_err-add_shorts.ensures other))

pub loop-switch-preserved : goal.loop-switch-preserved
loop-switch-preserved c =
    let tables_are : c.tables-table-items.result.now ≡ c.args.self.now.tables = c.tables-table-items.ensures.tables ∙ ap (λ (n : Network). n.tables) c.network.ensures in
    let item : c.table-item.result ≡ get_or c.args.self.now.tables c.loop-switch.switch c.table-item.result =
    subst (λ (ts : List Content). c.table-item.result ≡ get_or ts c.loop-switch.switch c.table-item.result) tables_are c.table-item.is in
    let within : c.loop-switch.switch < length c.args.self.now.tables = simp (← tables_are) c.loop-switch-test.true in
    let goes = switch_adds c.args.self.now c.loop-switch.shorts.items c.loop-switch.switch c.args.self.now.tables c.table-item.result within item in
    sym (goes _ c.in_ok-add_shorts.ensures) ∙ c.loop-switch.invariant
