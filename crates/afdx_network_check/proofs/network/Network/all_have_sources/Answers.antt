use Rattle.std.proofs.Common.{rules, ◌≡◌, ◌∙◌, sym, subst, get_or, List, Err}
use Rattle.afdx_table.specs.Content.{Content}
use Rattle.afdx_network_check.specs.Net.{rows_of}
use Rattle.afdx_network_check.specs.Order.{first_of, has_source}
use Rattle.afdx_network_check.proofs.Chains.{rows_go, rows_stop}
use Rattle.afdx_network_check.proofs.network.Network.all_have_sources.Goals as goal

pub returns-in_err-have_sources : goal.returns-in_err-have_sources
returns-in_err-have_sources c =
    let item : c.table-item.result ≡ get_or c.args.self.now.tables c.loop-switch.switch c.table-item.result =
    subst (λ (ts : List Content). c.table-item.result ≡ get_or ts c.loop-switch.switch c.table-item.result) c.tables-table-items.ensures.tables c.table-item.is in
    let broken = rows_stop (has_source c.args.self.now) c.loop-switch.switch c.args.self.now.tables c.table-item.result c.in_err-have_sources.field-0.0
    (simp (← c.tables-table-items.ensures.tables) c.loop-switch-test.true) item (sym c.have_sources.ensures ∙ c.in_err-have_sources.was) in
    let whole : first_of (has_source c.args.self.now) (rows_of c.args.self.now) ≡ Err c.in_err-have_sources.field-0.0 = sym c.loop-switch.invariant ∙ broken in
    rw whole (search rules)

pub loop-switch-preserved : goal.loop-switch-preserved
loop-switch-preserved c =
    let item : c.table-item.result ≡ get_or c.args.self.now.tables c.loop-switch.switch c.table-item.result =
    subst (λ (ts : List Content). c.table-item.result ≡ get_or ts c.loop-switch.switch c.table-item.result) c.tables-table-items.ensures.tables c.table-item.is in
    let kept = rows_go (has_source c.args.self.now) c.loop-switch.switch c.args.self.now.tables c.table-item.result
    (simp (← c.tables-table-items.ensures.tables) c.loop-switch-test.true) item (sym c.have_sources.ensures ∙ c.in_ok-have_sources.was) in
    sym kept ∙ c.loop-switch.invariant
