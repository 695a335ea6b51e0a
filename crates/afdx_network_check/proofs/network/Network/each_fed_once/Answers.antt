use Rattle.std.proofs.Common.{rules, ◌≡◌, ◌+◌, ◌<◌, ◌∙◌, sym, subst, get_or, length, drop, List, []}
use Rattle.afdx_table.specs.Content.{Content}
use Rattle.afdx_network_check.specs.Net.{Row, rows_in, rows_from, rows_of}
use Rattle.afdx_network_check.specs.Order.{fed_numbers, each_once}
use Rattle.afdx_network_check.proofs.Chains.{next_rows}
use Rattle.afdx_network_check.proofs.OnceLemmas.{go_further, stop_there, gives_refusal}
use Rattle.afdx_network_check.proofs.network.Network.each_fed_once.Goals as goal

pub returns-in_err-meet_sources : goal.returns-in_err-meet_sources
returns-in_err-meet_sources c =
    let item : c.table-item.result ≡ get_or c.args.self.now.tables c.loop-switch.switch c.table-item.result =
    subst (λ (ts : List Content). c.table-item.result ≡ get_or ts c.loop-switch.switch c.table-item.result) c.tables-table-items.ensures.tables c.table-item.is in
    let within : c.loop-switch.switch < length c.args.self.now.tables = simp (← c.tables-table-items.ensures.tables) c.loop-switch-test.true in
    let here : List Row = rows_in c.loop-switch.switch c.table-item.result.links in
    let rest : List Row = rows_from (c.loop-switch.switch + 1) (drop (c.loop-switch.switch + 1) c.args.self.now.tables) in
    let rows : List Row = rows_from c.loop-switch.switch (drop c.loop-switch.switch c.args.self.now.tables) in
    let are = next_rows c.loop-switch.switch c.args.self.now.tables c.table-item.result within item in
    let stop = stop_there c.args.self.now c.loop-switch.met.keys here rest rows c.in_err-meet_sources.field-0.0 are in
    gives_refusal (each_once [] (fed_numbers c.args.self.now (rows_of c.args.self.now))) c.from_residual.result c.in_err-meet_sources.field-0.0 (search rules)
    (λ other. sym c.loop-switch.invariant ∙ stop (c.in_err-meet_sources.ensures.first other))

pub loop-switch-preserved : goal.loop-switch-preserved
loop-switch-preserved c =
    let item : c.table-item.result ≡ get_or c.args.self.now.tables c.loop-switch.switch c.table-item.result =
    subst (λ (ts : List Content). c.table-item.result ≡ get_or ts c.loop-switch.switch c.table-item.result) c.tables-table-items.ensures.tables c.table-item.is in
    let within : c.loop-switch.switch < length c.args.self.now.tables = simp (← c.tables-table-items.ensures.tables) c.loop-switch-test.true in
    let here : List Row = rows_in c.loop-switch.switch c.table-item.result.links in
    let rest : List Row = rows_from (c.loop-switch.switch + 1) (drop (c.loop-switch.switch + 1) c.args.self.now.tables) in
    let rows : List Row = rows_from c.loop-switch.switch (drop c.loop-switch.switch c.args.self.now.tables) in
    let are = next_rows c.loop-switch.switch c.args.self.now.tables c.table-item.result within item in
    let further = go_further c.args.self.now c.loop-switch.met.keys c.meet_sources.new.met.keys here rest rows are c.in_ok-meet_sources.ensures.first c.in_ok-meet_sources.ensures.met in
    sym further.first ∙ c.loop-switch.invariant
