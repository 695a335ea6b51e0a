use Rattle.std.proofs.Common.{rules, ◌≡◌, ◌<◌, ◌∙◌, sym, length, Err, arith}
use Rattle.afdx_network_check.specs.Net.{rows_in}
use Rattle.afdx_network_check.specs.Order.{first_of, has_source}
use Rattle.afdx_network_check.proofs.Chains.{row_stops}
use Rattle.afdx_network_check.proofs.network.Network.have_sources.Goals as goal

pub returns-in_err-has_source : goal.returns-in_err-has_source
returns-in_err-has_source c =
    let within : c.loop-index.index < length c.args.table.now.links = omega arith in
    let broken = row_stops (has_source c.args.self.now) c.args.switch c.args.table.now.links c.loop-index.index c.link_at-link.result.now c.in_err-has_source.field-0.0
    within c.link_at-link.ensures.link (sym c.has_source.ensures ∙ c.in_err-has_source.was) in
    let whole : first_of (has_source c.args.self.now) (rows_in c.args.switch c.args.table.now.links) ≡ Err c.in_err-has_source.field-0.0 = sym c.loop-index.invariant ∙ broken in
    rw whole (search rules)
