use Rattle.std.proofs.Common.{rules, ◌≡◌, ◌+◌, ◌<◌, ◌++◌, ◌∙◌, sym, ap, drop, length, List, arith}
use Rattle.std.specs.Prelude.{option_to_list}
use Rattle.afdx_wiring.specs.declared.fault.Short.{Short}
use Rattle.afdx_network_check.specs.Net.{rows_in}
use Rattle.afdx_network_check.specs.Order.{added, shorts_in}
use Rattle.afdx_network_check.proofs.Shorts.{row_adds, row_refuses, refuses}
use Rattle.afdx_network_check.proofs.hops.Hops.add_shorts.Goals as goal

pub returns-in_err-short : goal.returns-in_err-short
returns-in_err-short c =
    let within : c.loop-index.index < length c.args.table.now.links = omega arith in
    let stops = row_refuses c.args.self.now c.loop-index.shorts.items c.args.switch c.args.table.now.links c.loop-index.index c.link_at-link.result.now
    within c.link_at-link.ensures.link c.in_err-short.field-0.0 (sym c.short_at.ensures ∙ c.in_err-short.was) in
    refuses _ _ c.from_residual.result c.in_err-short.field-0.0 (search rules) (λ other. sym c.loop-index.invariant ∙ stops)

pub loop-index-preserved : goal.loop-index-preserved
loop-index-preserved c =
    let within : c.loop-index.index < length c.args.table.now.links = omega arith in
    let goes = row_adds c.args.self.now c.loop-index.shorts.items c.args.switch c.args.table.now.links c.loop-index.index c.link_at-link.result.now
    within c.link_at-link.ensures.link c.in_ok-short.short (sym c.short_at.ensures ∙ c.in_ok-short.was) in
    let grown : c.push_short.new.shorts.items ≡ c.loop-index.shorts.items ++ option_to_list c.in_ok-short.short = search rules in
    ap (λ (before : List Short). added before (shorts_in c.args.self.now (rows_in c.args.switch (drop (c.loop-index.index + 1) c.args.table.now.links)))) grown
    ∙ sym goes ∙ c.loop-index.invariant
