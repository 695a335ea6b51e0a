use Rattle.std.proofs.Common.{◌≡◌, length, map, drop, List, ap, ap₂, sym, ◌∙◌, subst, arith}
use Rattle.afdx_port.specs.declared.Aged.{Aged}
use Rattle.afdx_port.specs.declared.Item.{Item}
use Rattle.afdx_port.specs.Service.{aged_of}
use Rattle.afdx_port.specs.Content.{Content, done, advanced}
use Rattle.afdx_core.specs.Inner.Copies.{copies_at, newly_aged, Enough}
use Rattle.afdx_core.proofs.Copies.{aged_longer}
use Rattle.afdx_core.proofs.Counts.{advanced_copies, enough_one}
use Rattle.afdx_core.proofs.output_port.carry_flow.Goals as goal

pub aged_from-requires-clause-left : goal.aged_from-requires-clause-left
aged_from-requires-clause-left g c = omega (arith, c.aged_count-before.ensures.left, c.advance.ensures.form.aged)

pub aged_from-requires-clause-within : goal.aged_from-requires-clause-within
aged_from-requires-clause-within g c =
    let k = c.args.port.now.content in
    let more = c.lagging_ports_follow.ensures.advance k c.args.at c.requires.still_open c.requires.in_order in
    let n = aged_longer c.events_come_in_parts.ensures.aged k (advanced c.args.at k) more.0 more.1 in
    let b = ap (λ (v : Content). length (aged_of (done v))) c.advance.ensures.content in
    omega (arith, n, c.aged_count-before.ensures.count, b)

pub discard_all-requires : goal.discard_all-requires
discard_all-requires g c =
    let k = c.args.port.now.content in
    let aged : c.aged_from.result.now ≡ drop (length (aged_of (done k))) (aged_of (done (advanced c.args.at k))) =
    c.aged_from.ensures ∙ ap₂ (λ n xs. drop n xs) c.aged_count-before.ensures.count (ap (λ (v : Content). aged_of (done v)) c.advance.ensures.content) in
    subst (λ (xs : List Item). Enough xs c.args.store.now.held) (sym (ap (map (λ (a : Aged). a.item)) aged))
    (enough_one (newly_aged k (advanced c.args.at k)) c.args.store.now.held (copies_at k c.args._handed) (copies_at (advanced c.args.at k) c.args._handed)
    (λ i. advanced_copies c.events_follow_the_line.ensures.parts c.each_has_one_event.ensures c.events_come_in_parts.ensures.sent c.events_come_in_parts.ensures.aged
    c.lagging_ports_follow.ensures.advance k c.args._handed c.args.at i c.requires.still_open c.requires.in_order c.requires.counted)
    c.requires.holds)
