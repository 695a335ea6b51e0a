use Rattle.std.proofs.Common.{sym, ap, ◌∙◌}
use Rattle.std.proofs.lemmas.Result.{on_ok_weaker}
use Rattle.afdx_table.specs.Content.{Content, link_place}
use Rattle.afdx_measure.proofs.Handing.{noted_with, are_gauged_without}
use Rattle.afdx_measure.proofs.gauges.Gauges.note_sent.Goals as goal

pub returns-in-Some : goal.returns-in-Some
returns-in-Some g c = λ r table_is gauged next.
    let sent = c.args.sent.now in
    let there = ap (λ (t : Content). link_place t sent.item.link) table_is ∙ sym c.in-Some.ensures.place in
    on_ok_weaker c.note_sent_at.result
    (noted_with r c.args.place c.in-Some.link sent c.args.self.now.ports c.deref_mut.result.now c.note_sent_at.new.ports gauged next c.deref_mut.ensures.value there)
    c.note_sent_at.ensures

pub returns-in-None : goal.returns-in-None
returns-in-None g c = λ r table_is gauged next.
    are_gauged_without r c.args.place c.args.sent.now c.args.self.now gauged next (ap (λ (t : Content). link_place t c.args.sent.now.item.link) table_is ∙ sym c.in-None.ensures.place)
