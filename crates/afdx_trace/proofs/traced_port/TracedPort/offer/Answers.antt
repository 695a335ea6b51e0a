use Rattle.std.proofs.Common.{◌<◌, ◌≤◌, All, sym, ap, ◌∙◌, subst}
use Rattle.afdx_port.specs.declared.Item.{Item}
use Rattle.afdx_port.specs.Content.{Content as Port, done, answer, offered}
use Rattle.afdx_trace.specs.Inner.Lines.{HasGone}
use Rattle.afdx_trace.proofs.Telling.{carried}
use Rattle.afdx_trace.proofs.traced_port.TracedPort.offer.Goals as goal

pub offer-answer-requires-clause-open : goal.offer-answer-requires-clause-open
offer-answer-requires-clause-open g c = ap (λ (p : Port). p.finished) c.make_room.ensures.same.content ∙ c.requires.still_open

pub offer-answer-requires-clause-in_order : goal.offer-answer-requires-clause-in_order
offer-answer-requires-clause-in_order g c = subst (λ (p : Port). p.horizon ≤ c.args.item.now.stamp) (sym c.make_room.ensures.same.content) c.requires.in_order

pub offer-answer-requires-clause-numbered : goal.offer-answer-requires-clause-numbered
offer-answer-requires-clause-numbered g c =
    subst (λ (p : Port). All (λ (other : Item). other.number < c.args.item.now.number) p.admitted) (sym c.make_room.ensures.same.content) c.requires.numbered

-- what the offer carried out is left to tell
pub tell-requires : goal.tell-requires
tell-requires g c =
    let o = c.args.self.now in
    let item = c.args.item.now in
    let room = c.make_room.ensures in
    let more = c.lagging_ports_follow.ensures.advance o.flow.content item.stamp c.requires.still_open c.requires.in_order in
    let content = c.offer-answer.ensures.content ∙ ap (offered item) room.same.content in (
      more.0,
      carried c.events_come_in_parts.ensures.sent c.events_come_in_parts.ensures.aged c.events_are_in_order.ensures c.args.shown.now o _ more.0 room.same.row room.same.settings room.told.0
          room.told.1 room.told.2 (c.offer-answer.ensures.form.sent ∙ room.form.sent) (c.offer-answer.ensures.form.aged ∙ room.form.aged)
          (ap done content ∙ c.lagging_ports_follow.ensures.offer o.flow.content item c.requires.still_open c.requires.in_order ∙ more.1) c.requires.told,
    )

pub returns-clause-row : goal.returns-clause-row
returns-clause-row g c = c.tell.ensures.same.row ∙ c.make_room.ensures.same.row

pub returns-clause-settings : goal.returns-clause-settings
returns-clause-settings g c = c.tell.ensures.same.settings ∙ c.make_room.ensures.same.settings

pub returns-clause-answer : goal.returns-clause-answer
returns-clause-answer g c = c.offer-answer.ensures.answer ∙ ap (answer c.args.item.now) c.make_room.ensures.same.content

pub returns-clause-content : goal.returns-clause-content
returns-clause-content g c = c.tell.ensures.same.content ∙ c.offer-answer.ensures.content ∙ ap (offered c.args.item.now) c.make_room.ensures.same.content

pub returns-clause-told : goal.returns-clause-told
returns-clause-told g c = c.in_ok-tell.ensures.told

pub returns-clause-gone : goal.returns-clause-gone
returns-clause-gone g c = λ start has.
    c.in_ok-tell.ensures.gone start (subst (λ l. HasGone g.F.NewFile.contents start c.args.file.now l) (sym c.make_room.ensures.told.2) has)
