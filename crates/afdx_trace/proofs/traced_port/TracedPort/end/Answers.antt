use Rattle.std.proofs.Common.{[], refl, ap, ◌∙◌}
use Rattle.afdx_port.specs.Content.{done}
use Rattle.afdx_trace.proofs.Telling.{carried, still_telling}
use Rattle.std.proofs.lemmas.Result.{on_ok_weaker}
use Rattle.afdx_trace.proofs.traced_port.TracedPort.end.Goals as goal

-- what the end carried out is left to tell
pub tell-requires : goal.tell-requires
tell-requires g c =
    let o = c.args.self.now in
    let more = c.lagging_ports_follow.ensures.finish o.flow.content in (
      more.0,
      carried c.events_come_in_parts.ensures.sent c.events_come_in_parts.ensures.aged c.events_are_in_order.ensures c.args.shown.now o _ more.0 refl refl refl refl refl
          c.finish.ensures.form.sent c.finish.ensures.form.aged (ap done c.finish.ensures.content ∙ more.1) c.requires,
    )

pub returns-clause-content : goal.returns-clause-content
returns-clause-content g c = on_ok_weaker c.put_out.result (λ w. c.tell.ensures.same.content ∙ c.finish.ensures.content) c.put_out.ensures.whole

pub returns-clause-told : goal.returns-clause-told
returns-clause-told g c =
    let told = c.in_ok-tell.ensures.told in
    on_ok_weaker c.put_out.result (λ whole. still_telling c.args.shown.now c.tell.new.self _ [] refl refl refl refl refl told.sent_first told.aged_first whole told) c.put_out.ensures.whole

pub returns-clause-gone : goal.returns-clause-gone
returns-clause-gone g c = on_ok_weaker c.put_out.result (λ gone start has. gone start (c.in_ok-tell.ensures.gone start has)) c.put_out.ensures.gone
