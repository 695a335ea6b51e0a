use Rattle.std.proofs.Common.{refl, ap, get_or, sym, ◌∙◌}
use Rattle.std.proofs.lemmas.List.{get_or_default}
use Rattle.afdx_port.specs.Content.{answer, due}
use Rattle.afdx_core.specs.Inner.OutputPorts.{OutletValue}
use Rattle.afdx_core.specs.Inner.OutputPorts.{seen, offered_to}
use Rattle.afdx_core.proofs.Outs.{less_room}
use Rattle.afdx_core.proofs.Walk.{dues_set, due_noted}
use Rattle.afdx_core.proofs.output_port.offer_place.Goals as goal

pub returns-clause-output_ports : goal.returns-clause-output_ports
returns-clause-output_ports g c =
    let os = c.args.output_ports.now in
    let place = c.args.place in
    let o = get_or os place c.index-output_ports-place.result in
    record {
      one = c.offer-answer.new.self;
      is = refl;
      here = λ d. c.offer-answer.ensures.seen
          ∙ ap (λ (x : OutletValue _). offered_to c.args.item.now (seen x)) (get_or_default os place c.index-output_ports-place.result d c.requires.place);
    }

pub returns-clause-room : goal.returns-clause-room
returns-clause-room g c k d =
    let os = c.args.output_ports.now in
    let o = get_or os c.args.place c.index-output_ports-place.result in
    less_room os c.args.place k c.index-output_ports-place.result d c.offer-answer.new.self c.requires.place c.offer-answer.ensures.room

pub note_due-requires-clause-full : goal.note_due-requires-clause-full
note_due-requires-clause-full g c none full =
    let o = c.offer-answer.ensures in
    due_noted c.args.dues.now c.args.output_ports.now c.args.place c.index-output_ports-place.result none c.requires.place c.requires.dues
    ∙ sym (o.full full) ∙ sym o.due

pub returns-clause-dues : goal.returns-clause-dues
returns-clause-dues g c =
    c.note_due.ensures ∙ dues_set c.args.dues.now c.args.output_ports.now c.args.place c.offer-answer.new.self c.offer-answer.result.1 c.requires.dues c.offer-answer.ensures.due

pub returns-clause-answer : goal.returns-clause-answer
returns-clause-answer g c d =
    let os = c.args.output_ports.now in
    c.offer-answer.ensures.answer ∙ ap (λ (o : OutletValue _). answer c.args.item.now o.port.content) (get_or_default os c.args.place c.index-output_ports-place.result d c.requires.place)
