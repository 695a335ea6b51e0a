use Rattle.std.proofs.Common.{◌≡◌, Some, sym, ap, ◌∙◌, inl, inr}
use Rattle.std.proofs.lemmas.Result.{on_ok_weaker}
use Rattle.afdx_table.specs.Content.{Content, link_place}
use Rattle.afdx_core.specs.declared.step.Fate.TheVariants.{Policed}
use Rattle.afdx_core.specs.Step.{Step}
use Rattle.afdx_core.specs.Rows.{fate_of}
use Rattle.afdx_measure.specs.Inner.Policed.{with_arrival}
use Rattle.afdx_measure.proofs.Policed.{noted_on, passed_on}
use Rattle.afdx_measure.proofs.Spelled.{passed_by, filtered}
use Rattle.afdx_measure.proofs.policing.Policing.note.Goals as goal

pub returns-in-Some : goal.returns-in-Some
returns-in-Some g c = λ r row policed arrived.
    let now = c.args.relay.now.run in
    let step = c.args.step.now in
    let span_is = c.in_ok-self.ensures ∙ ap (λ (s : Step). with_arrival s.number c.args.at c.args.self.now.span) c.step.view_is in
    let fate : step.fate ≡ Policed c.in-Policed.link = sym (ap (λ (s : Step). s.fate) c.step.view_is) ∙ c.in-Policed.is in
    let place_is : link_place now.table c.in-Policed.link ≡ Some c.in-Some.place = sym (c.in-Some.ensures.place ∙ ap (λ (t : Content). link_place t c.in-Policed.link) c.table.ensures) in
    on_ok_weaker c.note_at.result
    (noted_on c.verdicts_name_links.ensures c.links_are_found.ensures r now row c.args.at c.args.size step c.args.self.now policed arrived c.in_ok-self.field-0 span_is c.policed_come_early.ensures
    c.links_are_at_their_places.ensures c.in-Policed.link c.in-Some.place c.early_by-early.result fate place_is c.early_by-early.ensures c.deref_mut.result.now c.note_at.new.spells
    c.deref_mut.ensures.value)
    c.note_at.ensures

pub returns-in-Passed : goal.returns-in-Passed
returns-in-Passed g c = λ r row policed arrived.
    let span_is = c.in_ok-self.ensures ∙ ap (λ (s : Step). with_arrival s.number c.args.at c.args.self.now.span) c.step.view_is in
    let fate : fate_of r.table r.rows row ≡ c.step.inside.fate = sym (ap (λ (s : Step). s.fate) (c.step.view_is ∙ arrived.step_is)) in
    passed_on c.verdicts_name_links.ensures c.links_are_found.ensures r c.args.relay.now.run row c.args.at c.args.size c.args.step.now c.args.self.now policed arrived c.in_ok-self.field-0 span_is
    (λ m names. elim c.in-Passed.is [
      | inl passed ↦ passed_by r.table r.rows row passed.0 (fate ∙ passed.1) m names
      | inr dropped ↦ filtered r.table r.rows row dropped.0 (fate ∙ dropped.1) m names
    ])
