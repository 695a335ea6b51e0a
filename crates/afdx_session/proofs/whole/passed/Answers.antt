use Rattle.std.proofs.Common.{refl, subst, ◌∙◌}
use Rattle.afdx_table.specs.Content.{Content}
use Rattle.afdx_session.specs.Texts.{AreOfPorts, texts_of}
use Rattle.afdx_session.specs.Outcome.{table_in, IsRefusal}
use Rattle.afdx_session.proofs.Sessions.{of_error}
use Rattle.afdx_session.proofs.WholeRuns.{is_refusal}
use Rattle.afdx_session.proofs.whole.passed.Goals as goal

pub carry_captures-requires-clause-of : goal.carry_captures-requires-clause-of
carry_captures-requires-clause-of g c = c.in_ok-machine.ensures.ok.kept.of

pub carry_captures-requires-clause-handed : goal.carry_captures-requires-clause-handed
carry_captures-requires-clause-handed g c = c.in_ok-machine.ensures.ok.kept.handed

pub carry_captures-requires-clause-going : goal.carry_captures-requires-clause-going
carry_captures-requires-clause-going g c = (c.in_ok-machine.ensures.ok.kept.ready refl).running.going

pub returns-in_err-carry_captures-clause-err : goal.returns-in_err-carry_captures-clause-err
returns-in_err-carry_captures-clause-err g c =
    let t = table_in c.args.plan in
    let texts = texts_of c.args.captures.now in
    let begun = c.in_ok-machine.ensures.ok in
    let fault = c.in_err-carry_captures.field-0.0 in
    let ports = subst (λ (u : Content). AreOfPorts u texts) begun.table begun.ports in
    of_error (λ e. IsRefusal t texts e) c.from_residual-in_err-carry_captures.result fault c.from_residual-in_err-carry_captures.ensures
    (is_refusal t texts fault ports c.in_err-carry_captures.ensures.err)

pub returns-clause-ok : goal.returns-clause-ok
returns-clause-ok g c =
    let begun = c.in_ok-machine.ensures.ok in
    record {
      ports = subst (λ (t : Content). AreOfPorts t (texts_of c.args.captures.now)) begun.table begun.ports;
      table = c.carry_captures.ensures.same.table ∙ begun.table;
      accepted = c.carry_captures.ensures.same.accepted ∙ begun.accepted;
      keeps = c.carry_captures.ensures.same.keeps ∙ begun.lists;
      gone = c.in_ok-carry_captures.ensures.ok;
    }
