use Rattle.std.proofs.Common.{◌∙◌, ◌++◌, ap}
use Rattle.afdx_core.specs.State.{State}
use Rattle.afdx_rows.specs.Spells.{network_survey_columns}
use Rattle.afdx_serve.specs.NetworkMeasures.{buffers_of, spells_of}
use Rattle.afdx_serve.proofs.network_survey.Parts.add.Goals as goal

pub returns : goal.returns
returns c =
    let form = c.args.form in
    let name = c.args.name.now in
    let survey = c.in-Some.ensures in
    let old = c.args.self.now in
    record {
      counts_are = c.in_ok-push_counts.ensures;
      buffers = c.in_ok-push_buffers.ensures ∙ ap (λ (s : State). old.buffers.items ++ buffers_of form network_survey_columns name s) (c.measures-measures.ensures ∙ survey);
      policing = c.in_ok-push_policing.ensures ∙ ap (λ (s : State). old.policing.items ++ spells_of form name s) survey;
    }
