-- What is written of the run of a network of which nothing is put: the parts of a survey, and the whole, in a form.
use Rattle.std.proofs.Common.{◌≡◌, ℕ, ◌<◌, Bool, List, [], ◌∷◌, ◌++◌, length, Option, Result, Ok, Err, Vec, refl, ap, sym, ◌∙◌, subst}
use Rattle.std.specs.Prelude.{MatchResult}
use Rattle.std.proofs.lemmas.List.{append_assoc, append-nil}
use Rattle.afdx_core.specs.State.{State}
use Rattle.afdx_count.specs.Tally.{Tally}
use Rattle.afdx_csv.specs.declared.form.Form.{Form}
use Rattle.afdx_messages.specs.declared.failure.Failure.{Failure}
use Rattle.afdx_messages.specs.declared.failure.Failure.TheVariants as failure
use Rattle.afdx_folder.specs.Files.{Files, DeviceLog}
use Rattle.afdx_origins.specs.Origins.{Origins}
use Rattle.afdx_network_report.specs.Lines.{Names, name_of}
use Rattle.afdx_network_report.specs.declared.link_ends.LinkEnd.{LinkEnd}
use Rattle.afdx_rows.specs.Delays.{network_measure_columns}
use Rattle.afdx_rows.specs.Spells.{network_survey_columns}
use Rattle.afdx_network_check.specs.Net.{Network}
use Rattle.afdx_serve.specs.declared.network_survey.Parts.{Parts}
use Rattle.afdx_serve.specs.Checks.{heading_in}
use Rattle.afdx_serve.specs.NetworkMeasures.{AreEndsOf, HaveEnds, buffers_of, spells_of, buffers_in, counts_in, policing_in, WatchesFrom, HasMeasuredText, HasSurveyText}
use Rattle.afdx_serve.specs.NetworkRuns.{counts_of, FailsToGetGiven}
use Rattle.afdx_serve.specs.Inner.Watching.{HasMeasured, HasPartsMore, ArePartsOf}
use Rattle.afdx_serve.proofs.NetworkMeasureLemmas.{none_said, one_more_said_of}

-- ---- the parts of a survey

abbrev counted : Form → List ℕ → Tally → State → List ℕ
counted form name counts s = counts_of form network_survey_columns name counts

abbrev filled : Form → List ℕ → Tally → State → List ℕ
filled form name counts s = buffers_of form network_survey_columns name s

abbrev policed : Form → List ℕ → Tally → State → List ℕ
policed form name counts s = spells_of form name s

pub no_parts : (form : Form) (names : Names) (p : Parts) → p.counts.items ≡ heading_in form network_survey_columns → p.buffers.items ≡ [] → p.policing.items ≡ [] → ArePartsOf form names [] p
no_parts form names p counts buffers policing =
    let head = heading_in form network_survey_columns in
    record {
      counts = counts ∙ sym (ap (λ (more : List ℕ). head ++ more) (none_said (counted form) names) ∙ append-nil head);
      buffers = buffers ∙ sym (none_said (filled form) names);
      policing = policing ∙ sym (none_said (policed form) names);
    }

pub parts_more : (form : Form) (names : Names) (switches : List (Tally × State)) (both : Tally × State) (switch : ℕ) (name : List ℕ) (old new : Parts) → switch ≡ length switches
    → switch < length names → name ≡ name_of names switch → ArePartsOf form names switches old → HasPartsMore form name both.0 both.1 old new → ArePartsOf form names (switches ++ both ∷ []) new
parts_more form names switches both switch name old new count lt named was more =
    let head = heading_in form network_survey_columns in
    record {
      counts = one_more_said_of (counted form) names switches both switch head _ _ name count lt named was.counts more.counts_are;
      buffers = one_more_said_of (filled form) names switches both switch [] _ _ name count lt named was.buffers more.buffers;
      policing = one_more_said_of (policed form) names switches both switch [] _ _ name count lt named was.policing more.policing;
    }

-- they are joined, with what is written of ends after the counts
pub survey_joined : (form : Form) (names : Names) (switches : List (Tally × State)) (p : Parts) (ends text : List ℕ) → ArePartsOf form names switches p
    → text ≡ ((p.counts.items ++ ends) ++ p.buffers.items) ++ p.policing.items
    → text ≡ heading_in form network_survey_columns ++ counts_in form names switches ++ (ends ++ buffers_in form network_survey_columns names switches) ++ policing_in form names switches
survey_joined form names switches p ends text are is =
    let counts = heading_in form network_survey_columns ++ counts_in form names switches in
    let buffers = buffers_in form network_survey_columns names switches in
    let policing = policing_in form names switches in
    rw (are.counts, are.buffers, are.policing) at is ∙ ap (λ (t : List ℕ). t ++ policing) (append_assoc counts ends buffers)

-- ---- the whole, in a form

pub measured_said : {Z : Type 0} (form : Form) (accepted : Bool) (files : Option Files) (path : List ℕ) (net : Network) (names : Names) (switches : List (Tally × State)) (o : Origins)
    (ends : List LinkEnd) (r : Result (Vec ℕ Z) Failure) (before after : DeviceLog) → WatchesFrom files path net switches o → AreEndsOf accepted net ends → after ≡ before
    → MatchResult r
    (λ text. (lines : List ℕ) × HaveEnds form network_measure_columns names o ends lines
    × (text.items ≡ heading_in form network_measure_columns ++ lines ++ buffers_in form network_measure_columns names switches))
    (λ f. f ≡ failure.Memory)
    → MatchResult r (λ text. HasMeasured (λ ss os. HasMeasuredText form accepted net names ss os text.items) files path net × (after ≡ before))
    (λ f. FailsToGetGiven f files path net before after)
measured_said form accepted files path net names switches o ends (Ok text) before after watched are same said = (
  record {
    switches = switches;
    origins = o;
    watched = watched;
    says = record {
      measured = said.0 ++ buffers_in form network_measure_columns names switches;
      has_measured = record { ends = ends; lines = said.0; are_ends = are; lines_are = said.1; text_is = refl };
      text_is = said.2 ∙ append_assoc (heading_in form network_measure_columns) said.0 (buffers_in form network_measure_columns names switches);
    };
  },
  same,
)
measured_said form accepted files path net names switches o ends (Err f) before after watched are same said =
    subst (λ (why : Failure). FailsToGetGiven why files path net before after) (sym said) tt

pub surveyed_said : {Z : Type 0} (form : Form) (accepted : Bool) (files : Option Files) (path : List ℕ) (net : Network) (names : Names) (switches : List (Tally × State)) (o : Origins)
    (ends : List LinkEnd) (r : Result (Vec ℕ Z) Failure) (before after : DeviceLog) → WatchesFrom files path net switches o → AreEndsOf accepted net ends → after ≡ before
    → MatchResult r
    (λ text. (lines : List ℕ) × HaveEnds form network_survey_columns names o ends lines
    × (text.items ≡ heading_in form network_survey_columns ++ counts_in form names switches ++ (lines ++ buffers_in form network_survey_columns names switches) ++ policing_in form names switches))
    (λ f. f ≡ failure.Memory)
    → MatchResult r (λ text. HasMeasured (λ ss os. HasSurveyText form accepted net names ss os text.items) files path net × (after ≡ before))
    (λ f. FailsToGetGiven f files path net before after)
surveyed_said form accepted files path net names switches o ends (Ok text) before after watched are same said = (
  record {
    switches = switches;
    origins = o;
    watched = watched;
    says = record {
      measured = said.0 ++ buffers_in form network_survey_columns names switches;
      has_measured = record { ends = ends; lines = said.0; are_ends = are; lines_are = said.1; text_is = refl };
      text_is = said.2;
    };
  },
  same,
)
surveyed_said form accepted files path net names switches o ends (Err f) before after watched are same said =
    subst (λ (why : Failure). FailsToGetGiven why files path net before after) (sym said) tt
