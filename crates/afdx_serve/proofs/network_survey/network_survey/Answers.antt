use Rattle.std.proofs.Common.{◌∙◌}
use Rattle.std.proofs.KnownBytes.{Keeps-refl}
use Rattle.afdx_messages.specs.declared.failure.Failure.TheVariants.{Write}
use Rattle.afdx_serve.specs.NetworkMeasures.{SurveysNetworkTo}
use Rattle.afdx_serve.proofs.Errors.{of_error}
use Rattle.afdx_serve.proofs.FileLemmas.{KeepsFiles-trans}
use Rattle.afdx_serve.proofs.WatchLemmas.{not_watched, not_measured}
use Rattle.afdx_serve.proofs.WithinLemmas.{surveys_to}
use Rattle.afdx_serve.proofs.network_survey.network_survey.Given.{Over}
use Rattle.afdx_serve.proofs.network_survey.network_survey.Goals.{In_ok-text}
use Rattle.afdx_serve.proofs.network_survey.network_survey.Goals as goal

-- what a survey says of the run
surveyed : (g : Over) (c : In_ok-text g) → SurveysNetworkTo c.args.form c.args.inputs.now (g.F.Folder.files c.args.folder.now) c.in_ok-text.text.items
surveyed g c =
    let m = c.in_ok-text.ensures.led.0 in
    let planned = c.in_ok-planned.ensures in
    surveys_to c.none_takes_more_than_its_way.ensures c.watched_runs_keep_bounds.ensures c.tables_are_well_formed.ensures c.layouts_are_within_limits.ensures c.args.inputs.now _ _
    c.in_ok-planned.planned planned.got.0 planned.same m.switches m.origins m.watched c.args.form _ m.says

pub returns-in_err-planned : goal.returns-in_err-planned
returns-in_err-planned g c =
    let fails = c.in_err-planned.ensures in
    of_error _ _ _ c.in_err-planned.field-0.0 c.from_residual.ensures
    (not_watched (SurveysNetworkTo c.args.form c.args.inputs.now (g.F.Folder.files c.args.folder.now)) c.in_err-planned.field-0.0 c.args.inputs.now _ _ _ _ fails.same _ _ (Keeps-refl _) fails.got)

pub survey_text-requires : goal.survey_text-requires
survey_text-requires g c = (c.args.inputs.now, g.F.Folder.files c.args.folder.now, c.in_ok-planned.ensures.got.0)

pub returns-in_err-text : goal.returns-in_err-text
returns-in_err-text g c =
    let planned = c.in_ok-planned.ensures in
    let fails = c.in_err-text.ensures in
    let why = c.in_err-text.field-0.0 in
    of_error _ _ _ why c.from_residual-in_err-text.ensures
    (not_measured (SurveysNetworkTo c.args.form c.args.inputs.now (g.F.Folder.files c.args.folder.now)) why c.args.inputs.now _ _ _ c.in_ok-planned.planned _ _ _ planned.got.0 planned.same
    fails.same planned.got.1 _ _ (Keeps-refl _) fails.led)

pub returns-in_err-write_bytes : goal.returns-in_err-write_bytes
returns-in_err-write_bytes g c =
    let p = (goal.at.returns-in_err-write_bytes g c).In_ok-text in
    let planned = c.in_ok-planned.ensures in
    let ran = c.in_ok-text.ensures in
    of_error _ _ _ Write c.from_residual-in_err-write_bytes.ensures
    ((c.in_ok-text.text.items, surveyed g p, rw c.deref.ensures.value at c.in_err-write_bytes.ensures.prefix), (KeepsFiles-trans _ _ _ planned.same ran.same, ran.led.1 ∙ planned.got.1))

pub returns : goal.returns
returns g c =
    let p = (goal.at.returns g c).In_ok-text in
    let planned = c.in_ok-planned.ensures in
    let ran = c.in_ok-text.ensures in
    ((c.in_ok-text.text.items, surveyed g p, rw c.deref.ensures.value at c.in_ok-write_bytes.ensures.all), (KeepsFiles-trans _ _ _ planned.same ran.same, ran.led.1 ∙ planned.got.1))
