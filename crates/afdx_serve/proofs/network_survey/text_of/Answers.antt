use Rattle.std.proofs.Common.{map, string_bytes}
use Rattle.afdx_serve.proofs.NetworkTextLemmas.{survey_joined}
use Rattle.afdx_serve.proofs.network_survey.text_of.Goals as goal

pub returns : goal.returns
returns c =
    let lines = string_bytes c.in_ok-lines.lines in
    let joined = rw c.deref.ensures at c.in_ok-into_text.ensures in
    (lines, c.in_ok-lines.ensures, survey_joined c.args.form (map string_bytes c.args.names.now) c.args.watched.switches.items c.in_ok-parts.parts lines _ c.in_ok-parts.ensures joined)
