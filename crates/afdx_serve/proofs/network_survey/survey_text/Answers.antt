use Rattle.std.proofs.Common.{map, string_bytes}
use Rattle.afdx_serve.specs.Inner.NetworkRunning.{network_in, is_accepted}
use Rattle.afdx_serve.proofs.NetworkTextLemmas.{surveyed_said}
use Rattle.afdx_serve.proofs.WatchLemmas.{named_switches, accepted_keeps}
use Rattle.afdx_serve.proofs.network_survey.survey_text.Goals as goal

pub ends_of-requires : goal.ends_of-requires
ends_of-requires g c = accepted_keeps c.requires.0 c.requires.1 c.args.planned.now c.requires.2

pub text_of-requires : goal.text_of-requires
text_of-requires g c =
    rw c.deref.ensures.value
    (named_switches c.requires.0 c.requires.1 (g.F.Folder.files c.args.folder.now) c.args.path.now c.args.planned.now _ _ c.requires.2 c.in_ok-watched.ensures.led.0)

pub returns-clause-led : goal.returns-clause-led
returns-clause-led g c =
    let watched = c.in_ok-watched.ensures.led in
    let plan = c.args.planned.now.plan in
    let said = rw (c.deref.ensures.value, c.deref-2.ensures.value) at c.text_of.ensures in
    surveyed_said c.args.form (is_accepted plan) (g.F.Folder.files c.args.folder.now) c.args.path.now (network_in plan) (map string_bytes c.args.planned.now.names.items)
    c.in_ok-watched.watched.switches.items c.in_ok-watched.watched.origins c.in_ok-ends.ends.items c.text_of.result _ _ watched.0 c.in_ok-ends.ensures watched.1 said
