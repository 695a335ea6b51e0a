use Rattle.std.proofs.Common.{codes}
use Rattle.clap.specs.Words.{App, with_rule}
use Rattle.afdx_arguments.specs.Commands.{links_rule, paths_app, trace_app}
use Rattle.afdx_arguments.proofs.CommandLemmas.{if_rule}
use Rattle.afdx_arguments.proofs.command.trace.Goals as goal

abbrev with_paths : App
with_paths = paths_app (codes "trace")

abbrev with_links : App
with_links = with_rule with_paths (links_rule (codes "link"))

pub returns : goal.returns
unfolding trace_app
returns c =
    let five = if_rule c.with_argument.result with_paths c.links_option-links.result _ c.links_option-links.ensures.rule (c.with_argument.ensures.app with_paths c.with_paths-command.ensures.app) in
    let six = if_rule c.with_argument-2.result with_links c.flag-relative.result _ c.flag-relative.ensures.rule (c.with_argument-2.ensures.app with_links five) in
    record { app = six; local = c.with_argument-2.ensures.local (c.with_argument.ensures.local c.with_paths-command.ensures.local) }
