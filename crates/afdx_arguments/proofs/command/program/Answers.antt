use Rattle.std.proofs.Common.{codes, ap, ◌∙◌}
use Rattle.clap.specs.Words.{App, with_subcommand}
use Rattle.afdx_arguments.specs.Commands.{size_app, run_app, inputs_app, trace_app, explain_app, compare_app, network_app, program}
use Rattle.afdx_arguments.proofs.CommandLemmas.{if_one_more}
use Rattle.afdx_arguments.proofs.command.program.Goals as goal

pub returns : goal.returns
unfolding program
returns c =
    let runs = c.in_ok-runs.ensures ∙ ap (λ (a : App). with_subcommand (with_subcommand a size_app.top) run_app.top) c.in_ok-checks.ensures in
    let rows = c.in_ok-rows.ensures
    ∙ ap (λ (a : App). with_subcommand (with_subcommand (with_subcommand a (inputs_app (codes "measure")).top) (inputs_app (codes "survey")).top) trace_app.top) runs in
    let all = c.in_ok-all.ensures explain_app c.explain.ensures.app ∙ ap (λ (a : App). with_subcommand a explain_app.top) rows in
    let compares = c.in_ok-compares.ensures compare_app c.compare.ensures.app ∙ ap (λ (a : App). with_subcommand a compare_app.top) all in
    if_one_more c.in_ok-compares.compares c.network.result c.subcommand.result _ network_app c.subcommand.ensures c.network.ensures.local compares c.network.ensures.app
