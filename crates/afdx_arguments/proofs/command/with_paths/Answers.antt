use Rattle.afdx_arguments.specs.Commands.{files_app, paths_app}
use Rattle.afdx_arguments.proofs.CommandLemmas.{if_rule}
use Rattle.afdx_arguments.proofs.command.with_paths.Goals as goal

pub returns : goal.returns
unfolding paths_app
returns c =
    let files = files_app c.args.name.now in
    record {
      app = if_rule c.with_argument.result files c.flag-unchecked.result _ c.flag-unchecked.ensures.rule (c.with_argument.ensures.app files c.with_files.ensures.app);
      local = c.with_argument.ensures.local c.with_files.ensures.local;
    }
