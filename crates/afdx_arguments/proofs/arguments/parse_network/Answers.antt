use Rattle.std.proofs.Common.{◌∙◌, ap, map, string_bytes, List, String, Global}
use Rattle.clap.specs.Words.{Text, is_simple, is_simple_and_free, subcommand_rows_of}
use Rattle.afdx_arguments.proofs.ArgumentLemmas.{network_simple, network_simple_and_free, reads_error, network_without, network_found, network_nothing}
use Rattle.afdx_arguments.proofs.arguments.parse_network.Goals as goal

pub matches_of-requires-clause-simple : goal.matches_of-requires-clause-simple
matches_of-requires-clause-simple c = ap is_simple c.in-Ok.ensures ∙ network_simple

pub matches_of-requires-clause-free : goal.matches_of-requires-clause-free
matches_of-requires-clause-free c = ap is_simple_and_free c.in-Ok.ensures ∙ network_simple_and_free

pub returns-in_err-matches : goal.returns-in_err-matches
returns-in_err-matches c =
    let arguments : List Text = map (λ (w : String Global). string_bytes w) c.args.arguments.now in
    let n = c.in_err-matches.field-0.0 in
    reads_error arguments _ n c.from_residual.ensures (network_without c.args.arguments.now c.in-Ok.command c.in-Ok.ensures c.requires n c.in_err-matches.ensures)

pub returns-in-Some : goal.returns-in-Some
returns-in-Some c =
    network_found c.args.arguments.now c.in-Ok.command c.in-Ok.ensures c.requires (subcommand_rows_of c.in_ok-matches.matches) c.in-Some.request c.in_ok-matches.ensures c.in-Some.ensures

pub returns : goal.returns
returns c = network_nothing c.args.arguments.now c.in-Ok.command c.in-Ok.ensures c.requires (subcommand_rows_of c.in_ok-matches.matches) c.in_ok-matches.ensures c.in-None.ensures
