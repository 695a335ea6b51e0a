use Rattle.std.proofs.Common.{◌∙◌, ap, subst, map, string_bytes, String, Global, List, false}
use Rattle.clap.specs.Words.{App, Text, fault_of, is_simple, is_simple_and_free}
use Rattle.afdx_arguments.specs.Requests.{HasNoMatches}
use Rattle.afdx_arguments.proofs.ArgumentLemmas.{simple, simple_and_free, reads_error, no_matches_by}
use Rattle.afdx_arguments.proofs.arguments.parse_other.Goals as goal

pub matches_of-requires-clause-simple : goal.matches_of-requires-clause-simple
matches_of-requires-clause-simple c = ap is_simple c.in-Ok.ensures ∙ simple

pub matches_of-requires-clause-free : goal.matches_of-requires-clause-free
matches_of-requires-clause-free c = ap is_simple_and_free c.in-Ok.ensures ∙ simple_and_free

pub returns-in_err-matches : goal.returns-in_err-matches
returns-in_err-matches c =
    let arguments : List Text = map (λ (w : String Global). string_bytes w) c.args.arguments.now in
    let n = c.in_err-matches.field-0.0 in
    reads_error arguments _ n c.from_residual.ensures
    (no_matches_by arguments false c.requires n (subst (λ (a : App). HasNoMatches (fault_of a arguments) n) c.in-Ok.ensures c.in_err-matches.ensures))
