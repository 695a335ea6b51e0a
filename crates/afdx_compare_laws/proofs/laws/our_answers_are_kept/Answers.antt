use Rattle.afdx_compare_laws.proofs.Runs.{our_answers_are_kept}
use Rattle.afdx_compare_laws.proofs.laws.our_answers_are_kept.Goals as goal

pub returns : goal.returns
returns c = our_answers_are_kept c.outcomes_isolate.ensures.ports c.ends_do_not_fall.ensures c.our_spans_are_kept.ensures
