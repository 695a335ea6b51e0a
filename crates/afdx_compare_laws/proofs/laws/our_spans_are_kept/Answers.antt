use Rattle.afdx_compare_laws.proofs.Spans.{our_spans_are_kept}
use Rattle.afdx_compare_laws.proofs.laws.our_spans_are_kept.Goals as goal

pub returns : goal.returns
returns c = our_spans_are_kept c.exactly_is_isolated.ensures c.each_span_is_kept.ensures c.less_latency_is_kept_too.ensures c.more_tolerance_is_kept_too.ensures
