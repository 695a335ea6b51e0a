use Rattle.afdx_compare_laws.proofs.Spans.{each_span_is_kept}
use Rattle.afdx_compare_laws.proofs.laws.each_span_is_kept.Goals as goal

pub returns : goal.returns
returns c = each_span_is_kept c.clean_frames_have_a_link.ensures c.links_are_found.ensures
