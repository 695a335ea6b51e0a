use Rattle.afdx_compare_laws.proofs.OurRuns.{our_runs_conform}
use Rattle.afdx_compare_laws.proofs.laws.our_runs_conform.Goals as goal

pub returns : goal.returns
returns c = our_runs_conform (record {
  clean = c.clean_frames_have_a_link.ensures;
  clean_exactly = c.clean_exactly.ensures;
  verdicts = c.verdicts_name_links.ensures;
  ordered = c.by_stamp_is_ordered.ensures;
  soon = c.ends_within_a_second.ensures;
  scattered = c.nothing_is_scattered.ensures;
  less_scattered = c.less_scatter_is_accepted.ensures;
  part = c.high_links_leave_a_part.ensures;
  exact = c.exactly_is_isolated.ensures;
  isolate = c.outcomes_isolate.ensures.ports;
  less = c.less_latency_is_kept_too.ensures;
  answers = c.our_answers_are_kept.ensures;
  foreign = c.kept_is_not_foreign.ensures;
  conforms = c.kept_is_conforms.ensures;
})
