use Rattle.afdx_measure.proofs.MeasureLaws.{bounded, held}
use Rattle.afdx_measure.proofs.laws.accepted_tables_stay_within_the_load.Goals as goal

pub returns : goal.returns
returns c = λ r run well accepted p among. record {
  delays = bounded c.accepted_tables_isolate.ensures c.copies_have_their_links_priority.ensures r run well accepted p among;
  buffer = held c.buffers_hold_the_backlog.ensures r run well accepted p among;
}
