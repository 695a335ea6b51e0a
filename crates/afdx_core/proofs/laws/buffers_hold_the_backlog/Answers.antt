use Rattle.afdx_core.proofs.Isolating.{holds_backlog}
use Rattle.afdx_core.proofs.laws.buffers_hold_the_backlog.Goals as goal

pub returns : goal.returns
returns c = λ r run well accepted.
    holds_backlog c.links_are_found.ensures c.clean_frames_have_a_link.ensures c.offers_what_the_policing_passes.ensures c.accepted_tables_isolate.ensures r run well accepted
    c.buffers_hold_the_backlog.ensures
