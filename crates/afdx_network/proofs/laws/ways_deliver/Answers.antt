use Rattle.afdx_network.proofs.Ways.{ways_deliver}
use Rattle.afdx_network.proofs.laws.ways_deliver.Goals as goal

pub returns : goal.returns
returns c =
    ways_deliver (record {
      exact = c.clean_exactly.ensures;
      verdicts = c.verdicts_name_links.ensures;
      links = c.links_are_found.ensures;
      by_frames = c.passed_by_their_frames.ensures;
      enough = c.jitter_enough.ensures;
      crossing = c.crossing_is_a_hop.ensures;
      sums = c.delays_add_up.ensures.sums;
      begin = c.delays_add_up.ensures.begin;
    })
