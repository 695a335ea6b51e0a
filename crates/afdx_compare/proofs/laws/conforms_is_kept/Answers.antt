use Rattle.afdx_compare.proofs.Conforming.{kept_within}
use Rattle.afdx_compare.proofs.laws.conforms_is_kept.Goals as goal

pub returns : goal.returns
returns c = λ t r from until keeping captures arrivals first formed accepted bound begun merge fine.
    kept_within (record {
      clean = c.clean_frames_have_a_link.ensures;
      places = c.links_are_at_their_places.ensures;
      found = c.links_are_found.ensures;
      ports = c.ports_are_found.ensures;
      part = c.high_links_leave_a_part.ensures;
      kept = c.followed_is_kept.ensures;
    }) t r from until keeping captures arrivals first formed accepted bound begun merge fine
