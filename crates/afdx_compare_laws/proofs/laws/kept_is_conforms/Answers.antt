use Rattle.afdx_compare_laws.proofs.Comparing.{kept_is_conforms}
use Rattle.afdx_compare_laws.proofs.laws.kept_is_conforms.Goals as goal

pub returns : goal.returns
returns c = kept_is_conforms (record {
  clean = c.clean_frames_have_a_link.ensures;
  places = c.links_are_at_their_places.ensures;
  found = c.links_are_found.ensures;
  ports = c.ports_are_found.ensures;
  part = c.high_links_leave_a_part.ensures;
  link = c.kept_link_conforms.ensures;
})
