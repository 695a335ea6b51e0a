use Rattle.afdx_compare_laws.proofs.EachRow.{each_row_is_alone}
use Rattle.afdx_compare_laws.proofs.laws.each_row_is_alone.Goals as goal

pub returns : goal.returns
returns c = each_row_is_alone (record {
  clean = c.clean_frames_have_a_link.ensures;
  places = c.links_are_at_their_places.ensures;
  ports = c.ports_are_found.ensures;
})
