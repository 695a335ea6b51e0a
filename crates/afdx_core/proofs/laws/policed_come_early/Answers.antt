use Rattle.afdx_core.proofs.Joining.{comes_early}
use Rattle.afdx_core.proofs.laws.policed_come_early.Goals as goal

pub returns : goal.returns
returns c = comes_early c.verdicts_name_links.ensures c.next_frame_joins_where_it_conforms.ensures
