use Rattle.afdx_network.proofs.Worlds.{two_worlds}
use Rattle.afdx_network.proofs.laws.others_change_nothing_on_the_way.Goals as goal

pub returns : goal.returns
returns c = two_worlds c.own_frames_are_the_links_alone.ensures
