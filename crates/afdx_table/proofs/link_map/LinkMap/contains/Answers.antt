use Rattle.std.proofs.Common.{◌∙◌}
use Rattle.afdx_table.proofs.LinkLemmas.{contained}
use Rattle.afdx_table.proofs.link_map.LinkMap.contains.Goals as goal

pub returns : goal.returns
returns c = c.is_some.ensures ∙ contained c.args.id c.args.self.now c.place.result c.place.ensures
