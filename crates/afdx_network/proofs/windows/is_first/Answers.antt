use Rattle.std.proofs.Common.{sym, ◌∙◌}
use Rattle.std.proofs.lemmas.Option.{same_Some}
use Rattle.afdx_network.specs.Inner.Sites.{wire_place}
use Rattle.afdx_network.proofs.Choosing.{first_there, is_first_place, nowhere}
use Rattle.afdx_network.proofs.windows.is_first.Goals as goal

pub returns-in-Some : goal.returns-in-Some
returns-in-Some c = λ w at.
    let there = first_there c.args.wires.now c.args.index _ w c.first_to.result c.requires c.first_to.ensures at in
    is_first_place (wire_place c.args.wires.now w) c.in-Some.place c.args.index (same_Some (wire_place c.args.wires.now w) c.in-Some.place (sym there ∙ c.in-Some.is))

pub returns-in-None : goal.returns-in-None
returns-in-None c = λ w at. nowhere (wire_place c.args.wires.now w) (sym c.in-None.is ∙ first_there c.args.wires.now c.args.index _ w c.first_to.result c.requires c.first_to.ensures at)
