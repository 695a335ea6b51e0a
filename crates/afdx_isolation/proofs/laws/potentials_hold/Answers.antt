use Rattle.std.proofs.lemmas.List.Elements.{recursion_from_All}
use Rattle.std.specs.Prelude.{◌≤◌}
use Rattle.afdx_port.specs.declared.Item.{Item}
use Rattle.afdx_isolation.proofs.Offered.{kept_to}
use Rattle.afdx_isolation.proofs.laws.potentials_hold.Goals as goal

pub returns : goal.returns
returns c = λ s flows arrivals now arrive rate late. (kept_to c.ground.ensures s flows arrivals arrive rate now (recursion_from_All (λ (x : Item). x.stamp ≤ now) arrivals late)).potentials
