use Rattle.std.proofs.Common.{◌∙◌}
use Rattle.afdx_core.proofs.engine.Engine.place_of.Goals as goal

pub returns : goal.returns
returns g c = c.place_of.ensures ∙ c.requires.places c.args.port
