use Rattle.std.proofs.lemmas.Grind.{common_steps}
use Rattle.std.proofs.Common.{arith}
use Rattle.afdx_past.proofs.Left.{left_from}
use Rattle.afdx_past.proofs.history.History.from.Goals as goal

pub returns : goal.returns
returns g c = grind (arith, common_steps, left_from (c.self.inside.gone).items c.deref.result.now c.args.place, c.self.view_is, c.self.invariant)
