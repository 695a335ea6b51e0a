use Rattle.afdx_core.proofs.Calls.{next_of}
use Rattle.afdx_core.proofs.engine.Engine.next_item.Goals as goal

pub returns : goal.returns
returns g c = next_of c.args.self.now c.args.port c.next_sent.result c.next_sent.ensures
