use Rattle.std.proofs.Common.{◌∙◌}
use Rattle.afdx_pairing.specs.Queue.{is_within}
use Rattle.afdx_pairing.proofs.Firsts.{any_is}
use Rattle.afdx_pairing.proofs.queue.Queue.has_within.Goals as goal

pub returns : goal.returns
returns g c = c.is_some.ensures ∙ any_is (is_within c.args.bytes.now c.args.from c.args.last) c.args.self.now c.first_within.result c.first_within.ensures
