use Rattle.std.proofs.Common.{ap, ◌∙◌}
use Rattle.afdx_port.specs.Content.{due}
use Rattle.afdx_port.proofs.Lagging.{due_stays}
use Rattle.afdx_port.proofs.flow.Flow.queue.Goals as goal

pub returns-then-not-fits-clause-full : goal.returns-then-not-fits-clause-full
returns-then-not-fits-clause-full g c = λ _. ap due c.go_on_to.ensures.content ∙ due_stays c.args.self.now.content c.args.item.now.stamp c.requires.open c.requires.in_order c.requires.none_due
