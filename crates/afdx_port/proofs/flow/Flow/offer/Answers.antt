use Rattle.std.proofs.Common.{ap, ◌∙◌}
use Rattle.afdx_port.specs.Lagging.{has_due}
use Rattle.afdx_port.proofs.Lagging.{none_due_after}
use Rattle.afdx_port.proofs.flow.Flow.offer.Goals as goal

pub queue-requires-clause-none_due : goal.queue-requires-clause-none_due
queue-requires-clause-none_due g c = ap (has_due c.args.item.stamp) c.advance.ensures.content ∙ none_due_after c.args.self.now.content c.args.item.stamp c.requires.open
