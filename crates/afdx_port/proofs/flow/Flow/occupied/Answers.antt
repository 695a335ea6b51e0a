use Rattle.std.proofs.Common.{ℕ, ◌+◌, ap, ◌∙◌}
use Rattle.std.specs.Prelude.{sum_by}
use Rattle.afdx_port.specs.declared.Item.{Item}
use Rattle.afdx_port.specs.Content.{FlowValue}
use Rattle.afdx_port.specs.Inner.Progress.{on_line}
use Rattle.afdx_port.specs.Inner.Sound.{queue_of}
use Rattle.afdx_port.proofs.Occupied.{occupied_kept}
use Rattle.afdx_port.proofs.flow.Flow.occupied.Goals as goal

pub returns : goal.returns
returns g c = c.occupied.ensures.sum
    ∙ ap (λ (n : ℕ). on_line n c.self.inside.line.sent.items + sum_by (λ (other : Item). other.size) (queue_of c.self.inside.line)) c.reach.ensures
    ∙ occupied_kept c.self.inside c.args.self.now.content c.args.at c.self.invariant (ap (λ (v : FlowValue). v.content) c.self.view_is) c.requires.open c.requires.in_order c.requires.none_due
