use Rattle.std.proofs.Common.{List, drop, ap, ◌∙◌}
use Rattle.std.proofs.lemmas.List.{drop-drop}
use Rattle.afdx_pairing.specs.Events.{Numbered}
use Rattle.afdx_pairing.proofs.pairing.Pairing.forget.Goals as goal

pub loop-preserved : goal.loop-preserved
loop-preserved g c = record {
  rest = c.pop.ensures.rest ∙ ap (λ (ns : List Numbered). drop 1 ns) c.loop.invariant.rest ∙ drop-drop 1 c.loop.counter c.self.inside.policed;
  waiting = c.loop.invariant.waiting;
  limits = c.loop.invariant.limits;
  begun = c.loop.invariant.begun;
}
