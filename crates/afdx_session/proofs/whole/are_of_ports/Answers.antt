use Rattle.std.proofs.Common.{◌∙◌, sym, ap, arith, refl, map}
use Rattle.afdx_session.proofs.Ports.{are_all, same_at}
use Rattle.afdx_session.proofs.whole.are_of_ports.Goals as goal

pub returns-then-ports-place-clause-are : goal.returns-then-ports-place-clause-are
returns-then-ports-place-clause-are g c = (
  λ no. absurd cc,
  λ are. absurd (c.if-ports-place.true
      (same_at c.ports-ports.result.now c.args.captures.now _ _ _ c.loop-place-test.true (are ∙ sym (ap (λ ports. map (λ p. p.id) ports) c.ports-ports.ensures.ports)))),
)

pub returns-clause-are : goal.returns-clause-are
returns-clause-are g c = (
  λ yes. are_all c.ports-ports.result.now _ c.if-ports-captures.false (λ k p d lt. c.loop-place.invariant k p d (omega (arith, lt, c.loop-place-test.false)))
      ∙ ap (λ ports. map (λ p. p.id) ports) c.ports-ports.ensures.ports,
  λ are. refl,
)
