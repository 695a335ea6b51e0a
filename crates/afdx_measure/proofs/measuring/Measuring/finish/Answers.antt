use Rattle.std.proofs.Common.{true, sym, ap, subst, ◌∙◌}
use Rattle.afdx_core.specs.State.{Run, State}
use Rattle.afdx_measure.specs.Inner.Gauged.{AgreesWith}
use Rattle.afdx_measure.specs.Inner.Policed.{KnowsPolicing}
use Rattle.afdx_measure.proofs.Later.{finished, knows_on}
use Rattle.afdx_measure.proofs.measuring.Measuring.finish.Goals as goal

pub invariant_of-result : goal.invariant_of-result
invariant_of-result g c =
    let r = c.self.inside.relay.run in
    let h = c.self.invariant in (
      subst (λ (m : Run). AgreesWith m c.self.inside.gauges) (sym c.finish.ensures.run) (finished c.calls_add_what_is_sent.ensures.finish r c.self.inside.gauges h.2 h.0),
      subst (λ (m : Run). KnowsPolicing m c.self.inside.policing) (sym c.finish.ensures.run) (knows_on r r.latest r.handed true c.self.inside.policing h.1),
    )

pub returns-clause-isolated : goal.returns-clause-isolated
returns-clause-isolated g c = λ is. c.finish.ensures.isolated (ap (λ (s : State). s.accepted) c.self.view_is ∙ is)
