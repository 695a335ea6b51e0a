use Rattle.std.proofs.Common.{Option, subst}
use Rattle.afdx_measure.specs.declared.gauges.Gauges.{Gauges}
use Rattle.afdx_measure.specs.Inner.Gauged.{AgreesWith}
use Rattle.afdx_measure.proofs.measuring.measures_of.Goals as goal

pub invariant_of-result : goal.invariant_of-result
invariant_of-result g c =
    (subst (λ (o : Option (Gauges _)). AgreesWith c.args.relayed.run o) c.in-Some.is c.requires, c.all_handed_out.ensures.0 c.if-not-all_handed_out.false)

pub returns-then-not-all_handed_out-clause-none : goal.returns-then-not-all_handed_out-clause-none
returns-then-not-all_handed_out-clause-none g c = λ all. absurd (let is = c.all_handed_out.ensures.1 all in let not = c.if-not-all_handed_out.true in (cc))
