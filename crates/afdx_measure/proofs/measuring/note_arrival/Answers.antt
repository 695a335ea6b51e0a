use Rattle.std.proofs.Common.{Option, sym, subst}
use Rattle.afdx_measure.specs.declared.gauges.Gauges.{Gauges}
use Rattle.afdx_core.specs.Step.{Step}
use Rattle.afdx_measure.specs.Inner.Arriving.{HasArrived}
use Rattle.afdx_measure.specs.Inner.Gauged.{AgreesWith}
use Rattle.afdx_measure.proofs.measuring.note_arrival.Goals as goal

pub returns-in-Some : goal.returns-in-Some
returns-in-Some g c = λ r row size agrees arrived. c.note_arrival.ensures r row size (subst (λ (o : Option (Gauges _)). AgreesWith r o) c.in-Some.is agrees)
    (subst (λ (s : Step). HasArrived r row c.args.at size s c.args.relay.now.run) (sym c.copied.ensures) arrived)
