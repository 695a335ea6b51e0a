use Rattle.afdx_units.specs.declared.line.Priority.TheVariants.{High}
use Rattle.afdx_isolation.specs.Inner.Arrivals.{feed_of}
use Rattle.afdx_isolation.proofs.Keeping.{in_time}
use Rattle.afdx_isolation.proofs.Offered.{kept}
use Rattle.afdx_isolation.proofs.laws.high_keeps_bound.Goals as goal

pub returns : goal.returns
returns c = λ s flows arrivals arrive rate delay. in_time c.ground.ensures s flows arrive.paid rate (feed_of flows arrivals) _ _ High delay (kept c.ground.ensures s flows arrivals arrive rate)
