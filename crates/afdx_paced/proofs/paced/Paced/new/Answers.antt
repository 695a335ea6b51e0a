use Rattle.afdx_paced.proofs.Calls.{fresh_seen}
use Rattle.afdx_paced.proofs.paced.Paced.new.Goals as goal

pub invariant_of-result-2 : goal.invariant_of-result-2
invariant_of-result-2 g c = let made = c.in_ok-feeder.ensures in (made.0, λ e. made.2)

pub returns : goal.returns
returns g c = let made = c.in_ok-feeder.ensures in fresh_seen c.in_ok-feeder.feeder c.args.table _ made.1 made.3
