use Rattle.std.proofs.Common.{rules}
use Rattle.afdx_wiring.specs.Refusal.{Gives}
use Rattle.afdx_network_check.specs.Order.{misfit}
use Rattle.afdx_network_check.proofs.Fits.{if_given}
use Rattle.afdx_network_check.proofs.network.Network.fit.Goals as goal

pub returns-clause-fits : goal.returns-clause-fits
unfolding misfit
returns-clause-fits c =
    let first : Gives {X = Unit {0}} (λ u. u) c.each_fed_once.result (misfit c.args.self.now) = search rules in
    if_given c.args.self.now c.each_fed_once.result first
