use Rattle.std.proofs.Common.{rules}
use Rattle.afdx_wiring.specs.Refusal.{Gives}
use Rattle.afdx_network_check.specs.Order.{shortage}
use Rattle.afdx_network_check.proofs.Enough.{if_given}
use Rattle.afdx_network_check.proofs.cleared_network.ClearedNetwork.check.Goals as goal

pub returns-clause-jitters : goal.returns-clause-jitters
unfolding shortage
returns-clause-jitters c =
    let first : Gives {X = Unit {0}} (λ u. u) c.first_short.result (shortage c.args.self.now) = search rules in
    if_given c.args.self.now c.first_short.result first
