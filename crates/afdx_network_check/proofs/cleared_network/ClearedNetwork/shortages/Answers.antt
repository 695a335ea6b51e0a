use Rattle.std.proofs.Common.{rules, Global}
use Rattle.std.specs.Prelude.{Vec}
use Rattle.afdx_wiring.specs.declared.fault.Short.{Short}
use Rattle.afdx_wiring.specs.Refusal.{Gives}
use Rattle.afdx_network_check.specs.Net.{rows_of}
use Rattle.afdx_network_check.specs.Order.{shortages, shorts_in}
use Rattle.afdx_network_check.proofs.Enough.{if_listed}
use Rattle.afdx_network_check.proofs.cleared_network.ClearedNetwork.shortages.Goals as goal

pub returns-clause-jitters : goal.returns-clause-jitters
unfolding shortages
returns-clause-jitters c =
    let rows : Gives {X = Vec Short Global} (λ v. v.items) c.shorts.result (shorts_in c.args.self.now (rows_of c.args.self.now)) = search rules in
    if_listed c.args.self.now c.shorts.result rows
