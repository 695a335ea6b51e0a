use Rattle.std.proofs.Common.{rules, ◌≡◌, ◌++◌, [], ◌∷◌, Some, refl}
use Rattle.afdx_jitter.specs.Delay.{joined, least_jitter}
use Rattle.afdx_network_check.specs.Order.{row_of, hop_on}
use Rattle.afdx_network_check.proofs.WayLemmas.{longer}
use Rattle.afdx_network_check.proofs.hops.Hops.lengthen.Goals as goal

pub returns-clause-way : goal.returns-clause-way
returns-clause-way c =
    let same : (row_of c.args.row).switch ≡ c.args.line.now.from.switch = search rules in
    let found : hop_on c.args.self.now (row_of c.args.row) c.args.line.now.from.port c.args.line.now.delay ≡ Some c.unwrap-hop.result = search rules in
    let ports : c.push-2.new.self.items ≡ c.args.way.ports.items ++ c.args.line.now.from ∷ [] = search rules in
    let jitters : c.push.new.self.items ≡ c.args.way.jitters.items ++ least_jitter c.args.way.delays c.args.way.jitter ∷ [] = search rules in
    let delays : c.join-longer.result ≡ joined c.args.way.delays c.unwrap-hop.result = search rules in
    longer c.args.self.now (row_of c.args.row) c.args.line.now c.args.way _ c.unwrap-hop.result same found refl refl refl ports jitters delays
