use Rattle.afdx_serve.proofs.GetLemmas.{network_of}
use Rattle.afdx_serve.proofs.network_get.get_network.Goals as goal

pub returns-clause-got : goal.returns-clause-got
returns-clause-got g c =
    network_of c.join.result _ _ c.args.path.now c.in_ok-layout.layout _ _ _ c.in_ok-layout.ensures.got.1 c.in_ok-layout.ensures.same c.in_ok-layout.ensures.got.0 c.join.ensures.got
