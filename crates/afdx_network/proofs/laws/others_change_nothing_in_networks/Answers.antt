use Rattle.afdx_network.proofs.Ways.{first_stage}
use Rattle.afdx_network.proofs.laws.others_change_nothing_in_networks.Goals as goal

pub returns : goal.returns
returns c = λ net net' given given' runs runs' run run' x x' legs legs' way way' link constant came.
    let wired = c.agreement_is_wired.ensures net given runs run x legs way in
    let wired' = c.agreement_is_wired.ensures net' given' runs' run' x' legs' way' in
    c.others_change_nothing_on_the_way.ensures x x' legs legs' (c.ways_deliver.ensures x legs wired.0 wired.1) (c.ways_deliver.ensures x' legs' wired'.0 wired'.1)
    (first_stage x legs wired.0) (first_stage x' legs' wired'.0) link constant came
