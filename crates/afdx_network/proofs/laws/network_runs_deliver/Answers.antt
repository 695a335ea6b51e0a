use Rattle.afdx_network.proofs.laws.network_runs_deliver.Goals as goal

pub returns : goal.returns
returns c = λ net given runs accepted x legs way.
    let wired = c.agreement_is_wired.ensures net given runs accepted x legs way in
    c.ways_deliver.ensures x legs wired.0 wired.1
