use Rattle.afdx_network.proofs.laws.runs_are_nodes.Goals as goal

pub returns : goal.returns
returns c = λ run formed. record { well_formed = formed; passed = λ p has. (run.isolated.isolated p has).passed }
