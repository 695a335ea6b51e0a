use Rattle.afdx_table.proofs.table.read_text.Goals as goal

pub returns-in_default-clause-memory : goal.returns-in_default-clause-memory
returns-in_default-clause-memory c = λ is. cc
