use Rattle.toml.proofs.Views.{table_get}
use Rattle.afdx_wiring.proofs.fields.Fields.find.Goals as goal

pub returns : goal.returns
returns c = rw (← c.as_str.ensures) (table_get c.get.result c.as_str.result.now c.args.self.now.table.now.entries c.get.ensures.value)
