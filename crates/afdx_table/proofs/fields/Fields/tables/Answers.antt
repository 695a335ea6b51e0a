use Rattle.std.proofs.Common.{sym}
use Rattle.toml.specs.View.{view}
use Rattle.afdx_table.specs.Inner.Pairs.{members_of}
use Rattle.afdx_table.proofs.ArrayLemmas.{has_items}
use Rattle.afdx_table.proofs.fields.Fields.tables.Goals as goal

pub returns-in_err-tables_of-clause-memory : goal.returns-in_err-tables_of-clause-memory
returns-in_err-tables_of-clause-memory c = λ _.
    has_items c.args.key (members_of c.args.self.now.source) (view c.in-Some.value.now) c.deref.result.now c.in_err-tables_of.ensures.memory
    (sym c.in-Some.ensures) (rw c.deref.ensures.value (sym c.in-Some-as_array.ensures))
