use Rattle.std.proofs.Common.{◌≡◌, length}
use Rattle.toml.specs.View.{members_view, table_view}
use Rattle.afdx_table.specs.Fields.{are_known}
use Rattle.afdx_table.proofs.SlotLemmas.{ValuesYet}
use Rattle.afdx_table.proofs.values.Values.of_tree.Given as goal

abbrev pub invariant-loop-name : goal.invariant-loop-name
invariant-loop-name l = record {
  long : length l.slots ≡ 16;
  values : ValuesYet l.slots (members_view l.name-iterator) (table_view l.table);
  known : are_known l.keys (members_view l.name-iterator) ≡ are_known l.keys (table_view l.table);
}
