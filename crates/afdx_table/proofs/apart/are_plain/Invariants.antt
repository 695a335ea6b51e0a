use Rattle.std.proofs.Common.{◌≡◌}
use Rattle.toml.specs.View.{members_view, table_view}
use Rattle.afdx_toml_split.specs.Joined.{are_plain}
use Rattle.afdx_table.proofs.apart.are_plain.Given as goal

abbrev pub invariant-loop-value : goal.invariant-loop-value
invariant-loop-value l = are_plain (members_view l.value-iterator) ≡ are_plain (table_view l.tree)
