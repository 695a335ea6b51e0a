use Rattle.std.proofs.Common.{◌≡◌, ℕ, ◌<◌, length, get_or, slice_get, Some}
use Rattle.afdx_table.specs.Content.{Content}
use Rattle.afdx_origins.specs.declared.at_switch.AtSwitch.{AtSwitch}
use Rattle.afdx_origins.specs.Inner.Known.{IsFreshSwitch}
use Rattle.afdx_origins.proofs.origins.nothing_known.Given as goal

abbrev pub invariant-loop-table : goal.invariant-loop-table
invariant-loop-table l = record {
  tables : l.table-items ≡ l.network.tables;
  many : length l.switches.items ≡ l.table-index;
  each : (k : ℕ) (s : AtSwitch) → k < length l.switches.items → (t : Content) → slice_get l.network.tables k ≡ Some t → IsFreshSwitch t (get_or l.switches.items k s);
}
