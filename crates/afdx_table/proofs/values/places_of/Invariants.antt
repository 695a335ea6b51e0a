use Rattle.std.proofs.Common.{◌≡◌, length, drop}
use Rattle.afdx_table.proofs.SlotLemmas.{MarksYet}
use Rattle.afdx_table.proofs.values.places_of.Given as goal

abbrev pub invariant-loop-key : goal.invariant-loop-key
invariant-loop-key l = record {
  long : length l.places ≡ 16;
  marks : MarksYet l.places (drop l.key-index l.keys) l.keys;
}
