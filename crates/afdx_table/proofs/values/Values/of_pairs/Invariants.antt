use Rattle.std.proofs.Common.{◌≡◌, drop, length}
use Rattle.afdx_table.proofs.PairLemmas.{PairsYet}
use Rattle.afdx_table.proofs.values.Values.of_pairs.Given as goal

abbrev pub invariant-loop-pair : goal.invariant-loop-pair
invariant-loop-pair l = record {
  long : length l.slots ≡ 16;
  yet : PairsYet l.keys l.slots (drop l.pair-index l.pairs) l.pairs;
}
