use Rattle.std.proofs.Common.{◌≡◌, ◌++◌, length}
use Rattle.std.specs.Vec.Iter.{into_iter_items, into_iter_len}
use Rattle.afdx_network_check.specs.Outage.{up_of, lost_of}
use Rattle.afdx_network_check.proofs.outage.part_ways.Given as goal

abbrev pub invariant-loop-way : goal.invariant-loop-way
invariant-loop-way l = record {
  left : into_iter_len l.way-iterator ≡ length (into_iter_items l.way-iterator);
  up : l.up.items ++ up_of l.layout (into_iter_items l.way-iterator) ≡ up_of l.layout (into_iter_items l.initial.way-iterator);
  lost : l.lost.items ++ lost_of l.layout (into_iter_items l.way-iterator) ≡ lost_of l.layout (into_iter_items l.initial.way-iterator);
}
