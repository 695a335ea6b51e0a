use Rattle.std.proofs.Common.{◌≡◌, ◌++◌, length}
use Rattle.std.specs.Vec.Iter.{into_iter_items, into_iter_len}
use Rattle.afdx_network.specs.Outage.{AreComing}
use Rattle.afdx_network.proofs.outage.incoming_at.Given as goal

abbrev pub invariant-loop-reader : goal.invariant-loop-reader
invariant-loop-reader g l = record {
  whole : l.yielded ++ into_iter_items l.reader-iterator ≡ into_iter_items l.initial.reader-iterator;
  left : into_iter_len l.reader-iterator ≡ length (into_iter_items l.reader-iterator);
  come : AreComing g.R.Read.remaining l.network.layout l.ends l.yielded l.all.items;
}
