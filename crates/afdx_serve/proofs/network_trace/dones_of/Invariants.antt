use Rattle.std.proofs.Common.{◌≡◌, ◌++◌, true, length, map}
use Rattle.std.specs.Prelude.{All}
use Rattle.std.specs.Vec.Iter.{into_iter_items, into_iter_len}
use Rattle.afdx_serve.proofs.network_trace.dones_of.Given as goal

abbrev pub invariant-loop-both : goal.invariant-loop-both
invariant-loop-both l = record {
  whole : l.yielded ++ into_iter_items l.both-iterator ≡ into_iter_items l.initial.both-iterator;
  left : into_iter_len l.both-iterator ≡ length (into_iter_items l.both-iterator);
  keep : All (λ both. both.1.keeps ≡ true) (into_iter_items l.both-iterator);
  dones : l.dones.items ≡ map (λ both. both.1) l.yielded;
}
