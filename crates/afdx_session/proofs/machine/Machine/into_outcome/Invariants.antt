use Rattle.std.proofs.Common.{◌≡◌, ◌≤◌, ◌++◌, length, map, vec_capacity}
use Rattle.std.specs.Vec.Iter.{into_iter_items, into_iter_len}
use Rattle.afdx_session.specs.Texts.{texts_of}
use Rattle.afdx_session.proofs.machine.Machine.into_outcome.Given as goal

abbrev pub invariant-loop-lane : goal.invariant-loop-lane
invariant-loop-lane g l = record {
  whole : l.yielded ++ into_iter_items l.lane-iterator ≡ into_iter_items l.initial.lane-iterator;
  count : into_iter_len l.lane-iterator ≡ length (into_iter_items l.lane-iterator);
  texts : texts_of l.captures.items ≡ map (λ x. (x.port, x.out.items)) l.yielded;
  room : length (into_iter_items l.initial.lane-iterator) ≤ vec_capacity l.captures;
}
