use Rattle.std.proofs.Common.{◌≡◌, ◌++◌, map, take, vec_capacity}
use Rattle.afdx_pairing.specs.Pairing.{ended}
use Rattle.afdx_pairing.proofs.pairing.Pairing.end.Given as goal

abbrev pub invariant-loop-place : goal.invariant-loop-place
invariant-loop-place g l = record {
  told : l.events.items ≡ l.initial.events.items ++ map (ended l.self.limits l.last) (take l.place l.self.waiting);
  room : vec_capacity l.events ≡ vec_capacity l.initial.events;
}
