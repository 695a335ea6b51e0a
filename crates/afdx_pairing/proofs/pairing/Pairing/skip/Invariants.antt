use Rattle.std.proofs.Common.{◌≡◌, ◌++◌, take, drop, vec_capacity}
use Rattle.afdx_pairing.specs.Pairing.{missing}
use Rattle.afdx_pairing.proofs.pairing.Pairing.skip.Given as goal

abbrev pub invariant-loop : goal.invariant-loop
invariant-loop g l = record {
  rest : l.self-inside.waiting ≡ drop l.counter l.initial.self-inside.waiting;
  policed : l.self-inside.policed ≡ l.initial.self-inside.policed;
  limits : l.self-inside.limits ≡ l.initial.self-inside.limits;
  begun : l.self-inside.begun ≡ l.initial.self-inside.begun;
  told : l.events.items ≡ l.initial.events.items ++ missing (take l.counter l.initial.self-inside.waiting);
  room : vec_capacity l.events ≡ vec_capacity l.initial.events;
}
