use Rattle.std.proofs.Common.{◌≡◌, drop}
use Rattle.afdx_pairing.proofs.pairing.Pairing.forget.Given as goal

abbrev pub invariant-loop : goal.invariant-loop
invariant-loop g l = record {
  rest : l.self-inside.policed ≡ drop l.counter l.initial.self-inside.policed;
  waiting : l.self-inside.waiting ≡ l.initial.self-inside.waiting;
  limits : l.self-inside.limits ≡ l.initial.self-inside.limits;
  begun : l.self-inside.begun ≡ l.initial.self-inside.begun;
}
