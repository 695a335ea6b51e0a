use Rattle.std.proofs.Common.{◌≡◌, ◌+◌, length}
use Rattle.afdx_following.specs.Watched.{decided}
use Rattle.afdx_following.specs.Inner.InStep.{IsInStep}
use Rattle.afdx_following.proofs.watched.Watched.decide_all.Given as goal

abbrev pub invariant-loop : goal.invariant-loop
invariant-loop g l = record {
  same : decided l.at l.self.undecided l.self ≡ decided l.at l.initial.self.undecided l.initial.self;
  in_step : IsInStep l.self;
  left : length l.self.undecided + l.counter ≡ length l.initial.self.undecided;
}
