use Rattle.std.proofs.Common.{◌≡◌, length, map}
use Rattle.afdx_core.specs.Merge.{merged}
use Rattle.afdx_session.specs.Inner.Lanes.{waiting_of, limit_at, heads_of}
use Rattle.afdx_session.proofs.Rounds.{Gives}
use Rattle.afdx_session.proofs.machine.Machine.give_settled.Given as goal

abbrev pub invariant-loop : goal.invariant-loop
invariant-loop g l = record {
  gives : Gives l.fn.self l.self;
  limit : l.limit ≡ limit_at l.self.lanes.items;
  heads : l.heads ≡ heads_of l.self.lanes.items;
}

abbrev pub decreases-loop : goal.decreases-loop
decreases-loop g l = length (merged (map waiting_of l.self.lanes.items))
