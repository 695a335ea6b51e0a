use Rattle.std.proofs.Common.{◌≡◌, length, map}
use Rattle.afdx_core.specs.Merge.{merged}
use Rattle.afdx_paced.specs.Inner.Parts.{waiting_of, heads_of}
use Rattle.afdx_paced.proofs.Steps.{Gives}
use Rattle.afdx_paced.proofs.feeder.Feeder.give_before.Given as goal

abbrev pub invariant-loop : goal.invariant-loop
invariant-loop g l = record {
  gives : Gives l.until l.fn.self l.self;
  heads : l.heads ≡ heads_of l.self.lanes.items;
}

abbrev pub decreases-loop : goal.decreases-loop
decreases-loop g l = length (merged (map waiting_of l.self.lanes.items))
