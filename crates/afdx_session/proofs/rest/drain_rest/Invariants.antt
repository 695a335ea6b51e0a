use Rattle.std.proofs.Common.{◌≡◌, ℕ, List, Some, length}
use Rattle.afdx_core.specs.Merge.{Arrival}
use Rattle.afdx_core.specs.State.{place_of}
use Rattle.afdx_session.specs.Inner.Replay.{HasBytesOf, IsDrained, left_at}
use Rattle.afdx_session.specs.Inner.Settled.{Draws}
use Rattle.afdx_session.proofs.rest.drain_rest.Given as goal

abbrev pub invariant-loop : goal.invariant-loop
invariant-loop g l = record {
  drained : IsDrained l.port l.fn.switch l.switch;
  draws : (given : List Arrival) (place : ℕ) → place_of l.fn.switch.run l.port ≡ Some place → length given ≡ length l.fn.switch.run.rows → HasBytesOf given l.fn.switch
      → Draws given l.port place l.fn.switch l.switch l.fn.out.items l.out.items;
}

abbrev pub decreases-loop : goal.decreases-loop
decreases-loop g l = length (left_at l.switch.run (place_of l.switch.run l.port))
