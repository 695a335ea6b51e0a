use Rattle.std.proofs.Common.{◌≤◌, ◌-◌, length}
use Rattle.afdx_held_frames.specs.Inner.Kept.{NoneHeld}
use Rattle.afdx_held_frames.proofs.store.first_held.Given as goal

-- nothing is held of those that were passed
abbrev pub invariant-loop-first : goal.invariant-loop-first
invariant-loop-first g l = record {
  least : l.fn.low ≤ l.first;
  within : l.first ≤ length l.keys.items;
  none : NoneHeld l.keys.items l.fn.low l.first;
}

abbrev pub decreases-loop-first : goal.decreases-loop-first
decreases-loop-first g l = length l.keys.items - l.first
