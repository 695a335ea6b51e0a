use Rattle.std.proofs.Common.{◌≡◌, List, length, map}
use Rattle.afdx_merging.specs.declared.clock.Clock.{Clock}
use Rattle.afdx_merging.specs.Inner.Lanes.{fresh_lane}
use Rattle.afdx_merging.proofs.Opening.{IsOpening}
use Rattle.afdx_merging.proofs.merging.read_first.Given as goal

abbrev pub invariant-loop-place : goal.invariant-loop-place
invariant-loop-place g l = record {
  room : length l.piece ≡ length l.fn.piece;
  on : (clocks : List Clock) → l.fn.lanes ≡ map fresh_lane clocks → length l.fn.readers ≡ length clocks
      → IsOpening g.R.Read.remaining clocks l.fn.readers l.readers l.lanes l.place;
}
