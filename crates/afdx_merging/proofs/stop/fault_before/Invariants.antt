use Rattle.std.proofs.Common.{◌≡◌, ◌≤◌, ℕ, List, length, slice_get}
use Rattle.afdx_merging.specs.Inner.Merging.{AreReadBy, AreAtEnd, IsFoundBefore}
use Rattle.afdx_merging.proofs.stop.fault_before.Given as goal

abbrev pub invariant-loop-at : goal.invariant-loop-at
invariant-loop-at g l = record {
  room : length l.piece ≡ length l.fn.piece;
  lanes_long : length l.lanes ≡ length l.fn.lanes;
  readers_long : length l.readers ≡ length l.fn.readers;
  lanes_later : (k : ℕ) → l.at ≤ k → slice_get l.lanes k ≡ slice_get l.fn.lanes k;
  readers_later : (k : ℕ) → l.at ≤ k → slice_get l.readers k ≡ slice_get l.fn.readers k;
  found : (first : List g.row.R.Denot) → length first ≡ length l.fn.readers → AreReadBy g.R.Read.remaining first l.fn.readers l.fn.lanes l.fn.place
      → IsFoundBefore g.R.Read.remaining first l.at l.found × AreAtEnd g.R.Read.remaining l.readers 0 l.at;
}
