use Rattle.std.proofs.Common.{◌≡◌, ◌<◌, ℕ, length, slice_get}
use Rattle.afdx_merging.specs.Inner.Merging.{AreAtEnd}
use Rattle.afdx_merging.proofs.stop.read_all_out.Given as goal

abbrev pub invariant-loop-place : goal.invariant-loop-place
invariant-loop-place g l = record {
  room : length l.piece ≡ length l.fn.piece;
  long : length l.readers ≡ length l.fn.readers;
  others : (k : ℕ) → k < l.fn.from → slice_get l.readers k ≡ slice_get l.fn.readers k;
  ends : AreAtEnd g.R.Read.remaining l.readers l.fn.from l.place;
}
