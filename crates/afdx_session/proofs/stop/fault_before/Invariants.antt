use Rattle.std.proofs.Common.{◌≡◌, ◌≤◌, ℕ, List, length, take, slice_get}
use Rattle.afdx_session.specs.Texts.{Text}
use Rattle.afdx_session.specs.Inner.Stop.{AreReadOut, IsFoundIn}
use Rattle.afdx_session.proofs.stop.fault_before.Given as goal

abbrev pub invariant-loop-at : goal.invariant-loop-at
invariant-loop-at g l = record {
  room : length l.piece ≡ length l.fn.piece;
  lanes_long : length l.lanes ≡ length l.fn.lanes;
  readers_long : length l.readers ≡ length l.fn.readers;
  lanes_later : (k : ℕ) → l.at ≤ k → slice_get l.lanes k ≡ slice_get l.fn.lanes k;
  readers_later : (k : ℕ) → l.at ≤ k → slice_get l.readers k ≡ slice_get l.fn.readers k;
  texts : List Text;
  out : AreReadOut g.R.Read.remaining (take l.at l.fn.lanes) (take l.at l.fn.readers) texts;
  found : IsFoundIn texts l.found;
}
