use Rattle.std.proofs.Common.{◌≡◌, length}
use Rattle.afdx_session.proofs.stop.read_all_out.Given as goal

abbrev pub invariant-loop-place : goal.invariant-loop-place
invariant-loop-place g l = record {
  room : length l.piece ≡ length l.fn.piece;
  long : length l.readers ≡ length l.fn.readers;
}
