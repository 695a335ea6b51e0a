use Rattle.std.proofs.Common.{◌≡◌, length}
use Rattle.afdx_merging.proofs.stop.read_out.Given as goal

abbrev pub invariant-loop-turn : goal.invariant-loop-turn
invariant-loop-turn g l = length l.piece ≡ length l.fn.piece
