use Rattle.std.proofs.Common.{length}
use Rattle.afdx_recordings.specs.Recordings.{SetsOffset, no_offsets, parts_of}
use Rattle.afdx_recordings.proofs.Folding.{IsOnTheWay}
use Rattle.afdx_recordings.proofs.offsets.Offsets.of_text.Given as goal

abbrev pub invariant-loop-part : goal.invariant-loop-part
invariant-loop-part l = IsOnTheWay SetsOffset no_offsets (parts_of l.text) l.offsets (length l.yielded)
