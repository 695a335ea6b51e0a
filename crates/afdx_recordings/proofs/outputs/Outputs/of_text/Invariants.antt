use Rattle.std.proofs.Common.{length}
use Rattle.afdx_recordings.specs.Recordings.{AddsOutput, no_outputs, parts_of}
use Rattle.afdx_recordings.proofs.Folding.{IsOnTheWay}
use Rattle.afdx_recordings.proofs.outputs.Outputs.of_text.Given as goal

abbrev pub invariant-loop-part : goal.invariant-loop-part
invariant-loop-part l = IsOnTheWay AddsOutput no_outputs (parts_of l.text) l.outputs (length l.yielded)
