use Rattle.std.proofs.Common.{◌<◌, length}
use Rattle.std.specs.Io.KnownBytes.{Consumes}
use Rattle.afdx_folder.proofs.input.read_turns.Given as goal

abbrev pub invariant-loop-turn : goal.invariant-loop-turn
invariant-loop-turn g l = Consumes (g.R.Read.remaining l.fn.input) (g.R.Read.remaining l.input) l.bytes.items × (0 < length l.chunk)
