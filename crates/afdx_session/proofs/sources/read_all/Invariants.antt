use Rattle.std.proofs.Common.{◌≡◌, length}
use Rattle.afdx_session.specs.Inner.Sources.{GoesOnReading}
use Rattle.afdx_session.proofs.sources.read_all.Given as goal

abbrev pub invariant-loop-turn : goal.invariant-loop-turn
invariant-loop-turn g l = record {
  on : GoesOnReading g.R.Read.remaining g.F.NewFile.contents l.fn.start l.fn.readers l.fn.files l.session l.readers l.files;
  room : length l.piece ≡ length l.fn.piece;
}
