use Rattle.std.proofs.Common.{◌≡◌, length}
use Rattle.afdx_session.proofs.Stopping.{IsReading}
use Rattle.afdx_session.proofs.stop.read_through.Given as goal

abbrev pub invariant-loop-turn : goal.invariant-loop-turn
invariant-loop-turn g l = record {
  on : IsReading (g.R.Read.remaining l.fn.reader) (g.R.Read.remaining l.reader) l.fn.lane.reader.bytes l.lane;
  room : length l.piece ≡ length l.fn.piece;
}
