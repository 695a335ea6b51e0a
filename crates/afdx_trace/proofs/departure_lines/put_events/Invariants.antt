use Rattle.std.proofs.Common.{◌≡◌, ◌+◌, length, string_bytes}
use Rattle.afdx_trace.proofs.Departing.{LeftOf}
use Rattle.afdx_trace.proofs.departure_lines.put_events.Given as goal

abbrev pub invariant-loop-sent : goal.invariant-loop-sent
invariant-loop-sent g l = record {
  counted : l.number + length l.sent ≡ length l.initial.sent;
  lines : LeftOf l.shown l.port l.settings l.initial.sent l.initial.aged l.sent l.aged l.number (string_bytes l.initial.text) (string_bytes l.text);
}

abbrev pub decreases-loop-sent : goal.decreases-loop-sent
decreases-loop-sent g l = length l.sent + length l.aged
