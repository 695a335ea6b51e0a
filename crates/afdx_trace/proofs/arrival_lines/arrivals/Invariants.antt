use Rattle.std.proofs.Common.{◌≡◌, ℕ, ◌++◌, [], take, drop, map, string_bytes}
use Rattle.afdx_account.specs.Level.{InOrder}
use Rattle.afdx_core.specs.Rows.{each_after, frame_of_row}
use Rattle.afdx_trace.specs.Arrivals.{arrivals_heading, shown_line}
use Rattle.afdx_trace.specs.Inner.Tracing.{Traces}
use Rattle.afdx_trace.proofs.arrival_lines.arrivals.Given as goal

abbrev pub invariant-loop-number : goal.invariant-loop-number
invariant-loop-number g l = (latest : ℕ) × Traces l.done.run (take l.number l.rows) latest l.tracer × InOrder latest (map frame_of_row (drop l.number l.rows))
    × (arrivals_heading ++ each_after (shown_line l.shown l.done.run) [] l.rows ≡ string_bytes l.text ++ each_after (shown_line l.shown l.done.run) (take l.number l.rows) (drop l.number l.rows))
