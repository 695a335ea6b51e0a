use Rattle.std.proofs.Common.{◌≡◌, ◌++◌, drop}
use Rattle.afdx_compare.specs.Rows.{event_rows}
use Rattle.afdx_compare.proofs.rows.add_events.Given as goal

abbrev pub invariant-loop-event : goal.invariant-loop-event
invariant-loop-event g l =
    l.initial.rows.items ++ event_rows l.link l.bound l.events ≡ l.rows.items ++ event_rows l.link l.bound (drop l.event-index l.events)
