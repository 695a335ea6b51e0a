use Rattle.std.proofs.Common.{◌≡◌, ◌++◌, drop, map, string_bytes}
use Rattle.afdx_network_report.specs.Lines.{jitter_text}
use Rattle.afdx_network_report.proofs.jitters.jitter_text.Given as goal

abbrev pub invariant-loop-row : goal.invariant-loop-row
invariant-loop-row l = jitter_text (map string_bytes l.names) l.rows ≡ string_bytes l.text ++ jitter_text (map string_bytes l.names) (drop l.row-index l.rows)
