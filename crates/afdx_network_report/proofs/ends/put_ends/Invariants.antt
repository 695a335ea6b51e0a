use Rattle.std.proofs.Common.{◌≡◌, ◌++◌, drop, map, string_bytes}
use Rattle.afdx_network_report.specs.Lines.{ends_text}
use Rattle.afdx_network_report.proofs.ends.put_ends.Given as goal

abbrev pub invariant-loop-end : goal.invariant-loop-end
invariant-loop-end l = string_bytes l.initial.text ++ ends_text (map string_bytes l.names) l.ends ≡ string_bytes l.text ++ ends_text (map string_bytes l.names) (drop l.end-index l.ends)
