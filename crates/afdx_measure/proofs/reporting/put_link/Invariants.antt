use Rattle.std.proofs.Common.{◌≡◌, ◌++◌, drop, string_bytes}
use Rattle.std.specs.Prelude.{flat_map}
use Rattle.afdx_measure.specs.Report.{line_at}
use Rattle.afdx_measure.proofs.reporting.put_link.Given as goal

abbrev pub invariant-loop-port : goal.invariant-loop-port
invariant-loop-port g l =
    (l.port-items ≡ l.link.to) × (string_bytes l.initial.text ++ flat_map (line_at l.promised l.measures.run l.link) l.port-items
    ≡ string_bytes l.text ++ flat_map (line_at l.promised l.measures.run l.link) (drop l.port-index l.port-items))
