use Rattle.std.proofs.Common.{◌≡◌, ℕ, List, ◌++◌, drop, string_bytes}
use Rattle.afdx_serve.specs.Checks.{AreLinesOf}
use Rattle.afdx_serve.proofs.check.port_lines.Given as goal

abbrev pub invariant-loop-row : goal.invariant-loop-row
invariant-loop-row l = record {
  lines : (rest : List ℕ) → AreLinesOf l.form l.table.latency l.table.links (drop l.row-index l.row-items) rest
      → AreLinesOf l.form l.table.latency l.table.links l.row-items (string_bytes l.text ++ rest);
  all : l.row-items ≡ l.table.ports;
}
