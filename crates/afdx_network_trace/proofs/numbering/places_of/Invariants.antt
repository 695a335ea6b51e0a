use Rattle.std.proofs.Common.{◌≡◌, ℕ, ◌<◌, ◌++◌, length, take, drop, get_or}
use Rattle.std.specs.List.{count_by}
use Rattle.afdx_core.specs.Rows.{each_after}
use Rattle.afdx_network_trace.specs.First.{places_of}
use Rattle.afdx_network_trace.proofs.Placing.{at_port, one_place}
use Rattle.afdx_network_trace.proofs.numbering.places_of.Given as goal

abbrev pub invariant-loop-row : goal.invariant-loop-row
invariant-loop-row l = record {
  places : places_of l.rows ≡ l.places.items ++ each_after one_place (take l.row-index l.rows) (drop l.row-index l.rows);
  long : length l.counts ≡ 256;
  counts : (port : ℕ) → port < 256 → get_or l.counts port 0 ≡ count_by (at_port port) (take l.row-index l.rows);
}
