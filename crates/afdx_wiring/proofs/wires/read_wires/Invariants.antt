use Rattle.std.proofs.Common.{◌≡◌, drop, map, []}
use Rattle.toml.specs.View.{table_view}
use Rattle.afdx_wiring.specs.File.{wires_from}
use Rattle.afdx_wiring.proofs.wires.read_wires.Given as goal

abbrev pub invariant-loop-index : goal.invariant-loop-index
invariant-loop-index l = wires_from l.index l.switches l.wires.items (map (λ t. table_view t.now) (drop l.index l.tables)) ≡ wires_from 0 l.switches [] (map (λ t. table_view t.now) l.tables)
