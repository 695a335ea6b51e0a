use Rattle.std.proofs.Common.{◌≡◌, drop, map, []}
use Rattle.toml.specs.View.{table_view}
use Rattle.afdx_table.specs.Ports.{ports_from}
use Rattle.afdx_table.proofs.ports.read_ports.Given as goal

abbrev pub invariant-loop-index : goal.invariant-loop-index
invariant-loop-index l = ports_from l.version l.index l.ports.items (map (λ t. table_view t.now) (drop l.index l.tables)) ≡ ports_from l.version 0 [] (map (λ t. table_view t.now) l.tables)
