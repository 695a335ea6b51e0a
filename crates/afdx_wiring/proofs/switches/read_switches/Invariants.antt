use Rattle.std.proofs.Common.{◌≡◌, drop, map, []}
use Rattle.toml.specs.View.{table_view}
use Rattle.afdx_wiring.specs.File.{switches_from}
use Rattle.afdx_wiring.proofs.switches.read_switches.Given as goal

abbrev pub invariant-loop-index : goal.invariant-loop-index
invariant-loop-index l = switches_from l.index l.switches.items (map (λ t. table_view t.now) (drop l.index l.tables)) ≡ switches_from 0 [] (map (λ t. table_view t.now) l.tables)
