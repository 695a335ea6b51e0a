use Rattle.std.proofs.Common.{◌≡◌, drop, length, map, []}
use Rattle.toml.specs.View.{table_view}
use Rattle.afdx_table.specs.Links.{links_from}
use Rattle.afdx_table.proofs.links.read_links.Given as goal

abbrev pub invariant-loop-index : goal.invariant-loop-index
invariant-loop-index l = record {
  read : links_from l.version l.ports l.index l.links (map (λ t. table_view t.now) (drop l.index l.tables)) ≡ links_from l.version l.ports 0 [] (map (λ t. table_view t.now) l.tables);
  count : length l.links ≡ l.index;
}
