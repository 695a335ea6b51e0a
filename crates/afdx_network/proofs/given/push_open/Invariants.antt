use Rattle.std.proofs.Common.{◌≡◌, ◌++◌, map, filter, drop}
use Rattle.afdx_network.specs.Given.{is_open}
use Rattle.afdx_network.specs.Inner.Sites.{end_at}
use Rattle.afdx_network.proofs.given.push_open.Given as goal

abbrev pub invariant-loop-row : goal.invariant-loop-row
invariant-loop-row l = record {
  ports : l.row-items ≡ l.table.ports;
  ends : l.initial.ends.items ++ map (end_at l.switch) (filter (is_open l.network l.switch) (map (λ p. p.id) l.row-items))
      ≡ l.ends.items ++ map (end_at l.switch) (filter (is_open l.network l.switch) (map (λ p. p.id) (drop l.row-index l.row-items)));
}
