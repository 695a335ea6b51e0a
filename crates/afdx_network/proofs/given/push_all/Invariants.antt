use Rattle.std.proofs.Common.{◌≡◌, ◌++◌, map, drop}
use Rattle.afdx_network.specs.Inner.Sites.{end_at}
use Rattle.afdx_network.proofs.given.push_all.Given as goal

abbrev pub invariant-loop-row : goal.invariant-loop-row
invariant-loop-row l = record {
  ports : l.row-items ≡ l.table.ports;
  ends : l.initial.ends.items ++ map (λ p. end_at l.switch p.id) l.row-items ≡ l.ends.items ++ map (λ p. end_at l.switch p.id) (drop l.row-index l.row-items);
}
