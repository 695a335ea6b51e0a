use Rattle.std.proofs.Common.{◌≡◌, ◌==◌, drop}
use Rattle.std.specs.List.{list_any}
use Rattle.afdx_table.specs.Inner.Slots.{key_place}
use Rattle.afdx_table.proofs.pairs.has_key.Given as goal

abbrev pub invariant-loop-pair : goal.invariant-loop-pair
invariant-loop-pair l = list_any (λ p. key_place p.0 == key_place l.key) (drop l.pair-index l.pairs) ≡ list_any (λ p. key_place p.0 == key_place l.key) l.pairs
