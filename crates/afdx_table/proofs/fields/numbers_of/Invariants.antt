use Rattle.std.proofs.Common.{◌≡◌, drop}
use Rattle.toml.specs.View.{items_view}
use Rattle.afdx_table.proofs.NumberLemmas.{numbers_yet, numbers_said}
use Rattle.afdx_table.proofs.fields.numbers_of.Given as goal

abbrev pub invariant-loop-item : goal.invariant-loop-item
invariant-loop-item l = numbers_yet l.at l.key l.low l.high l.are_within l.numbers.items (items_view (drop l.item-index l.items)) ≡ numbers_said l.at l.key l.low l.high (items_view l.items)
