use Rattle.std.proofs.Common.{◌≡◌, ℕ, ◌<◌, [], length, get_or, slice_get, Some}
use Rattle.afdx_units.specs.Time.{bag_ns}
use Rattle.afdx_table.specs.Link.{Link}
use Rattle.afdx_spells.specs.Spells.{Noted}
use Rattle.afdx_measure.proofs.policing.fresh_spells.Given as goal

abbrev pub invariant-loop-place : goal.invariant-loop-place
invariant-loop-place g l = record {
  many : length l.all.items ≡ l.place;
  each : (k : ℕ) (d : Noted) → k < length l.all.items → (m : Link) → slice_get l.table.links k ≡ Some m
      → ((get_or l.all.items k d).gap ≡ bag_ns m.bag) × ((get_or l.all.items k d).spells ≡ []);
}
