use Rattle.std.proofs.Common.{◌≡◌, ℕ, ◌<◌, length, get_or, slice_get, Some}
use Rattle.afdx_table.specs.Link.{Link}
use Rattle.afdx_origins.specs.declared.at_link.AtLink.{AtLink}
use Rattle.afdx_origins.specs.Inner.Known.{IsFreshLink}
use Rattle.afdx_origins.proofs.at_switch.AtSwitch.new.Given as goal

abbrev pub invariant-loop-place : goal.invariant-loop-place
invariant-loop-place l = record {
  many : length l.links.items ≡ l.place;
  each : (k : ℕ) (a : AtLink) → k < length l.links.items → (m : Link) → slice_get l.table.links k ≡ Some m → IsFreshLink (length m.to) (get_or l.links.items k a);
}
