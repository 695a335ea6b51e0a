use Rattle.std.proofs.Common.{◌≡◌, ◌<◌, ◌+◌, ℕ, true, List, slice_get, Some}
use Rattle.afdx_wiring.specs.declared.layout.Wire.{Wire}
use Rattle.afdx_wiring.specs.File.{is_end}
use Rattle.afdx_network_check.specs.Net.{wire_to}
use Rattle.afdx_origins.specs.declared.departure.Departure.{Departure}
use Rattle.afdx_origins.specs.Inner.Known.{Leaves, AreComing, HasCome, KeepDelays, StayHeld}
use Rattle.afdx_origins.proofs.origins.carry.Given as goal

abbrev pub invariant-loop-wire : goal.invariant-loop-wire
invariant-loop-wire l = record {
  wires : l.wire-items ≡ l.network.layout.wires;
  coming : (all : List Departure) → Leaves l.network all l.from l.link l.end l.first → AreComing l.network all l.initial.switches → AreComing l.network all l.switches;
  delays : KeepDelays l.initial.switches l.switches;
  stay : (all : List Departure) → Leaves l.network all l.from l.link l.end l.first → AreComing l.network all l.initial.switches → StayHeld l.network all l.initial.switches l.switches;
  come : (all : List Departure) → Leaves l.network all l.from l.link l.end l.first → AreComing l.network all l.initial.switches → (k : ℕ) (w : Wire) → k < l.wire-index
      → slice_get l.network.layout.wires k ≡ Some w → is_end w.from l.from ≡ true → wire_to l.network w.to ≡ Some w → HasCome l.network all l.link w (l.end + w.delay) l.switches;
}
