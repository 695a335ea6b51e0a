use Rattle.std.proofs.Common.{◌≡◌, ℕ, ◌<◌, length, get_or, slice_get, Global, Option, Some}
use Rattle.std.specs.Prelude.{Vec}
use Rattle.afdx_core.specs.State.{State}
use Rattle.afdx_network_trace.specs.First.{AreFirstNumbers}
use Rattle.afdx_network_trace.proofs.numbering.Search.at_all.Given as goal

abbrev pub invariant-loop-switch : goal.invariant-loop-switch
invariant-loop-switch l = record {
  many : length l.all.items ≡ l.switch;
  each : (switch : ℕ) (firsts : Vec (Option ℕ) Global) → switch < length l.all.items → (s : State) → slice_get l.self.dones.now switch ≡ Some s
      → AreFirstNumbers l.self.network.now l.self.dones.now switch s.run.rows (get_or l.all.items switch firsts).items;
}
