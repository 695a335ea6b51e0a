use Rattle.std.proofs.Common.{◌≡◌, ◌++◌, drop}
use Rattle.std.specs.Prelude.{flat_map}
use Rattle.afdx_network_check.specs.Net.{rows_from}
use Rattle.afdx_network_check.specs.Ways.{exits_at, exits_of}
use Rattle.afdx_network_check.proofs.network.Network.all_exits.Given as goal

abbrev pub invariant-loop-switch : goal.invariant-loop-switch
invariant-loop-switch l = l.exits.items ++ flat_map (exits_at l.self) (rows_from l.switch (drop l.switch l.self.tables)) ≡ exits_of l.self
