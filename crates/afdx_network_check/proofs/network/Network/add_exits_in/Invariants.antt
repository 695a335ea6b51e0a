use Rattle.std.proofs.Common.{◌≡◌, ◌++◌, drop}
use Rattle.std.specs.Prelude.{flat_map}
use Rattle.afdx_network_check.specs.Net.{rows_in}
use Rattle.afdx_network_check.specs.Ways.{exits_at}
use Rattle.afdx_network_check.proofs.network.Network.add_exits_in.Given as goal

abbrev pub invariant-loop-index : goal.invariant-loop-index
invariant-loop-index l =
    l.exits.items ++ flat_map (exits_at l.self) (rows_in l.switch (drop l.index l.table.links))
    ≡ l.initial.exits.items ++ flat_map (exits_at l.self) (rows_in l.switch l.table.links)
