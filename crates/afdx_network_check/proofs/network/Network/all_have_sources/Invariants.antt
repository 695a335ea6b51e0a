use Rattle.std.proofs.Common.{◌≡◌, drop}
use Rattle.afdx_network_check.specs.Net.{rows_from, rows_of}
use Rattle.afdx_network_check.specs.Order.{first_of, has_source}
use Rattle.afdx_network_check.proofs.network.Network.all_have_sources.Given as goal

abbrev pub invariant-loop-switch : goal.invariant-loop-switch
invariant-loop-switch l = first_of (has_source l.self) (rows_from l.switch (drop l.switch l.self.tables)) ≡ first_of (has_source l.self) (rows_of l.self)
