use Rattle.std.proofs.Common.{◌≡◌, drop}
use Rattle.afdx_serve.specs.NetworkJitters.{rates_fit}
use Rattle.afdx_serve.proofs.network_jitter.rates_fit.Given as goal

abbrev pub invariant-loop-switch : goal.invariant-loop-switch
invariant-loop-switch l = rates_fit l.switch (drop l.switch l.tables) ≡ rates_fit 0 l.tables
