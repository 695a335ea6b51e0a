use Rattle.std.proofs.Common.{Bool}
use Rattle.afdx_network.specs.Inner.Noted.{AreNoted}
use Rattle.afdx_network.proofs.Rounds.{OnWindow}
use Rattle.afdx_network.proofs.windows.window.Given as goal

-- the switches before a place were visited
abbrev pub invariant-loop-switch : goal.invariant-loop-switch
invariant-loop-switch l = record {
  on : OnWindow l.network l.end l.initial.sites l.switch l.sites;
  noted : (keeps : Bool) → AreNoted l.network keeps l.initial.sites l.initial.origins → AreNoted l.network keeps l.sites l.origins;
}
