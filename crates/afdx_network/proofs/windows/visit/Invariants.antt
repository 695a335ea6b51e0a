use Rattle.std.proofs.Common.{Bool}
use Rattle.afdx_network.specs.Inner.Noted.{AreNoted}
use Rattle.afdx_network.proofs.Rounds.{OnVisit}
use Rattle.afdx_network.proofs.windows.visit.Given as goal

-- all has left the ports before a place
abbrev pub invariant-loop-place : goal.invariant-loop-place
invariant-loop-place l = record {
  on : OnVisit l.network l.fn.end l.switch l.fn.sites l.initial.sites l.place l.sites;
  noted : (keeps : Bool) → AreNoted l.network keeps l.fn.sites l.fn.origins → AreNoted l.network keeps l.sites l.origins;
}
