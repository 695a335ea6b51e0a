use Rattle.std.proofs.Common.{Bool, Option}
use Rattle.afdx_network_check.specs.Net.{Network}
use Rattle.afdx_origins.specs.Origins.{Origins}
use Rattle.afdx_network.specs.Inner.Noted.{AreNoted}
use Rattle.afdx_network.proofs.Going.{HasTakenIn}
use Rattle.afdx_network.proofs.windows.take_in.Given as goal

-- some of what is given came in
abbrev pub invariant-loop-record : goal.invariant-loop-record
invariant-loop-record g l = record {
  taken : HasTakenIn g.R.Read.remaining l.initial.readers l.initial.intake l.initial.sites l.readers l.intake l.sites;
  noted : (net : Network) (keeps : Bool) (origins : Option Origins) → AreNoted net keeps l.initial.sites origins → AreNoted net keeps l.sites origins;
}
