use Rattle.std.proofs.Common.{List}
use Rattle.afdx_merging.specs.Merge.{Arrival}
use Rattle.afdx_network_check.specs.Net.{Network}
use Rattle.afdx_network.specs.Inner.Intake.{HasTaken}
use Rattle.afdx_network.proofs.Taking.{ReadsOn}
use Rattle.afdx_network.proofs.intake.Intake.end.Given as goal

abbrev pub invariant-loop-record : goal.invariant-loop-record
invariant-loop-record g l =
    (net : Network) (first : List g.row.R.Denot) (came : List Arrival) → HasTaken g.R.Read.remaining net first l.initial.readers l.initial.self came
    → ReadsOn g.R.Read.remaining net first l.initial.self came l.readers l.self
