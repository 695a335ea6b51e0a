use Rattle.std.proofs.Common.{[], List}
use Rattle.afdx_merging.specs.Inner.Merging.{HasMerged, least_of}
use Rattle.afdx_compare.specs.Inner.Reading.{HasRead}
use Rattle.afdx_compare.proofs.findings.read_all.Given as goal

abbrev pub invariant-loop-record : goal.invariant-loop-record
invariant-loop-record g l =
    (first : List g.row.R.Denot) → HasMerged g.R.Read.remaining l.sources.clocks first l.initial.readers l.initial.merging []
    → HasRead g.R.Read.remaining l.recordings l.sources first l.readers l.merging (least_of l.initial.merging.lanes.items) l.held.greatest l.held.records.items l.initial.comparison l.comparison
