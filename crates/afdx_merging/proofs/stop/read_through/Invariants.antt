use Rattle.std.proofs.Common.{◌≡◌, List, length, None}
use Rattle.afdx_pairing.specs.Events.{Numbered}
use Rattle.afdx_merging.specs.Inner.Lanes.{IsReadBy}
use Rattle.afdx_merging.proofs.stop.read_through.Given as goal

abbrev pub invariant-loop-turn : goal.invariant-loop-turn
invariant-loop-turn g l = record {
  room : length l.piece ≡ length l.fn.piece;
  no_fault : l.lane.reader.fault ≡ None;
  on : (first : g.row.R.Denot) (given : List Numbered) → IsReadBy g.R.Read.remaining first l.fn.reader l.fn.lane given
      → (more : List Numbered) × IsReadBy g.R.Read.remaining first l.reader l.lane more;
}
