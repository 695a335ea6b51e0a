use Rattle.std.proofs.Common.{◌≡◌, None, List, length}
use Rattle.afdx_pairing.specs.Events.{Numbered}
use Rattle.afdx_merging.specs.Inner.Lanes.{IsReadBy}
use Rattle.afdx_merging.proofs.lane.Lane.advance.Given as goal

abbrev pub invariant-loop-turn : goal.invariant-loop-turn
invariant-loop-turn g l = record {
  room : length l.piece ≡ length l.initial.piece;
  clock : l.self.clock ≡ l.initial.self.clock;
  no_fault : l.self.reader.fault ≡ None;
  none : l.self.head ≡ None;
  on : (first : g.row.R.Denot) (given : List Numbered) → IsReadBy g.R.Read.remaining first l.initial.reader l.initial.self given → IsReadBy g.R.Read.remaining first l.reader l.self given;
}
