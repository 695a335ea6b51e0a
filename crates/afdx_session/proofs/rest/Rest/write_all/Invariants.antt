use Rattle.std.proofs.Common.{◌≡◌, List, length}
use Rattle.afdx_table.specs.Content.{Content}
use Rattle.afdx_core.specs.Merge.{Arrival}
use Rattle.afdx_session.specs.Inner.Rest.{IsLeft, IsAsBefore, HaveRests}
use Rattle.afdx_session.proofs.rest.Rest.write_all.Given as goal

abbrev pub invariant-loop-place : goal.invariant-loop-place
invariant-loop-place g l = record {
  before : IsAsBefore l.fn.self.state l.self.state;
  long : length l.files ≡ length l.fn.files;
  on : (t : Content) (arrivals : List Arrival) → IsLeft t arrivals 0 l.fn.self → length l.fn.files ≡ length t.ports
      → IsLeft t arrivals l.place l.self × (l.self.taken ≡ l.fn.self.taken) × HaveRests g.F.NewFile.contents t arrivals l.fn.self.taken l.place l.fn.files l.files;
}
