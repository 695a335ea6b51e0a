use Rattle.std.proofs.Common.{◌≡◌}
use Rattle.afdx_session.proofs.Putting.{PutsUpTo}
use Rattle.afdx_session.proofs.machine.Machine.drain_into_files.Given as goal

abbrev pub invariant-loop-place : goal.invariant-loop-place
invariant-loop-place g l = record {
  puts : PutsUpTo g.F.NewFile.contents l.fn.self.switch l.fn.self.lanes.items l.fn.files l.self.switch l.self.lanes.items l.files l.place;
  counts : l.self.counts ≡ l.fn.self.counts;
}
