use Rattle.std.proofs.Common.{◌≡◌}
use Rattle.afdx_session.specs.Inner.Files.{PutsOut}
use Rattle.afdx_session.proofs.machine.Machine.hand_over.Given as goal

abbrev pub invariant-loop-place : goal.invariant-loop-place
invariant-loop-place g l = record {
  puts : PutsOut g.F.NewFile.contents l.fn.self l.fn.files l.self.lanes.items l.files;
  switch : l.self.switch ≡ l.fn.self.switch;
  counts : l.self.counts ≡ l.fn.self.counts;
}
