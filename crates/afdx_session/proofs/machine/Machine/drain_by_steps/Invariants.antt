use Rattle.std.proofs.Common.{◌≡◌, ◌-◌}
use Rattle.afdx_units.specs.Time.{stamp_end}
use Rattle.afdx_session.specs.Inner.Files.{Proceeds}
use Rattle.afdx_session.specs.Inner.Lent.{left_in}
use Rattle.afdx_session.proofs.machine.Machine.drain_by_steps.Given as goal

abbrev pub invariant-loop-instant : goal.invariant-loop-instant
invariant-loop-instant g l = record {
  proceeds : Proceeds g.F.NewFile.contents l.fn.self l.fn.files l.self l.files;
  read : left_in l.self.lanes.items ≡ 0;
}

abbrev pub decreases-loop-instant : goal.decreases-loop-instant
decreases-loop-instant g l = stamp_end - l.instant
