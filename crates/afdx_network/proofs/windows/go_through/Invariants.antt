use Rattle.std.proofs.Common.{◌≡◌, ◌-◌, Bool, List, length}
use Rattle.afdx_units.specs.Time.{stamp_end}
use Rattle.afdx_network.specs.Inner.Outputs.{HaveGone}
use Rattle.afdx_network.specs.Inner.Sites.{gone_of}
use Rattle.afdx_network.specs.Inner.Noted.{AreNoted}
use Rattle.afdx_network.proofs.Going.{OnTheRun}
use Rattle.afdx_network.proofs.windows.go_through.Given as goal

-- the switches came to the end of a window, and what has gone is in the files
abbrev pub invariant-loop-alloc : goal.invariant-loop-alloc
invariant-loop-alloc g l = record {
  run : OnTheRun g.R.Read.remaining l.network l.initial.readers l.initial.intake l.initial.sites l.end l.readers l.intake l.sites;
  files : length l.files ≡ length (gone_of l.sites);
  gone : (start : List g.row.F.Denot) → HaveGone g.F.NewFile.contents start l.initial.files (gone_of l.initial.sites) → HaveGone g.F.NewFile.contents start l.files (gone_of l.sites);
  noted : (keeps : Bool) → AreNoted l.network keeps l.initial.sites l.initial.origins → AreNoted l.network keeps l.sites l.origins;
}

abbrev pub decreases-loop-alloc : goal.decreases-loop-alloc
decreases-loop-alloc g l = stamp_end - l.end
