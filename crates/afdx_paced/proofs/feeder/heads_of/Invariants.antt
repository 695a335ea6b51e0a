use Rattle.std.proofs.Common.{◌≡◌, ◌-◌, ◌++◌, length, take, replicate, None}
use Rattle.afdx_paced.specs.Inner.Parts.{heads_of}
use Rattle.afdx_paced.proofs.feeder.heads_of.Given as goal

abbrev pub invariant-loop-place : goal.invariant-loop-place
invariant-loop-place g l = l.heads ≡ heads_of (take l.place l.lanes) ++ replicate (length l.lanes - l.place) None
