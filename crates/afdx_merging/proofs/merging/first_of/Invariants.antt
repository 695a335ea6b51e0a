use Rattle.afdx_earliest.specs.Instants.{IsFirstIn}
use Rattle.afdx_merging.specs.Inner.Merging.{dues_of}
use Rattle.afdx_merging.proofs.merging.first_of.Given as goal

abbrev pub invariant-loop-place : goal.invariant-loop-place
invariant-loop-place g l = IsFirstIn (dues_of l.lanes) l.place l.first
