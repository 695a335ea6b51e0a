use Rattle.std.proofs.Common.{◌≡◌, take}
use Rattle.afdx_units.specs.declared.line.Priority.TheVariants.{High, Low}
use Rattle.afdx_count.specs.Counting.{more_aged}
use Rattle.afdx_count.proofs.counters.more_aged.Given as goal

abbrev pub invariant-loop-one : goal.invariant-loop-one
invariant-loop-one l = (l.of_high ≡ more_aged l.high High (take l.one-index l.aged)) × (l.of_low ≡ more_aged l.low Low (take l.one-index l.aged))
