use Rattle.std.proofs.Common.{◌≡◌, take}
use Rattle.afdx_units.specs.declared.line.Priority.TheVariants.{High, Low}
use Rattle.afdx_count.specs.Counting.{more_sent}
use Rattle.afdx_count.proofs.counters.more_sent.Given as goal

abbrev pub invariant-loop-one : goal.invariant-loop-one
invariant-loop-one l = (l.of_high ≡ more_sent l.high High (take l.one-index l.sent)) × (l.of_low ≡ more_sent l.low Low (take l.one-index l.sent))
