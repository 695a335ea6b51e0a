use Rattle.std.proofs.Common.{◌≡◌, ◌++◌, take, drop, map}
use Rattle.afdx_count.specs.Tally.{ended_port}
use Rattle.afdx_count.proofs.ports.end_all.Given as goal

abbrev pub invariant-loop-tally : goal.invariant-loop-tally
invariant-loop-tally g l = map (ended_port l.done.run) l.initial.tally-items ≡ take l.tally-index l.tally-items ++ map (ended_port l.done.run) (drop l.tally-index l.tally-items)
