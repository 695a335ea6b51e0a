use Rattle.std.proofs.Common.{◌≡◌, take}
use Rattle.afdx_following.specs.Output.{with_told}
use Rattle.afdx_following.proofs.found.Found.note_all.Given as goal

abbrev pub invariant-loop-event : goal.invariant-loop-event
invariant-loop-event g l = l.self ≡ with_told (take l.event-index l.events) l.initial.self
