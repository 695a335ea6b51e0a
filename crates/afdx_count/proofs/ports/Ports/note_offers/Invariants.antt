use Rattle.std.proofs.Common.{◌≡◌, drop, map}
use Rattle.afdx_count.specs.Tally.{with_copies}
use Rattle.afdx_count.proofs.ports.Ports.note_offers.Given as goal

abbrev pub invariant-loop-asked : goal.invariant-loop-asked
invariant-loop-asked g l = map (with_copies l.class l.offers) l.initial.self ≡ map (with_copies l.class (drop l.asked l.offers)) l.self
