use Rattle.afdx_count.specs.declared.links.LinkTally.{LinkTally}
use Rattle.std.proofs.Common.{ap}
use Rattle.afdx_count.specs.Tally.{one_policed}
use Rattle.afdx_count.proofs.Placed.{changed_in, unchanged, still_distinct}
use Rattle.afdx_count.proofs.links.Links.note_policed.Goals as goal

pub returns-in-Some : goal.returns-in-Some
returns-in-Some g c =
    changed_in (λ (x : LinkTally). x.id) c.args.id one_policed c.self.inside.tallies.items c.args.self.now c.in-Some.place c.index_mut.result.now c.note_policed.new.self c.self.view_is
    c.in-Some.ensures.distinct c.in-Some.ensures.at c.index_mut.ensures.value c.note_policed.ensures

pub returns-in_default : goal.returns-in_default
returns-in_default g c = unchanged (λ (x : LinkTally). x.id) c.args.id one_policed c.args.self.now c.in_default.ensures.absent

pub invariant_of-self : goal.invariant_of-self
invariant_of-self g c =
    still_distinct (λ (x : LinkTally). x.id) c.self.inside.tallies.items c.in-Some.place c.index_mut.result.now c.note_policed.new.self c.self.invariant
    (ap (λ (x : LinkTally). x.id) c.note_policed.ensures) c.index_mut.ensures.value
