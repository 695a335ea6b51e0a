use Rattle.std.proofs.Common.{ap, option_map}
use Rattle.afdx_count.specs.declared.links.LinkTally.{LinkTally}
use Rattle.afdx_count.specs.Tally.{one_passed}
use Rattle.afdx_count.proofs.Placed.{changed_in, unchanged, still_distinct, found_in, not_found}
use Rattle.afdx_count.proofs.links.Links.note_passed.Goals as goal

pub returns-in-Some-clause-links : goal.returns-in-Some-clause-links
returns-in-Some-clause-links g c =
    changed_in (λ (x : LinkTally). x.id) c.args.id one_passed c.self.inside.tallies.items c.args.self.now c.in-Some.place c.index_mut.result.now c.note_passed.new.self c.self.view_is
    c.in-Some.ensures.distinct c.in-Some.ensures.at c.index_mut.ensures.value c.note_passed.ensures

pub returns-in-Some-clause-class : goal.returns-in-Some-clause-class
returns-in-Some-clause-class g c = ap (option_map (λ (x : LinkTally). x.priority))
    (found_in (λ (x : LinkTally). x.id) c.args.id c.self.inside.tallies.items c.args.self.now c.in-Some.place c.index-tally.result.now c.self.view_is c.in-Some.ensures.distinct c.in-Some.ensures.at
    c.index-tally.ensures)

pub returns-in-None-clause-links : goal.returns-in-None-clause-links
returns-in-None-clause-links g c = unchanged (λ (x : LinkTally). x.id) c.args.id one_passed c.args.self.now c.in-None.ensures.absent

pub returns-in-None-clause-class : goal.returns-in-None-clause-class
returns-in-None-clause-class g c = ap (option_map (λ (x : LinkTally). x.priority)) (not_found (λ (x : LinkTally). x.id) c.args.id c.args.self.now c.in-None.ensures.absent)

pub invariant_of-self : goal.invariant_of-self
invariant_of-self g c =
    still_distinct (λ (x : LinkTally). x.id) c.self.inside.tallies.items c.in-Some.place c.index_mut.result.now c.note_passed.new.self c.self.invariant
    (ap (λ (x : LinkTally). x.id) c.note_passed.ensures) c.index_mut.ensures.value
