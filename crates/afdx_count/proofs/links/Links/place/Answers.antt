use Rattle.afdx_count.specs.declared.links.LinkTally.{LinkTally}
use Rattle.afdx_count.proofs.Placed.{placed_at, placed_nowhere, within}
use Rattle.afdx_count.proofs.links.Links.place.Goals as goal

pub returns : goal.returns
returns g c =
    let xs = c.self.inside.tallies.items in
    let is = rw c.deref.ensures.value at c.search.ensures in
    let at = placed_at (λ (x : LinkTally). x.id) c.args.id xs c.args.self.now c.search.result is c.self.view_is in
    record {
      at = at;
      absent = placed_nowhere (λ (x : LinkTally). x.id) c.args.id xs c.args.self.now c.search.result is c.self.view_is;
      within = within (λ (x : LinkTally). x.id) c.args.id c.args.self.now c.search.result at;
      distinct = rw c.self.view_is at c.self.invariant;
    }
