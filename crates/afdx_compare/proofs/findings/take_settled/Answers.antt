use Rattle.std.proofs.Common.{rules, ◌≡◌, ℕ, true, ◌∷◌, Option, subst}
use Rattle.afdx_merging.specs.Merge.{Arrival}
use Rattle.afdx_compare.specs.Inner.Held.{is_first_settled}
use Rattle.afdx_compare.proofs.Taking.{takes_more}
use Rattle.afdx_compare.proofs.findings.take_settled.Goals as goal

pub loop-held-preserved-in-Continue-1 : goal.loop-held-preserved-in-Continue-1
loop-held-preserved-in-Continue-1 g c =
    let r = c.args.recordings.now in
    let captures = c.args.sources.now.captures in
    let was = c.loop-held.invariant in
    let waits = c.loop-held.held.records.items in
    let rest = c.pop_front.new.self.items in
    let a : Arrival = c.in-Some.arrival in
    let is : waits ≡ a ∷ rest = c.in-Some.ensures.items in
    let first : is_first_settled r captures c.loop-held.held.greatest waits ≡ true = search rules in
    let settled = subst (λ (greatest : Option ℕ). is_first_settled r captures greatest waits ≡ true) was.greatest first in
    record {
      taking = takes_more r captures c.args.held.now.greatest c.args.held.now.records.items waits rest a c.args.comparison.now c.loop-held.comparison c.take.new.comparison
          was.taking is settled c.in_ok-take.ensures;
      greatest = was.greatest;
    }
