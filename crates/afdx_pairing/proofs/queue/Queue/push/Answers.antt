use Rattle.std.proofs.Common.{◌≤◌, ℕ, List, [], ◌∷◌, ◌++◌, arith, sym, ap, subst, ◌∙◌}
use Rattle.std.specs.List.{AllByRecursion}
use Rattle.afdx_pairing.specs.declared.spots.Spot.{Spot}
use Rattle.afdx_pairing.specs.Events.{Numbered}
use Rattle.afdx_pairing.proofs.Places.{kept_with_one}
use Rattle.afdx_pairing.proofs.queue.Queue.push.Goals as goal

pub invariant_of-self-2 : goal.invariant_of-self-2
invariant_of-self-2 g c =
    let items = c.self.inside.items.items in
    let place = c.in_ok-place.place in
    let spot : Spot = record { stamp = c.stamp.result; place = place } in
    kept_with_one items c.push_back_reserved.new.self.items c.self.inside.spots c.add.new.spots c.self.inside.gone place c.args.item c.bytes.result.now spot c.self.invariant
    (subst (λ (ns : List Numbered). AllByRecursion (λ n. n.frame.stamp ≤ c.args.item.frame.stamp) ns) (sym c.self.view_is) c.requires)
    (omega (arith, c.in_ok-place.ensures.0, c.len.ensures)) c.in_ok-place.ensures.1
    c.bytes.ensures.bytes (ap (λ (at : ℕ). let one : Spot = record { stamp = at; place = place } in one) c.stamp.ensures)
    c.in_ok-add.ensures.ok
    (c.push_back_reserved.ensures.items ∙ ap (λ (ns : List Numbered). ns ++ c.args.item ∷ []) c.reserve.ensures.items)
