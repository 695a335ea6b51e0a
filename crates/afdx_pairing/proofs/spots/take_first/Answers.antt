use Rattle.std.proofs.Common.{rules, List, [], Option, Some, drop, ap, ◌∙◌}
use Rattle.std.specs.Option.{option_map_or}
use Rattle.std.specs.declared.collections.VecDeque.{VecDeque}
use Rattle.afdx_pairing.specs.declared.spots.Spot.{Spot}
use Rattle.afdx_pairing.proofs.Places.{replaced, none_left}
use Rattle.afdx_pairing.proofs.spots.take_first.Goals as goal

pub returns-in-Some-clause-none : goal.returns-in-Some-clause-none
returns-in-Some-clause-none g c =
    none_left c.args.bytes.now (c.get_mut.follows.lender c.pop_front.new.self) c.pop_front.new.self c.pop_front.new.self.len c.is_empty.result
    ((c.get_mut.follows.holds c.pop_front.new.self).3 (search rules)).1 c.pop_front.new.self.ok.0 c.is_empty.ensures

pub returns-in-Some-clause-rest : goal.returns-in-Some-clause-rest
returns-in-Some-clause-rest g c =
    let was = ap (λ (o : Option (VecDeque Spot g.row.A.Denot)). option_map_or (λ q. q.items) o []) c.in-Some.ensures.value in
    replaced (λ (ss : List Spot). drop 1 ss) c.args.bytes.now c.args.spots.now (c.get_mut.follows.lender c.pop_front.new.self) (Some c.pop_front.new.self)
    ((c.get_mut.follows.holds c.pop_front.new.self).3 (search rules)) (c.pop_front.ensures.rest ∙ ap (λ (ss : List Spot). drop 1 ss) was)
