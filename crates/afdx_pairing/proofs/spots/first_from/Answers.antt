use Rattle.std.proofs.Common.{rules, ◌≡◌, nat_le, nat_lt, List, [], length, Option, arith, refl, sym, ap, subst, ◌∙◌, inl, inr}
use Rattle.std.specs.List.{find}
use Rattle.std.specs.Option.{option_map_or}
use Rattle.std.specs.declared.collections.VecDeque.{VecDeque}
use Rattle.std.proofs.lemmas.Bool.{cases_Bool, ltb-true, ltb-false}
use Rattle.std.proofs.lemmas.List.Sorted.{IsPartitionPoint-from_clause}
use Rattle.std.proofs.lemmas.Option.{slice_get_read, slice_get_past}
use Rattle.afdx_pairing.specs.declared.spots.Spot.{Spot}
use Rattle.afdx_pairing.specs.Inner.Queue.{spots_at, AreInOrder}
use Rattle.afdx_pairing.proofs.Places.{are_parted, spot_from}
use Rattle.afdx_pairing.proofs.spots.first_from.Goals as goal

pub returns-in-Some : goal.returns-in-Some
returns-in-Some g c =
    let ss : List Spot = c.in_ok-same.same.now.items in
    let i = c.partition_point-index.result in
    let is : spots_at c.args.spots.now c.args.bytes.now ≡ ss =
    sym (ap (λ (o : Option (VecDeque Spot g.row.A.Denot)). option_map_or (λ q. q.items) o []) c.in_ok-same.ensures.value) in
    let order : AreInOrder ss = subst AreInOrder is c.requires in
    let point = IsPartitionPoint-from_clause (λ (s : Spot). nat_lt s.stamp c.args.from) _ _ c.partition_point-index.ensures.partitioned
    (are_parted (λ (s : Spot). s.stamp) c.args.from ss order) (λ a r q k. search rules) in
    let item = slice_get_read ss (length ss) i c.in-Some.spot.now refl (omega (arith, c.in-Some.ensures.variant.0 refl)) c.in-Some.ensures.lookup in
    sym (ap (λ (xs : List Spot). find (λ s. nat_le c.args.from s.stamp) xs) is ∙ spot_from c.args.from ss i (omega arith) point ∙ item)

pub returns-in-None : goal.returns-in-None
returns-in-None g c =
    let ss : List Spot = c.in_ok-same.same.now.items in
    let i = c.partition_point-index.result in
    let is : spots_at c.args.spots.now c.args.bytes.now ≡ ss =
    sym (ap (λ (o : Option (VecDeque Spot g.row.A.Denot)). option_map_or (λ q. q.items) o []) c.in_ok-same.ensures.value) in
    let order : AreInOrder ss = subst AreInOrder is c.requires in
    let point = IsPartitionPoint-from_clause (λ (s : Spot). nat_lt s.stamp c.args.from) _ _ c.partition_point-index.ensures.partitioned
    (are_parted (λ (s : Spot). s.stamp) c.args.from ss order) (λ a r q k. search rules) in
    let found = ap (λ (xs : List Spot). find (λ s. nat_le c.args.from s.stamp) xs) is ∙ spot_from c.args.from ss i (omega arith) point in
    elim (cases_Bool (nat_lt i (length ss))) [
      | inl is_there ↦ absurd (let there = c.in-None.ensures.variant.1 (omega (arith, ltb-true i (length ss) is_there)) in cc)
      | inr is_past ↦ sym (found ∙ slice_get_past ss i (ltb-false i (length ss) is_past))
    ]
