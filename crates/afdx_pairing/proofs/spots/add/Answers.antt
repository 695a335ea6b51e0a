use Rattle.std.proofs.Common.{rules, List, [], ◌∷◌, ◌++◌, Option, Some, ap, ◌∙◌}
use Rattle.std.specs.Option.{option_map_or}
use Rattle.std.specs.declared.collections.VecDeque.{VecDeque}
use Rattle.std.proofs.lemmas.Result.{err_from_is_err_and}
use Rattle.afdx_pairing.specs.declared.spots.Spot.{Spot}
use Rattle.afdx_pairing.proofs.Places.{left_alone, added, put_first}
use Rattle.afdx_pairing.proofs.spots.add.Goals as goal

pub returns-in_err-push_back-clause-err : goal.returns-in_err-push_back-clause-err
returns-in_err-push_back-clause-err g c =
    let p = err_from_is_err_and c.from_residual.result c.from_residual.ensures.1 in
    let was = ap (λ (o : Option (VecDeque Spot g.row.A.Denot)). option_map_or (λ q. q.items) o []) c.in-Some.ensures.value in
    let same = left_alone c.args.bytes.now c.args.spots.now (c.get_mut.follows.lender c.push_back.new.self) (Some c.push_back.new.self)
    ((c.get_mut.follows.holds c.push_back.new.self).3 (search rules)) (c.in_err-push_back.ensures.items ∙ was) in
    rw p.1 same

pub returns-in-Some-clause-ok : goal.returns-in-Some-clause-ok
returns-in-Some-clause-ok g c =
    let was = ap (λ (o : Option (VecDeque Spot g.row.A.Denot)). option_map_or (λ q. q.items) o []) c.in-Some.ensures.value in
    added c.args.bytes.now (c.args.spot ∷ []) c.args.spots.now (c.get_mut.follows.lender c.push_back.new.self) (Some c.push_back.new.self)
    ((c.get_mut.follows.holds c.push_back.new.self).3 (search rules))
    (c.in_ok-push_back.ensures.items ∙ ap (λ (ss : List Spot). ss ++ c.args.spot ∷ []) was)

pub returns-clause-ok : goal.returns-clause-ok
returns-clause-ok g c =
    put_first c.args.bytes.now c.in_ok-key.key.items c.args.spot c.get_mut.follows.lender-at-none c.args.spots.now c.insert.new.self c.push_back-2.new.self
    c.in_ok-key.ensures.items c.get_mut.follows.holds-at-none c.in_default.ensures.value
    (c.in_ok-push_back-2.ensures.items ∙ ap (λ (ss : List Spot). ss ++ c.args.spot ∷ []) c.new-same.ensures.items)
    c.in_ok-insert.ensures.updates
