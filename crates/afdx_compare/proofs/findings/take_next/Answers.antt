use Rattle.std.proofs.Common.{◌≡◌, ℕ, ◌<◌, List, [], ◌∷◌, ◌++◌, length, Option, sym, subst, ◌∙◌}
use Rattle.std.specs.List.{AllByRecursion}
use Rattle.std.proofs.lemmas.Result.{IfOk-weaker}
use Rattle.afdx_merging.specs.Merge.{Arrival}
use Rattle.afdx_compare.specs.Inner.Due.{MayAllArrive}
use Rattle.afdx_compare.specs.Inner.Held.{AreTaken}
use Rattle.afdx_compare.proofs.findings.take_next.Goals as goal

pub take_settled-requires-clause-places : goal.take_settled-requires-clause-places
take_settled-requires-clause-places g c =
    subst (λ (xs : List Arrival). AllByRecursion (λ a. a.place < length c.args.sources.now.captures) xs) (sym c.in_ok-keep.ensures.records) c.requires.places

pub take_settled-requires-clause-in_turn : goal.take_settled-requires-clause-in_turn
take_settled-requires-clause-in_turn g c =
    subst (λ (xs : List Arrival). MayAllArrive c.args.sources.now.captures xs c.args.comparison.now) (sym c.in_ok-keep.ensures.records) c.requires.in_turn

pub returns-clause-taken : goal.returns-clause-taken
returns-clause-taken g c =
    let r = c.args.recordings.now in
    let captures = c.args.sources.now.captures in
    let a : Arrival = c.args.arrival in
    let all = c.args.held.now.records.items ++ a ∷ [] in
    let old = c.args.comparison.now in
    let new = c.take_settled.new.comparison in
    let kept = c.keep.new.held in
    let left = c.take_settled.new.held in
    IfOk-weaker c.take_settled.result (λ u. AreTaken r captures kept.greatest kept.records.items left.records.items old new × (left.greatest ≡ kept.greatest))
    (λ u. AreTaken r captures left.greatest all left.records.items old new)
    (λ u taken. subst (λ (xs : List Arrival). AreTaken r captures left.greatest xs left.records.items old new) c.in_ok-keep.ensures.records
    (subst (λ (greatest : Option ℕ). AreTaken r captures greatest kept.records.items left.records.items old new) (sym taken.1) taken.0)) c.take_settled.ensures

pub returns-clause-greatest : goal.returns-clause-greatest
returns-clause-greatest g c =
    let r = c.args.recordings.now in
    let captures = c.args.sources.now.captures in
    let old = c.args.comparison.now in
    let new = c.take_settled.new.comparison in
    let kept = c.keep.new.held in
    let left = c.take_settled.new.held in
    IfOk-weaker c.take_settled.result (λ u. AreTaken r captures kept.greatest kept.records.items left.records.items old new × (left.greatest ≡ kept.greatest)) _
    (λ u taken. taken.1 ∙ c.in_ok-keep.ensures.greatest) c.take_settled.ensures
