use Rattle.std.proofs.Common.{rules}
use Rattle.std.proofs.lemmas.List.Sorted.{answers_always, IsNonDecreasingBy-from_sort}
use Rattle.std.proofs.lemmas.Result.{on_ok_weaker}
use Rattle.afdx_compare.specs.Rows.{instant_of}
use Rattle.afdx_compare.proofs.Ordering.{ordered_from_sort}
use Rattle.afdx_compare.proofs.rows.sort.Goals as goal

pub returns : goal.returns
returns g c =
    let keys = answers_always _ _ _ (λ f a r next called. search rules) in
    let stable = c.sort_by_key.ensures.stable instant_of keys in
    on_ok_weaker c.sort_by_key.result
    (λ sorted. ordered_from_sort _ _ (IsNonDecreasingBy-from_sort instant_of _ (sorted instant_of keys)) stable)
    c.sort_by_key.ensures.sorted
