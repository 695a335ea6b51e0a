use Rattle.std.proofs.Common.{rules, length, sym, ◌∙◌, None, slice_index_or}
use Rattle.std.proofs.lemmas.Option.{slice_get-get_or}
use Rattle.afdx_earliest.specs.Instants.{IsFirstIn}
use Rattle.afdx_merging.specs.Inner.Merging.{dues_of}
use Rattle.afdx_merging.proofs.Failing.{of_none, where_none}
use Rattle.afdx_merging.proofs.Going.{head_there, takes_it}
use Rattle.afdx_merging.proofs.merging.take_first.Goals as goal

pub returns-in_err-place-clause-some : goal.returns-in_err-place-clause-some
returns-in_err-place-clause-some g c = of_none _ c.from_residual.result c.from_residual.ensures

pub returns-in_err-place-clause-none : goal.returns-in_err-place-clause-none
returns-in_err-place-clause-none g c = where_none (IsFirstIn (dues_of c.args.lanes.now) (length c.args.lanes.now) None) c.from_residual.result c.in_err-place.ensures

pub offset_bounds-lanes-place : goal.offset_bounds-lanes-place
offset_bounds-lanes-place g c = let lt = c.in_ok-place.ensures.within in search (rules, lt)

pub bounds-lanes-place : goal.bounds-lanes-place
bounds-lanes-place g c = c.in_ok-place.ensures.within

pub unreachable-requires : goal.unreachable-requires
unreachable-requires g c =
    let lanes = c.args.lanes.now in
    let place = c.in_ok-place.place in
    let d = c.index-lanes-place.result in
    let first = c.in_ok-place.ensures in
    head_there lanes place c.in_ok-place.due (slice_index_or lanes place d) first (slice_get-get_or lanes place d first.within) (sym c.take.ensures.value ∙ c.in_default.is)

pub returns-clause-some : goal.returns-clause-some
returns-clause-some g c =
    let lanes = c.args.lanes.now in
    let place = c.in_ok-place.place in
    let d = c.index-lanes-place.result in
    let first = c.in_ok-place.ensures in
    takes_it lanes (slice_index_or lanes place d) place c.in_ok-place.due c.in-Some.head c.take.new.self first (slice_get-get_or lanes place d first.within) (sym c.take.ensures.value ∙ c.in-Some.is)
    c.take.ensures.after
