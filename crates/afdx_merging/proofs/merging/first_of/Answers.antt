use Rattle.std.proofs.Common.{◌≡◌, ◌+◌, arith, length, refl, subst, sym, ◌∙◌}
use Rattle.std.proofs.lemmas.Option.{slice_get_read}
use Rattle.afdx_earliest.specs.Instants.{IsFirstIn}
use Rattle.afdx_merging.specs.Inner.Merging.{dues_of}
use Rattle.afdx_merging.proofs.Firsts.{instant_of, first_more}
use Rattle.afdx_merging.proofs.merging.first_of.Goals as goal

pub loop-place-preserved : goal.loop-place-preserved
loop-place-preserved g c =
    let lanes = c.args.lanes.now in
    let place = c.loop-place.place in
    let at = slice_get_read lanes (length lanes) place c.index-lanes-place.result refl c.loop-place-test.true c.index-lanes-place.is in
    subst (IsFirstIn (dues_of lanes) (place + 1)) (sym c.sooner-first.ensures)
    (first_more (dues_of lanes) place c.loop-place.first c.due.result c.loop-place.invariant (instant_of lanes place c.index-lanes-place.result at ∙ sym c.due.ensures))

pub returns : goal.returns
returns g c =
    let lanes = c.args.lanes.now in
    let same : c.loop-place.place ≡ length lanes = let past = c.loop-place-test.false in let end = c.loop-place.auto.place-end in omega (arith, past, end) in
    subst (λ n. IsFirstIn (dues_of lanes) n c.loop-place.first) same c.loop-place.invariant
