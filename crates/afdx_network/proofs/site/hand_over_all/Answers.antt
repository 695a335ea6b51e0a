use Rattle.std.proofs.Common.{List, ap, ◌∙◌, get_or, arith, subst}
use Rattle.std.proofs.lemmas.Option.{slice_get-get_or}
use Rattle.afdx_network.specs.Inner.Outputs.{Output, gone_in, HaveGone}
use Rattle.afdx_network.proofs.Handed.{gone_then, none_handed, one_handed, all_handed}
use Rattle.afdx_network.proofs.site.hand_over_all.Goals as goal

pub loop-place-init : goal.loop-place-init
loop-place-init g c = none_handed g.F.NewFile.contents c.args.outputs.now c.args.files.now c.requires

pub loop-place-preserved : goal.loop-place-preserved
loop-place-preserved g c =
    let outputs = c.loop-place.outputs in
    let files = c.loop-place.files in
    let k = c.loop-place.place in
    let h = c.loop-place.invariant in
    let lt = c.loop-place-test.true in
    let many = c.loop-place.auto.outputs in
    let same = h.many in
    one_handed g.F.NewFile.contents c.args.outputs.now outputs c.args.files.now files k (get_or outputs k c.index-outputs-place.result) c.hand_over.new.self (get_or files k c.index-files-place.result)
    c.hand_over.new.file h (slice_get-get_or outputs k c.index-outputs-place.result (omega (arith, lt, many))) (slice_get-get_or files k c.index-files-place.result (omega (arith, lt, many, same)))
    c.in_ok-hand_over.ensures.ok.0 c.in_ok-hand_over.ensures.ok.1

pub returns-clause-all : goal.returns-clause-all
returns-clause-all g c =
    all_handed g.F.NewFile.contents c.args.outputs.now c.loop-place.outputs c.args.files.now c.loop-place.files c.loop-place.place c.loop-place.invariant c.loop-place-test.false

pub returns-clause-gone : goal.returns-clause-gone
returns-clause-gone g c = λ start have.
    let all = all_handed g.F.NewFile.contents c.args.outputs.now c.loop-place.outputs c.args.files.now c.loop-place.files c.loop-place.place c.loop-place.invariant c.loop-place-test.false in
    subst (HaveGone g.F.NewFile.contents start c.loop-place.files) (ap (λ (outputs : List Output). gone_in outputs) all ∙ gone_then c.args.outputs.now) (c.loop-place.invariant.gone start have)
