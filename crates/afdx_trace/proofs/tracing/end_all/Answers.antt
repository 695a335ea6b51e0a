use Rattle.std.proofs.Common.{◌<◌, length, get_or, sym, ◌∙◌, arith, subst}
use Rattle.std.proofs.lemmas.Option.{slice_get-get_or}
use Rattle.afdx_trace.specs.Inner.Telling.{AreEnded}
use Rattle.afdx_trace.proofs.Ended.{none_ended, next_ended}
use Rattle.afdx_trace.proofs.tracing.end_all.Goals as goal

pub loop-place-init : goal.loop-place-init
loop-place-init g c = none_ended c.args.shown.now g.F.NewFile.contents c.args.files.now c.args.ports.now

pub end-requires : goal.end-requires
end-requires g c =
    let is = c.loop-place.invariant in
    let k = c.loop-place.place in
    let lt : k < length c.loop-place.ports = (let many = is.many in omega (arith, many, c.loop-place-test.true)) in
    c.requires.told k (get_or c.loop-place.ports k c.index-ports-place.result) (sym (is.ports_left k (omega arith)) ∙ slice_get-get_or c.loop-place.ports k c.index-ports-place.result lt)

pub loop-place-preserved : goal.loop-place-preserved
loop-place-preserved g c =
    let is = c.loop-place.invariant in
    let k = c.loop-place.place in
    let ports = c.loop-place.ports in
    let files = c.loop-place.files in
    let lt : k < length ports = (let many = is.many in omega (arith, many, c.loop-place-test.true)) in
    let f_lt : k < length files = (let many = is.many in let long = is.long in omega (arith, many, long, c.requires.files, c.loop-place-test.true)) in
    let ended = c.in_ok-end.ensures in
    next_ended c.args.shown.now g.F.NewFile.contents k c.args.files.now files c.args.ports.now ports (get_or files k c.index-files-place.result) c.end.new.file
    (get_or ports k c.index-ports-place.result) c.end.new.self
    (sym (is.files_left k (omega arith)) ∙ slice_get-get_or files k c.index-files-place.result f_lt)
    (sym (is.ports_left k (omega arith)) ∙ slice_get-get_or ports k c.index-ports-place.result lt)
    (record { row = ended.row; settings = ended.settings; content = ended.content; told = ended.told; all = ended.all; gone = ended.gone }) is

pub returns : goal.returns
returns g c =
    let is = c.loop-place.invariant in
    subst (λ k. AreEnded c.args.shown.now g.F.NewFile.contents k c.args.files.now c.loop-place.files c.args.ports.now c.loop-place.ports) (omega (arith, c.loop-place-test.false)) is
