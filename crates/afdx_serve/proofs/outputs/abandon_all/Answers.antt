use Rattle.std.proofs.Common.{refl, ◌∙◌}
use Rattle.afdx_serve.proofs.FileLemmas.{KeepsFiles-refl, KeepsFiles-trans}
use Rattle.afdx_serve.proofs.outputs.abandon_all.Goals as goal

pub loop-new-init : goal.loop-new-init
loop-new-init g c = (KeepsFiles-refl _, refl)

pub loop-new-preserved : goal.loop-new-preserved
loop-new-preserved g c =
    let was = c.loop-new.invariant in
    (KeepsFiles-trans _ _ _ was.0 c.abandon.ensures.same, c.abandon.ensures.failed ∙ was.1)
