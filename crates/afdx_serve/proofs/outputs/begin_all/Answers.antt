use Rattle.std.proofs.Common.{◌+◌, ◌∙◌, ◌∷◌, [], ap, length, subst, arith, sym}
use Rattle.std.proofs.lemmas.List.{length-append}
use Rattle.afdx_serve.specs.Inner.Outputs.{AreEmpty}
use Rattle.afdx_serve.proofs.FileLemmas.{KeepsFiles-trans}
use Rattle.afdx_serve.proofs.PutLemmas.{empty_push}
use Rattle.afdx_serve.proofs.outputs.begin_all.Goals as goal

pub loop-name-preserved : goal.loop-name-preserved
loop-name-preserved g c =
    let was = c.loop-name.invariant in
    let pushed = c.push_reserved.ensures.items in
    record {
      count = ap length pushed ∙ length-append c.loop-name.files.items (c.in-Ok.new ∷ []) ∙ ap (λ n. n + 1) was.count;
      room = let room = was.room in let same = c.push_reserved.ensures.capacity in omega (arith, room, same);
      empty = subst (AreEmpty _ _) (sym pushed) (empty_push _ _ _ c.loop-name.files.items c.in-Ok.new was.same was.empty c.in-Ok.ensures.bytes);
      same = KeepsFiles-trans _ _ _ was.same c.in-Ok.ensures.same;
      failed = c.in-Ok.ensures.failed ∙ was.failed;
    }
