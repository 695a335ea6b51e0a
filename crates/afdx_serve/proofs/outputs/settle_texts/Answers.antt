use Rattle.std.proofs.Common.{rules, ◌+◌, ◌∙◌, ◌<◌, ◌∷◌, [], String, Vec, ℕ, Global, Some, length, map, slice_get, string_bytes, subst, sym, ap, arith}
use Rattle.std.proofs.lemmas.List.{length-append}
use Rattle.afdx_serve.specs.Inner.Outputs.{HaveBytes, FailsToSettle}
use Rattle.afdx_serve.proofs.CaptureLemmas.{mapped, not_settled}
use Rattle.afdx_serve.proofs.FileLemmas.{KeepsFiles-trans}
use Rattle.afdx_serve.proofs.PutLemmas.{one_more_settled, text_push}
use Rattle.afdx_serve.proofs.outputs.settle_texts.Goals as goal

pub loop-place-preserved : goal.loop-place-preserved
loop-place-preserved g c =
    let i = c.loop-place.place in
    let was = c.loop-place.invariant in
    let texts = c.args.texts.now in
    let lt : i < length c.args.names.now = search rules in
    let within : i < length texts = let many = c.requires in omega (arith, lt, many) in
    let seen : Vec ℕ Global → _ = λ text. text.items in
    let pushed = c.push_reserved.ensures.items in
    let text = mapped seen texts i c.index-texts-place.result within ∙ ap (λ b. Some b) (ap seen (sym c.index-texts-place.is) ∙ sym c.deref-in-loop-place.ensures.value) in
    record {
      many = ap length pushed ∙ length-append c.loop-place.settled.items (c.in-Ok.new ∷ []) ∙ ap (λ n. n + 1) was.many;
      room = let room = was.room in let same = c.push_reserved.ensures.capacity in omega (arith, room, same);
      have = subst (λ fs. HaveBytes g.F.New.NewFile.contents (g.F.Folder.files c.args.folder.now) fs (map seen texts)) (sym pushed)
          (text_push g.F.New.NewFile.contents _ _ c.loop-place.settled.items c.in-Ok.new (map seen texts) _ was.same was.have (ap (λ n. slice_get (map seen texts) n) was.many ∙ text)
          c.in-Ok.ensures.settled.0);
      same = KeepsFiles-trans _ _ _ was.same c.in-Ok.ensures.same;
      failed = one_more_settled i _ _ _ was.failed c.in-Ok.ensures.settled.1;
    }

pub returns-in-Err-clause-settled : goal.returns-in-Err-clause-settled
returns-in-Err-clause-settled g c =
    let i = c.loop-place.place in
    let names = c.args.names.now in
    let lt : i < length names = search rules in
    let str : String Global → _ = λ s. string_bytes s in
    subst (λ l. FailsToSettle c.in-Err.failure (map str names) (g.F.Folder.failed c.args.folder.now) l) (sym c.abandon_all.ensures.failed)
    (not_settled c.in-Err.failure c.deref.result.now (map str names) i _ _ _
    (mapped str names i c.index-names-place.result lt ∙ ap (λ n. Some n) (ap str (sym c.index-names-place.is) ∙ sym c.deref.ensures))
    c.loop-place.invariant.failed c.in-Err.ensures.settled)
