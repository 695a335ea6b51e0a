use Rattle.std.proofs.Common.{rules, ◌≡◌, ◌+◌, ◌∙◌, ◌<◌, ◌∷◌, ◌++◌, [], String, Global, Some, length, map, slice_get, string_bytes, subst, sym, ap, arith}
use Rattle.std.specs.Prelude.{option_to_list}
use Rattle.std.specs.Vec.Iter.{into_iter_items}
use Rattle.std.proofs.lemmas.List.{length-append}
use Rattle.afdx_serve.specs.Inner.Outputs.{HaveBytes, FailsToSettle}
use Rattle.afdx_serve.proofs.CaptureLemmas.{mapped, not_settled}
use Rattle.afdx_serve.proofs.FileLemmas.{KeepsFiles-trans}
use Rattle.afdx_serve.proofs.PutLemmas.{next_left, one_more_settled, taken_push}
use Rattle.afdx_serve.proofs.outputs.settle_all.Goals as goal

pub loop-name-preserved : goal.loop-name-preserved
loop-name-preserved g c =
    let i = c.loop-name.name-index in
    let was = c.loop-name.invariant in
    let left : into_iter_items c.loop-name.files ≡ c.unwrap-new.result ∷ into_iter_items c.next.new.self =
    c.next.ensures.items ∙ ap (λ o. option_to_list o ++ into_iter_items c.next.new.self) c.unwrap-new.ensures in
    let next = next_left c.args.files.items i c.unwrap-new.result (into_iter_items c.next.new.self) (sym was.left ∙ left) in
    let pushed = c.push_reserved.ensures.items in
    record {
      left = sym next.1;
      count =
          let count = was.count in
          let fewer = c.next.ensures.len in
          let one = ap (λ o. length (option_to_list o)) c.unwrap-new.ensures in
          let more = ap length left in
          omega (arith, count, fewer, one, more);
      many = ap length pushed ∙ length-append c.loop-name.settled.items (c.in-Ok-settle.new ∷ []) ∙ ap (λ n. n + 1) was.many;
      room = let room = was.room in let same = c.push_reserved.ensures.capacity in omega (arith, room, same);
      have = λ first all has. subst (λ fs. HaveBytes g.F.New.NewFile.contents first fs all) (sym pushed)
          (taken_push g.F.New.NewFile.contents first c.args.files.items c.loop-name.settled.items c.unwrap-new.result c.in-Ok-settle.new all has (was.have first all has)
          (ap (λ n. slice_get c.args.files.items n) was.many ∙ next.0) c.in-Ok-settle.ensures.settled.0);
      same = KeepsFiles-trans _ _ _ was.same c.in-Ok-settle.ensures.same;
      failed = one_more_settled i _ _ _ was.failed c.in-Ok-settle.ensures.settled.1;
    }

pub returns-in-Err-clause-settled : goal.returns-in-Err-clause-settled
returns-in-Err-clause-settled g c = λ first all has.
    let i = c.loop-name.name-index in
    let names = c.args.names.now in
    let lt : i < length names = search rules in
    let str : String Global → _ = λ s. string_bytes s in
    let log = c.abandon_all-in-Err-2.ensures.failed ∙ c.abandon_all-in-Err.ensures.failed in
    subst (λ l. FailsToSettle c.in-Err.failure (map str names) (g.F.Folder.failed c.args.folder.now) l) (sym log)
    (not_settled c.in-Err.failure c.deref.result.now (map str names) i _ _ _ (mapped str names i c.name-item.result lt ∙ ap (λ n. Some n) (ap str (sym c.name-item.is) ∙ sym c.deref.ensures))
    c.loop-name.invariant.failed c.in-Err.ensures.settled)

pub returns-in-Err-clause-same : goal.returns-in-Err-clause-same
returns-in-Err-clause-same g c = KeepsFiles-trans _ _ _ (KeepsFiles-trans _ _ _ c.loop-name.invariant.same c.in-Err.ensures.same)
    (KeepsFiles-trans _ _ _ c.abandon_all-in-Err.ensures.same c.abandon_all-in-Err-2.ensures.same)
