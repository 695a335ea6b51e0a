use Rattle.std.proofs.Common.{rules, ◌+◌, ◌<◌, ◌∙◌, ◌∷◌, [], ap, sym, subst, length, map, String, Global, string_bytes, arith}
use Rattle.std.proofs.lemmas.List.{length-append}
use Rattle.afdx_folder.specs.Files.{IsCause}
use Rattle.afdx_serve.proofs.FileLemmas.{KeepsFiles-trans}
use Rattle.afdx_serve.proofs.GivenLemmas.{not_got_named}
use Rattle.afdx_serve.proofs.LeadLemmas.{opened_next, next_unopened}
use Rattle.afdx_serve.proofs.get.open_all.Goals as goal

pub loop-name-preserved : goal.loop-name-preserved
loop-name-preserved g c =
    let was = c.loop-name.invariant in
    let pushed = c.push_reserved.ensures.items in
    let names = c.args.names.now in
    let within : c.loop-name.name-index < length names = search rules in
    let str : String Global → _ = λ s. string_bytes s in
    record {
      count = ap length pushed ∙ length-append c.loop-name.opened.items (c.in-Ok.file ∷ []) ∙ ap (λ n. n + 1) was.count;
      room = let room = was.room in let same = c.push_reserved.ensures.capacity in omega (arith, room, same);
      opened = opened_next str g.F.Opened.Read.remaining _ _ names c.loop-name.name-index c.name-item.result c.deref.result.now c.loop-name.opened.items c.push_reserved.new.self.items c.in-Ok.file
          within was.same was.opened (c.deref.ensures ∙ ap str c.name-item.is) c.in-Ok.ensures.bytes pushed;
      same = KeepsFiles-trans _ _ _ was.same c.in-Ok.ensures.same;
      failed = c.in-Ok.ensures.cause ∙ was.failed;
    }

pub returns-in-Err-clause-opened : goal.returns-in-Err-clause-opened
returns-in-Err-clause-opened g c =
    let i = c.loop-name.name-index in
    let was = c.loop-name.invariant in
    let names = c.args.names.now in
    let lt : i < length names = search rules in
    let str : String Global → _ = λ s. string_bytes s in
    not_got_named c.get_failure.result (g.F.Folder.files c.args.folder.now) c.deref-in-Err.result.now (map str names) _ _ _ was.failed (c.get_failure.ensures.got _ _
    (subst (λ n. IsCause c.in-Err.fault n (g.F.Folder.failed c.loop-name.folder) (g.F.Folder.failed c.open.new.self)) (c.deref.ensures ∙ sym c.deref-in-Err.ensures) c.in-Err.ensures.cause))
    (next_unopened str g.F.Opened.Read.remaining _ names i c.name-item.result c.deref-in-Err.result.now c.loop-name.opened.items lt was.opened (c.deref-in-Err.ensures ∙ ap str c.name-item.is))
