use Rattle.std.proofs.Common.{rules, ◌≡◌, ◌∙◌, ◌<◌, ◌∷◌, ◌++◌, String, Global, Some, length, map, string_bytes, sym, ap, arith}
use Rattle.std.specs.Prelude.{option_to_list}
use Rattle.std.specs.Vec.Iter.{into_iter_items}
use Rattle.std.proofs.lemmas.List.{length-map}
use Rattle.afdx_serve.proofs.CaptureLemmas.{mapped}
use Rattle.afdx_serve.proofs.PutLemmas.{next_left, put_next}
use Rattle.afdx_serve.proofs.outputs.move_all.Goals as goal

pub loop-name-preserved : goal.loop-name-preserved
loop-name-preserved g c =
    let i = c.loop-name.name-index in
    let names = c.args.names.now in
    let was = c.loop-name.invariant in
    let lt : i < length names = search rules in
    let left : into_iter_items c.loop-name.files ≡ c.unwrap-new.result ∷ into_iter_items c.next.new.self =
    c.next.ensures.items ∙ ap (λ o. option_to_list o ++ into_iter_items c.next.new.self) c.unwrap-new.ensures in
    let next = next_left c.args.files.items i c.unwrap-new.result (into_iter_items c.next.new.self) (sym was.left ∙ left) in
    let str : String Global → _ = λ s. string_bytes s in
    record {
      left = sym next.1;
      count =
          let count = was.count in
          let fewer = c.next.ensures.len in
          let one = ap (λ o. length (option_to_list o)) c.unwrap-new.ensures in
          let more = ap length left in
          omega (arith, count, fewer, one, more);
      put = λ first all keeps many has. put_next g.F.New.NewFile.contents first _ _ c.args.files.items (map str names) all i c.unwrap-new.result c.deref.result.now next.0
          (mapped str names i c.name-item.result lt ∙ ap (λ n. Some n) (ap str (sym c.name-item.is) ∙ sym c.deref.ensures)) (many ∙ sym (length-map names str)) has
          (was.put first all keeps many has) c.in_default.ensures.put.0;
      failed = c.in_default.ensures.put.1 ∙ was.failed;
    }
