use Rattle.std.proofs.Common.{◌≡◌, ◌∷◌, ◌++◌, [], length, sym, refl, ap, subst, ◌∙◌, arith}
use Rattle.std.specs.Prelude.{option_to_list, IfSome}
use Rattle.std.specs.Io.KnownBytes.{Appends}
use Rattle.std.specs.Vec.Iter.{into_iter_items}
use Rattle.std.proofs.lemmas.List.{length-set}
use Rattle.afdx_serve.proofs.FileLemmas.{KeepsFiles-refl, KeepsFiles-trans}
use Rattle.afdx_serve.proofs.JoinLemmas.{starts, joins_next, on_ok}
use Rattle.afdx_serve.proofs.trace.join_all.Goals as goal

pub loop-part-init : goal.loop-part-init
loop-part-init g c =
    let a = c.unwrap.result in
    let b = c.unwrap-2.result in
    let left : into_iter_items c.into_iter-files.result ≡ a ∷ into_iter_items c.next.new.self =
    c.next.ensures.items ∙ ap (λ o. option_to_list o ++ into_iter_items c.next.new.self) c.unwrap.ensures in
    let later : into_iter_items c.next.new.self ≡ b ∷ into_iter_items c.next-2.new.self =
    c.next-2.ensures.items ∙ ap (λ o. option_to_list o ++ into_iter_items c.next-2.new.self) c.unwrap-2.ensures in
    let files = sym c.into_iter-files.ensures.rest ∙ left ∙ ap (λ more. a ∷ more) later in
    let both : c.push_reserved-2.new.self.items ≡ a ∷ b ∷ [] =
    c.push_reserved-2.ensures.items ∙ ap (λ more. more ++ b ∷ []) (c.push_reserved.ensures.items ∙ ap (λ more. more ++ a ∷ []) c.in-Ok.ensures.items) in
    record {
      count =
          let start = c.into_iter-files.ensures.len in
          let own = c.args.files.ok.0 in
          let fewer = c.next.ensures.len in
          let one = ap (λ o. length (option_to_list o)) c.unwrap.ensures in
          let again = c.next-2.ensures.len in
          let two = ap (λ o. length (option_to_list o)) c.unwrap-2.ensures in
          let more = ap length files in
          omega (arith, start, own, fewer, one, again, two, more);
      two = ap length both;
      joining = λ first arrivals departures parts many has.
          starts g.F.New.NewFile.contents first arrivals departures parts a b (into_iter_items c.next-2.new.self) c.args.files.items c.push_reserved-2.new.self.items files both many has;
      same = KeepsFiles-refl _;
      failed = refl;
    }

pub returns-then-is_err-clause-same : goal.returns-then-is_err-clause-same
returns-then-is_err-clause-same g c = KeepsFiles-trans _ _ _ (KeepsFiles-trans _ _ _ c.loop-part.invariant.same c.join.ensures.same)
    (KeepsFiles-trans _ _ _ c.abandon_all-then-is_err.ensures.same c.abandon_all-then-is_err-2.ensures.same)

pub loop-part-preserved : goal.loop-part-preserved
loop-part-preserved g c =
    let contents = g.F.New.NewFile.contents in
    let was = c.loop-part.invariant in
    let part = c.in-Some.part in
    let n = c.join.new.new in
    let old = c.loop-part.both.items in
    let left : into_iter_items c.loop-part.files ≡ part ∷ into_iter_items c.next-in-loop-part.new.self =
    c.next-in-loop-part.ensures.items ∙ ap (λ o. option_to_list o ++ into_iter_items c.next-in-loop-part.new.self) c.in-Some.is in
    let appended = on_ok (IfSome (contents part) (λ bytes. Appends (contents c.index_mut.result.now) (contents n) bytes)) c.join.result c.join.ensures.bytes
    (sym c.is_err.ensures.value ∙ c.if-is_err.false) in
    record {
      count =
          let count = was.count in
          let fewer = c.next-in-loop-part.ensures.len in
          let one = ap (λ o. length (option_to_list o)) c.in-Some.is in
          let more = ap length left in
          omega (arith, count, fewer, one, more);
      two = length-set old 1 n ∙ was.two;
      joining = λ first arrivals departures parts many has.
          joins_next contents first arrivals departures parts old _ c.index_mut.result.now n part _ _ was.two refl left
          (subst (λ f. IfSome (contents part) (λ bytes. Appends (contents f) (contents n) bytes)) c.index_mut.ensures.value appended) (was.joining first arrivals departures parts many has);
      same = KeepsFiles-trans _ _ _ was.same c.join.ensures.same;
      failed = c.join.ensures.failed ∙ was.failed;
    }
