use Rattle.std.proofs.Common.{◌≡◌, ◌++◌, ◌∙◌, List, length, map, take, drop, refl, ap, arith}
use Rattle.afdx_network.specs.Inner.Outputs.{Output, all_gone, gone_in, HaveGone}
use Rattle.afdx_network.proofs.Answering.{written_back}
use Rattle.afdx_network.proofs.Handed.{on_ok, both_ok, left_stays, as_many_gone, gone_of_all}
use Rattle.afdx_network.proofs.site.Site.hand_over.Goals as goal

pub returns-clause-same : goal.returns-clause-same
returns-clause-same g c =
    let outputs = c.self.inside.outputs in
    let old = outputs.items in
    let new = c.hand_over_all.new.outputs in
    let long = outputs.ok.0 in
    let kept = c.hand_over_all.auto.outputs ∙ ap (λ (xs : List Output). length xs) c.deref_mut.ensures.value in
    let back = written_back old new outputs.len kept (omega (arith, long)) in
    let put = take outputs.len (new ++ drop (length new) old) in
    let all = rw c.deref_mut.ensures.value at c.hand_over_all.ensures.all in
    rw (← c.self.view_is)
    (on_ok (new ≡ map all_gone old) _ c.hand_over_all.result all
    (λ is. record { paced = refl; left = left_stays old put (back ∙ is); next = refl; long = as_many_gone old put (back ∙ is) }))

pub returns-clause-gone : goal.returns-clause-gone
returns-clause-gone g c =
    let outputs = c.self.inside.outputs in
    let old = outputs.items in
    let new = c.hand_over_all.new.outputs in
    let long = outputs.ok.0 in
    let kept = c.hand_over_all.auto.outputs ∙ ap (λ (xs : List Output). length xs) c.deref_mut.ensures.value in
    let back = written_back old new outputs.len kept (omega (arith, long)) in
    let put = take outputs.len (new ++ drop (length new) old) in
    let files = c.hand_over_all.new.files in
    let contents = g.F.NewFile.contents in
    let all = rw c.deref_mut.ensures.value at c.hand_over_all.ensures.all in
    let gone = rw c.deref_mut.ensures.value at c.hand_over_all.ensures.gone in
    rw (← c.self.view_is) (λ start have.
    both_ok (new ≡ map all_gone old) _ (HaveGone contents start files (gone_in put)) c.hand_over_all.result all (gone start have)
    (λ is has. gone_of_all contents start files old put (back ∙ is) has))
