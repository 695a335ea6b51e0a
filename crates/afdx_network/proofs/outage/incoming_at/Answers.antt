use Rattle.std.proofs.Common.{rules, ◌≡◌, ◌∙◌, ◌++◌, ◌∷◌, [], Bool, length, get_or, slice_get, append_assoc, arith, ap, sym, subst}
use Rattle.std.specs.Vec.Iter.{into_iter_items}
use Rattle.std.proofs.lemmas.Option.{slice_get-get_or}
use Rattle.afdx_wiring.specs.File.{Layout, is_down}
use Rattle.afdx_wiring.specs.declared.layout.End.{End}
use Rattle.afdx_network.specs.Outage.{comes, AreComing}
use Rattle.afdx_network.proofs.Coming.{one_coming, next_end}
use Rattle.afdx_network.proofs.outage.incoming_at.Goals as goal

pub loop-reader-preserved : goal.loop-reader-preserved
loop-reader-preserved g c =
    let rem = g.R.Read.remaining in
    let at = c.loop-reader in
    let inv = at.invariant in
    let r = c.in-Some.reader in
    let rest = into_iter_items c.next.new.self in
    let ends = c.args.ends.now in
    let layout = c.args.network.now.layout in
    let k = c.len-in-loop-reader.result in
    let e : End = get_or ends k (record { switch = 0; port = 0 }) in
    let steps : into_iter_items at.reader-iterator ≡ r ∷ rest = c.in-Some.ensures.steps.0 in
    let whole = append_assoc at.yielded (r ∷ []) rest ∙ ap (λ ys. at.yielded ++ ys) (sym steps) ∙ inv.whole in
    let count : k ≡ length at.all.items = search rules in
    let many = inv.come.many in
    let lt = next_end at.yielded rest c.args.readers.items r at.all.items ends
    (ap (λ ys. at.yielded ++ ys) (sym steps) ∙ inv.whole ∙ c.into_iter-reader-iterator.ensures.into_iter_gives.0) many c.requires in
    let here = ap (λ n. slice_get ends n) (sym count) ∙ slice_get-get_or ends k (record { switch = 0; port = 0 }) (omega (arith, lt, count)) in
    let one = c.in_ok-heard.ensures ∙ ap (λ (b : Bool). comes rem b r) (c.is_down-is_down.ensures ∙ ap (λ (l : Layout). is_down l.switches e.switch) c.layout-layout.ensures.layout) in
    record {
      whole = whole;
      left = let was = inv.left in let gone = c.in-Some.ensures.steps.1 in let short = ap (λ ys. length ys) steps in omega (arith, was, gone, short);
      come = subst (AreComing rem layout ends (at.yielded ++ r ∷ [])) (sym c.in_ok-push.ensures.items) (one_coming rem layout ends at.yielded at.all.items e r c.in_ok-heard.field-0 inv.come here one);
    }
