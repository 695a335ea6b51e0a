use Rattle.std.proofs.Common.{◌≡◌, ℕ, suc, List, Some, take, arith, sym, ap, subst, ◌∙◌, add-one}
use Rattle.std.specs.Prelude.{option_copied, slice_get}
use Rattle.afdx_following.specs.Watched.{Watched}
use Rattle.afdx_compare.specs.Comparison.{AreFirstOf}
use Rattle.afdx_compare.proofs.Making.{first_more, first_all, some_there}
use Rattle.afdx_compare.proofs.comparison.links_of.Goals as goal

pub loop-place-preserved : goal.loop-place-preserved
loop-place-preserved g c =
    let m = c.args.making.now in
    let t = m.table.now in
    let place = c.loop-place.place in
    let l = c.unwrap-link.result.now in
    let get : slice_get t.links place ≡ Some l = sym c.link_at.ensures.link ∙ ap option_copied c.unwrap-link.ensures in
    let step = first_more m.watch t m.outputs m.keeps t.links c.loop-place.links.items place l c.in_ok-made.made get c.in_ok-made.ensures c.loop-place.invariant in
    subst (λ (k : ℕ). AreFirstOf m.watch t m.outputs m.keeps (take k t.links) c.push.new.self.items) (sym (add-one place))
    (subst (λ (fs : List Watched). AreFirstOf m.watch t m.outputs m.keeps (take (suc place) t.links) fs) (sym c.in_ok-push.ensures.items) step)

pub returns : goal.returns
returns g c =
    let m = c.args.making.now in
    let t = m.table.now in
    first_all m.watch t m.outputs m.keeps t.links c.loop-place.links.items c.loop-place.place (omega (arith, c.link_count-place-end.ensures.count)) c.loop-place.invariant

pub unwrap-link-requires : goal.unwrap-link-requires
unwrap-link-requires g c =
    some_there c.args.making.now.table.now.links c.loop-place.place c.link_at.result c.link_at.ensures.link (omega (arith, c.loop-place-test.true, c.link_count-place-end.ensures.count))
