use Rattle.std.proofs.Common.{ℕ, List, [], ◌∷◌, length, arith, ap, subst, ◌∙◌}
use Rattle.std.proofs.lemmas.List.{length-append}
use Rattle.afdx_measure.specs.declared.gauges.AtPort.{AtPort}
use Rattle.afdx_measure.specs.Inner.Gauged.{IsFresh}
use Rattle.afdx_measure.proofs.Fresh.{each_pushed}
use Rattle.afdx_measure.proofs.gauges.ports_of.Goals as goal

pub loop-place-preserved : goal.loop-place-preserved
loop-place-preserved g c =
    let items = c.loop-place.ports.items in
    let links = length c.args.table.now.links in
    let at = c.in_ok-new.field-0 in
    let long = ap (λ (xs : List (AtPort _)). length xs) c.in_ok-push.ensures.items ∙ length-append items (at ∷ []) in
    let here = subst (λ (n : ℕ). IsFresh n at) c.link_count.ensures.count c.in_ok-new.ensures in
    record {
      many = omega (arith, long, c.loop-place.invariant.many);
      each = λ k a lt. each_pushed (λ (i : ℕ) (x : AtPort _). IsFresh links x) items c.push.new.self.items at c.in_ok-push.ensures.items c.loop-place.invariant.each here k a lt;
    }
