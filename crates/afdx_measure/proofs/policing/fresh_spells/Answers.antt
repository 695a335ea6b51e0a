use Rattle.std.proofs.Common.{◌≡◌, ℕ, List, [], ◌∷◌, length, slice_get, Some, arith, ap, sym, ◌∙◌}
use Rattle.std.specs.Option.{option_copied}
use Rattle.std.proofs.lemmas.List.{length-append}
use Rattle.std.proofs.lemmas.Option.{slice_get_within}
use Rattle.afdx_units.specs.Time.{bag_ns}
use Rattle.afdx_table.specs.Link.{Link}
use Rattle.afdx_spells.specs.Spells.{Noted}
use Rattle.afdx_measure.proofs.Fresh.{each_pushed, new_spells, no_spells}
use Rattle.afdx_measure.proofs.policing.fresh_spells.Goals as goal

pub loop-place-preserved : goal.loop-place-preserved
loop-place-preserved g c =
    let items = c.loop-place.all.items in
    let links = c.args.table.now.links in
    let l = c.unwrap-link.result.now in
    let long = ap (λ (xs : List Noted). length xs) c.in_ok-push.ensures.items ∙ length-append items (c.new.result ∷ []) in
    let there : slice_get links c.loop-place.place ≡ Some l = sym c.link_at.ensures.link ∙ ap option_copied c.unwrap-link.ensures in
    let gap : c.new.result.gap ≡ bag_ns l.bag = c.new.ensures.gap ∙ c.ns.ensures.value ∙ ap (λ (x : Link). bag_ns x.bag) c.link.view_is in
    record {
      many = omega (arith, long, c.loop-place.invariant.many);
      each = each_pushed (λ (i : ℕ) (n : Noted). (m : Link) → slice_get links i ≡ Some m → (n.gap ≡ bag_ns m.bag) × (n.spells ≡ [])) items c.push.new.self.items c.new.result
          c.in_ok-push.ensures.items c.loop-place.invariant.each
          (λ m here. new_spells links c.loop-place.place (length items) l m c.new.result gap c.new.ensures.none there c.loop-place.invariant.many here);
    }

pub returns : goal.returns
returns g c =
    let many : length c.loop-place.all.items ≡ length c.args.table.now.links
    = omega (arith, c.loop-place.invariant.many, c.loop-place-test.false, c.loop-place.auto.place-end, c.link_count-place-end.ensures.count) in
    record {
      formed = c.link_count-place-end.ensures.well_formed;
      spells = record {
        many = many;
        each = λ k l d here.
            let w = slice_get_within c.args.table.now.links k l here in
            let e = c.loop-place.invariant.each k d (omega (arith, w, many)) l here in
            (e.0, e.1 ∙ sym (no_spells (bag_ns l.bag)));
      };
    }
