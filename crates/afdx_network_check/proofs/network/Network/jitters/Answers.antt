use Rattle.std.proofs.Common.{◌||◌, ◌∙◌, sym, ap, is_some, List}
use Rattle.std.specs.List.{list_all}
use Rattle.afdx_network_check.specs.declared.jitters.RowNeed.{RowNeed}
use Rattle.afdx_network_check.specs.Needs.{past_of, is_met}
use Rattle.afdx_network_check.proofs.Least.{Laws, begins, goes_on, are_needs}
use Rattle.afdx_network_check.proofs.network.Network.jitters.Goals as goal

pub loop-init : goal.loop-init
loop-init c =
    let laws : Laws = record {
      links = c.links_are_found.ensures;
      places = c.links_are_at_their_places.ensures;
      leaves = c.high_links_leave_a_part.ensures;
      once = c.no_more_is_paid_for.ensures;
      less = c.lesser_curves_need_less.ensures;
    } in
    begins laws c.args.self c.with_jitters-network.result c.deref.result.now c.in_ok-first.ensures.well_formed (c.deref.ensures.value ∙ c.in_ok-first.ensures.rows) c.with_jitters-network.ensures

pub loop-preserved : goal.loop-preserved
loop-preserved c =
    let laws : Laws = record {
      links = c.links_are_found.ensures;
      places = c.links_are_at_their_places.ensures;
      leaves = c.high_links_leave_a_part.ensures;
      once = c.no_more_is_paid_for.ensures;
      less = c.lesser_curves_need_less.ensures;
    } in
    goes_on laws c.args.self c.loop.network c.with_jitters-network-in-loop.result c.deref-in-loop-3.result.now c.in_ok-first.ensures.well_formed c.in_ok-rows.ensures.well_formed
    (c.deref-in-loop-3.ensures.value ∙ c.in_ok-rows.ensures.rows) c.with_jitters-network-in-loop.ensures c.loop.invariant

pub returns-then-is_last : goal.returns-then-is_last
returns-then-is_last c =
    let laws : Laws = record {
      links = c.links_are_found.ensures;
      places = c.links_are_at_their_places.ensures;
      leaves = c.high_links_leave_a_part.ensures;
      once = c.no_more_is_paid_for.ensures;
      less = c.lesser_curves_need_less.ensures;
    } in
    are_needs laws c.args.self c.loop.network c.in_ok-rows.rows.items c.first_past-past.result c.in_ok-first.ensures.well_formed c.in_ok-rows.ensures.well_formed c.loop.invariant
    c.in_ok-rows.ensures.rows (c.first_past-past.ensures ∙ ap past_of c.deref-in-loop.ensures.value)
    (sym (c.is_last.ensures ∙ ap (λ (ns : List RowNeed). is_some c.first_past-past.result || list_all is_met ns) c.deref-in-loop-2.ensures.value) ∙ c.if-is_last.true)
