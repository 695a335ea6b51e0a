use Rattle.std.proofs.Common.{subst, ap, ◌∙◌, map, List}
use Rattle.afdx_count.specs.declared.ports.PortTally.{PortTally}
use Rattle.afdx_count.specs.Inner.Places.{LeadTo}
use Rattle.afdx_count.specs.Tally.{new_port}
use Rattle.afdx_count.proofs.Numbered.{ports_once}
use Rattle.afdx_count.proofs.Placed.{first_ones, made_index}
use Rattle.afdx_count.proofs.ports.Ports.new.Goals as goal

pub invariant_of-result : goal.invariant_of-result
invariant_of-result g c =
    let old = c.in_ok-tallies.tallies.items in
    made_index (λ (p : PortTally). p.id) c.places_of-places.result c.len-count.result old c.push.new.self.items c.new.result
    (c.len-count.ensures ∙ c.in_ok-tallies.tallies.ok.0) c.in_ok-push.ensures.items
    (subst (λ (ts : List PortTally). LeadTo c.places_of-places.result (map (λ (p : PortTally). p.id) ts)) c.deref.ensures.value c.places_of-places.ensures)
    (ports_once c.ports_are_distinct.ensures c.args.table.now.ports c.ports.result.now old c.ports.ensures.well_formed.ports_rise c.ports.ensures.ports c.in_ok-tallies.ensures)

pub returns : goal.returns
returns g c =
    first_ones (λ (p : PortTally). p.id) c.len-count.result c.in_ok-tallies.tallies.items c.push.new.self.items c.new.result
    (c.len-count.ensures ∙ c.in_ok-tallies.tallies.ok.0) c.in_ok-push.ensures.items
    ∙ c.in_ok-tallies.ensures ∙ ap (map new_port) c.ports.ensures.ports
