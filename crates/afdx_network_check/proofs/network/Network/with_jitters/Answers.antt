use Rattle.std.proofs.Common.{◌≡◌, ◌≤◌, ap, sym, ◌∙◌, length, List}
use Rattle.std.proofs.lemmas.List.{drop_all}
use Rattle.afdx_table.specs.Content.{Content}
use Rattle.afdx_wiring.specs.File.{Layout}
use Rattle.afdx_network_check.specs.declared.jitters.RowNeed.{RowNeed}
use Rattle.afdx_network_check.specs.Order.{lost_port}
use Rattle.afdx_network_check.specs.Inner.Given.{given_all}
use Rattle.afdx_network_check.proofs.GivenPorts.{given_ports}
use Rattle.afdx_network_check.proofs.network.Network.with_jitters.Goals as goal

pub from_parts-requires : goal.from_parts-requires
from_parts-requires c =
    let net = c.args.self in
    let needs = c.args.needs.now in
    let parts = c.into_parts-layout.ensures.parts in
    let layout = c.into_parts-layout.result.0 in
    let over : length c.args.needs.now ≤ c.loop-row.row-index = c.loop-row-test.false in
    let none = drop_all c.loop-row.row-index c.args.needs.now over in
    let done : c.loop-row.tables.items ≡ given_all c.args.needs.now c.into_parts-layout.result.1.items
    = ap (λ (ns : List RowNeed). given_all ns c.loop-row.tables.items) (sym none) ∙ c.loop-row.invariant in
    ap (λ (ts : List Content). lost_port ts layout.wires) done
    ∙ ap (λ (ts : List Content). lost_port (given_all needs ts) layout.wires) parts.1
    ∙ ap (λ (l : Layout). lost_port (given_all needs net.tables) l.wires) parts.0
    ∙ given_ports needs net
    ∙ c.into_parts-layout.ensures.ports
