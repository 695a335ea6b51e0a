use Rattle.std.proofs.Common.{rules, ◌≡◌, Some}
use Rattle.afdx_network_check.specs.Net.{ingress, wire_to}
use Rattle.afdx_network_check.specs.Order.{row_of, row_before}
use Rattle.afdx_network_check.specs.Inner.Walks.{IsWayTo}
use Rattle.afdx_network_check.proofs.WayLemmas.{from_wire}
use Rattle.afdx_network_check.proofs.hops.Hops.+way_to.Goals as goal

pub lengthen-requires-clause-hop : goal.lengthen-requires-clause-hop
lengthen-requires-clause-hop t c =
    let found : row_before c.args.self.now (row_of c.args.row).link.id c.in-Some-wire_to.wire.now ≡ Some (row_of c.in-Some-row_before.before) = search rules in
    c.requires.hops (row_of c.args.row).link.id c.in-Some-wire_to.wire.now (row_of c.in-Some-row_before.before) found

pub returns-in_ok-lengthen-in-Some-2-clause-way : goal.returns-in_ok-lengthen-in-Some-2-clause-way
returns-in_ok-lengthen-in-Some-2-clause-way t c =
    let is : wire_to c.args.self.now (ingress (row_of c.args.row)) ≡ Some c.in-Some-wire_to.wire.now = search rules in
    let found : row_before c.args.self.now (row_of c.args.row).link.id c.in-Some-wire_to.wire.now ≡ Some (row_of c.in-Some-row_before.before) = search rules in
    let way : IsWayTo c.args.self.now (row_of c.in-Some-row_before.before) c.in-Some-2.way = search rules in
    from_wire c.args.self.now (row_of c.args.row) (row_of c.in-Some-row_before.before) c.in-Some-wire_to.wire.now c.in-Some-2.way _ is found way c.in_ok-lengthen-in-Some-2.ensures.way
