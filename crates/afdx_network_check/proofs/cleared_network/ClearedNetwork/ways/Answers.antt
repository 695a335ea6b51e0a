use Rattle.std.proofs.Common.{◌≡◌, ◌∙◌, sym, subst, List}
use Rattle.std.specs.Prelude.{All, IfErr}
use Rattle.std.specs.List.Sorted.{IsPermutation}
use Rattle.afdx_table.specs.WellFormed.{IsWellFormed}
use Rattle.afdx_network_check.specs.declared.exit.Exit.{Exit}
use Rattle.afdx_network_check.specs.Net.{Network}
use Rattle.afdx_network_check.specs.Ways.{exits_of, IsWayFault}
use Rattle.afdx_network_check.specs.Inner.Walks.{HopsAreThere, HasRow}
use Rattle.afdx_network_check.proofs.WaysThere.{hops_are_there, exits_have_rows, if_err}
use Rattle.afdx_network_check.proofs.cleared_network.ClearedNetwork.ways.Goals as goal

pub ways_out-requires-clause-hops : goal.ways_out-requires-clause-hops
ways_out-requires-clause-hops c =
    let is : c.in_ok-hops.hops ≡ c.args.self.now = c.in_ok-hops.ensures.network ∙ c.network.ensures.network in
    let formed = subst (λ (n : Network). All IsWellFormed n.tables) c.network.ensures.network c.in_ok-hops.ensures.well_formed in
    subst HopsAreThere (sym is)
    (hops_are_there c.links_are_found.ensures c.high_links_leave_a_part.ensures c.bounds_are_no_more.ensures c.args.self.now formed c.network.ensures.switches)

pub ways_out-requires-clause-rows : goal.ways_out-requires-clause-rows
ways_out-requires-clause-rows c =
    let is : c.in_ok-hops.hops ≡ c.args.self.now = c.in_ok-hops.ensures.network ∙ c.network.ensures.network in
    let formed = subst (λ (n : Network). All IsWellFormed n.tables) c.network.ensures.network c.in_ok-hops.ensures.well_formed in
    let all = subst (λ (n : Network). IsPermutation (exits_of n) c.in_ok-exits.exits.items) c.network-2.ensures.network c.in_ok-exits.ensures.all in
    subst (λ (exits : List Exit). All (HasRow c.in_ok-hops.hops) exits) (sym c.deref.ensures.value)
    (subst (λ (n : Network). All (HasRow n) c.in_ok-exits.exits.items) (sym is)
    (exits_have_rows c.links_are_found.ensures c.args.self.now formed c.in_ok-exits.exits.items all))

pub returns-clause-fits : goal.returns-clause-fits
returns-clause-fits c =
    let is : c.in_ok-hops.hops ≡ c.args.self.now = c.in_ok-hops.ensures.network ∙ c.network.ensures.network in
    let given = subst (λ (n : Network). IfErr c.ways_out.result (IsWayFault n)) is c.ways_out.ensures.err in
    λ fits. if_err c.args.self.now c.ways_out.result fits given
