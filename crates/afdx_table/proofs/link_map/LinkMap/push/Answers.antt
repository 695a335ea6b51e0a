use Rattle.std.proofs.Common.{◌≡◌, ◌<◌, ◌+◌, ◌∙◌, ap, sym, subst, set, length, List, arith, rules}
use Rattle.afdx_table.specs.Link.{Link}
use Rattle.afdx_table.specs.Links.{has_link}
use Rattle.afdx_table.specs.Inner.Places.{LeadTo}
use Rattle.afdx_table.proofs.PlaceLemmas.{still_lead, leads-push}
use Rattle.afdx_table.proofs.link_map.LinkMap.push.Goals as goal

pub invariant_of-self-2 : goal.invariant_of-self-2
invariant_of-self-2 c =
    let rows = c.self.inside.rows.items in
    let places = c.fill.new.places.items in
    let lead = still_lead c.self.inside.places.items places rows c.in_ok-fill.ensures.same c.self.invariant in
    let fresh = ap (λ (links : List Link). has_link links c.args.row.id) c.self.view_is ∙ c.requires.fresh in
    let number = c.from.ensures ∙ ap (λ (l : Link). l.id) c.row.view_is in
    let long = c.in_ok-fill.ensures.long in
    let inside : c.from.result < length places = search (rules, long) in
    let count : c.len.result ≡ length rows + 1 = omega (arith, c.len.ensures, c.in_ok-push.ensures.len) in
    subst (λ (links : List Link). LeadTo (set places c.from.result c.len.result) links) (sym c.in_ok-push.ensures.items)
    (leads-push places rows c.args.row c.from.result c.len.result lead fresh number inside count)
