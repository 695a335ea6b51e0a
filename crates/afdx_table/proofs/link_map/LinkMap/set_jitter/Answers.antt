use Rattle.std.proofs.Common.{◌≡◌, get_or, ◌∙◌, ap, sym}
use Rattle.afdx_table.specs.Link.{with_jitter}
use Rattle.afdx_table.specs.contracts.rows.LinkRow.{the_view}
use Rattle.afdx_table.proofs.PlaceLemmas.{rows-jitter}
use Rattle.afdx_table.proofs.link_map.LinkMap.set_jitter.Goals as goal

pub returns : goal.returns
returns c =
    let row = the_view c.behind-self.inside in
    let rows = c.self.inside.rows.items in
    let at_place : row ≡ get_or rows c.args.index row = c.behind-self.view_is ∙ c.index_mut.ensures.value ∙ ap (get_or rows c.args.index) (sym c.behind-self.view_is) in
    rows-jitter rows c.args.index c.args.jitter row at_place ∙ ap (with_jitter c.args.index c.args.jitter) c.self.view_is
