use Rattle.std.proofs.Common.{◌∙◌, ap, sym}
use Rattle.afdx_network_check.specs.Net.{Network}
use Rattle.afdx_network_check.specs.Order.{row_of, most_rows, source_within, way_within}
use Rattle.afdx_network_check.specs.Needs.{first_needed, needed, row_with_need, need_in}
use Rattle.afdx_network_check.proofs.hops.Hops.need_in.Goals as goal

pub returns-then-start : goal.returns-then-start
returns-then-start c =
    let r = row_of c.args.row in
    c.row_with_need.ensures
    ∙ ap (row_with_need r) (c.first_needed.ensures ∙ ap first_needed (c.source_within-source.ensures ∙ ap (λ (n : Network). source_within most_rows n r) c.network.ensures))
    ∙ ap (λ b. need_in b c.args.self.now r) (sym c.if-start.true)

pub returns : goal.returns
returns c =
    let r = row_of c.args.row in
    c.row_with_need-2.ensures
    ∙ ap (row_with_need r) (c.needed.ensures ∙ ap needed (c.way_within-far.ensures.way ∙ ap (way_within most_rows c.args.self.now r) c.none.ensures))
    ∙ ap (λ b. need_in b c.args.self.now r) (sym c.if-start.false)
