use Rattle.std.proofs.Common.{◌∙◌, ap}
use Rattle.afdx_network_check.specs.Order.{row_of, most_rows, way_within, short_after}
use Rattle.afdx_network_check.proofs.hops.Hops.short_at.Goals as goal

pub returns : goal.returns
returns c =
    let r = row_of c.args.row in
    c.short_after.ensures ∙ ap (short_after r) (c.way_within.ensures.way ∙ ap (way_within most_rows c.args.self.now r) c.none.ensures)
