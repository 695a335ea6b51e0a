use Rattle.std.proofs.Common.{sym}
use Rattle.afdx_origins.proofs.Lacking.{no_table, no_link, nothing_at}
use Rattle.afdx_origins.proofs.Rows.{row_there}
use Rattle.afdx_origins.proofs.origins.row_at.Goals as goal

pub returns-in_err-table : goal.returns-in_err-table
returns-in_err-table c = rw c.from_residual.ensures (no_table c.args.network.now c.args.switch c.args.link (sym c.in_err-table.ensures))

pub returns-in_err-place : goal.returns-in_err-place
returns-in_err-place c =
    rw c.from_residual-in_err-place.ensures (no_link c.args.network.now c.args.switch c.args.link c.in_ok-table.table.now (sym c.in_ok-table.ensures)
    (c.links_are_at_their_places.ensures.none c.in_ok-table.table.now c.args.link (sym c.in_err-place.ensures.place)))

pub returns-in_err-row : goal.returns-in_err-row
returns-in_err-row c =
    rw c.from_residual-in_err-row.ensures (nothing_at c.links_are_at_their_places.ensures c.args.network.now c.args.switch c.args.link c.in_ok-place.place c.in_ok-table.table.now
    (sym c.in_ok-table.ensures) (sym c.in_ok-place.ensures.place) (sym c.in_err-row.ensures.link))

pub returns : goal.returns
returns c =
    row_there c.links_are_found.ensures c.links_are_at_their_places.ensures c.args.network.now c.args.switch c.args.link c.in_ok-place.place c.in_ok-table.table.now c.in_ok-row.row.now
    (sym c.in_ok-table.ensures) c.in_ok-place.ensures.well_formed (sym c.in_ok-place.ensures.place) (sym c.in_ok-row.ensures.link)
