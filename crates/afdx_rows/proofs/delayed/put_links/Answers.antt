use Rattle.std.proofs.Common.{◌≡◌, string_bytes, slice_get, Some, sym, ap, subst, ◌∙◌}
use Rattle.std.specs.Option.{option_copied}
use Rattle.afdx_table.specs.Content.{Content}
use Rattle.afdx_rows.specs.Delays.{link_rows}
use Rattle.afdx_rows.proofs.Columns.{names_in}
use Rattle.afdx_rows.proofs.Gathering.{one_more}
use Rattle.afdx_rows.proofs.delayed.put_links.Goals as goal

pub loop-place-preserved : goal.loop-place-preserved
loop-place-preserved g c =
    let r = c.args.measures.now.run in
    let here = subst (λ (t : Content). slice_get t.links c.loop-place.place ≡ Some c.unwrap-link.result.now) c.table-table.ensures
    (sym c.link_at.ensures.link ∙ ap option_copied c.unwrap-link.ensures) in
    one_more (link_rows (names_in c.args.columns.now) c.args.promised r) r.table.links c.loop-place.place c.unwrap-link.result.now (string_bytes c.args.text.now) (string_bytes c.loop-place.text)
    (string_bytes c.put_link.new.text) here c.in_ok-put_link.ensures c.loop-place.invariant
