use Rattle.std.proofs.Common.{◌≡◌, string_bytes, slice_get, Some, sym, ap, subst, ◌∙◌}
use Rattle.std.specs.Option.{option_copied}
use Rattle.afdx_table.specs.Content.{Content}
use Rattle.afdx_measure.specs.Report.{link_lines}
use Rattle.afdx_measure.proofs.Reported.{lines_more}
use Rattle.afdx_measure.proofs.reporting.put_links.Goals as goal

pub loop-place-preserved : goal.loop-place-preserved
loop-place-preserved g c =
    let r = c.args.measures.now.run in
    let here = subst (λ (t : Content). slice_get t.links c.loop-place.place ≡ Some c.unwrap.result.now) c.table-table.ensures (sym c.link_at.ensures.link ∙ ap option_copied c.unwrap.ensures) in
    lines_more (link_lines c.args.promised r) r.table.links c.loop-place.place c.unwrap.result.now (string_bytes c.args.text.now) (string_bytes c.loop-place.text) (string_bytes c.put_link.new.text)
    here c.in_ok-put_link.ensures c.loop-place.invariant
