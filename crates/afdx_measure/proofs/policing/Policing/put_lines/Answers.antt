use Rattle.std.proofs.Common.{◌≡◌, string_bytes, slice_get, Some, sym, ap, ◌∙◌}
use Rattle.std.specs.Option.{option_copied}
use Rattle.afdx_table.specs.Link.{Link}
use Rattle.afdx_table.specs.Content.{Content}
use Rattle.afdx_measure.specs.Policing.{spell_lines}
use Rattle.afdx_measure.proofs.Reported.{lines_more}
use Rattle.afdx_measure.proofs.policing.Policing.put_lines.Goals as goal

pub loop-place-preserved : goal.loop-place-preserved
loop-place-preserved g c = λ r same policed.
    let l = c.unwrap.result.now in
    let there : slice_get r.table.links c.loop-place.place ≡ Some l
    = ap (λ (t : Content). slice_get t.links c.loop-place.place) same ∙ sym c.link_at.ensures.link ∙ ap option_copied c.unwrap.ensures in
    lines_more (spell_lines r) r.table.links c.loop-place.place l (string_bytes c.args.text.now) (string_bytes c.loop-place.text) (string_bytes c.put_lines_at.new.text) there
    (c.in_ok-put_lines_at.ensures r l policed there (sym (ap (λ (x : Link). x.id) c.behind-link_at.view_is))) (c.loop-place.invariant r same policed)
