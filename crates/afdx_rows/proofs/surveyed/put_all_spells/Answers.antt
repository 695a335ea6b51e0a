use Rattle.std.proofs.Common.{◌≡◌, ◌++◌, ℕ, List, string_bytes, slice_get, Some, sym, ap, subst, ◌∙◌}
use Rattle.std.specs.Option.{option_copied}
use Rattle.std.specs.Prelude.{flat_map}
use Rattle.afdx_table.specs.Content.{Content}
use Rattle.afdx_table.specs.Link.{Link}
use Rattle.afdx_core.specs.State.{State}
use Rattle.afdx_rows.specs.Spells.{spell_row, spell_rows}
use Rattle.afdx_rows.proofs.Columns.{names_in}
use Rattle.afdx_rows.proofs.Gathering.{one_more}
use Rattle.afdx_rows.proofs.surveyed.put_all_spells.Goals as goal

pub loop-place-preserved : goal.loop-place-preserved
loop-place-preserved g c =
    let r = c.args.survey.now.run in
    let l = c.unwrap-link.result.now in
    let columns = names_in c.args.columns.now in
    let switch = c.args.switch.now in
    let stamp_columns : List ℕ × List ℕ = (c.args.stamp_columns.0.now, c.args.stamp_columns.1.now) in
    let table_is : c.table-table.result.now ≡ r.table = c.table-table.ensures ∙ ap (λ (s : State). s.run.table) c.measures.ensures in
    let here : slice_get r.table.links c.loop-place.place ≡ Some l
    = subst (λ (t : Content). slice_get t.links c.loop-place.place ≡ Some l) table_is (sym c.link_at.ensures.link ∙ ap option_copied c.unwrap-link.ensures) in
    let id = ap (λ (x : Link). x.id) c.link.view_is in
    let spells = c.spells_at-spells.ensures.there l here in
    let grown : string_bytes c.put_spells.new.text ≡ string_bytes c.loop-place.text ++ spell_rows columns switch stamp_columns r l
    = c.in_ok-put_spells.ensures ∙ (λ i. string_bytes c.loop-place.text ++ flat_map (spell_row columns switch stamp_columns (id i)) (spells i)) in
    one_more (spell_rows columns switch stamp_columns r) r.table.links c.loop-place.place l (string_bytes c.args.text.now) (string_bytes c.loop-place.text) (string_bytes c.put_spells.new.text)
    here grown c.loop-place.invariant
