use Rattle.std.proofs.Common.{◌≡◌, Some, sym, ap, ◌∙◌, option_copied}
use Rattle.afdx_table.specs.Link.{Link}
use Rattle.afdx_table.specs.Content.{link_row, link_place}
use Rattle.afdx_filter.proofs.judged.judge_number.Goals as goal

-- the link at the place has the number that the place was looked up by
pub returns-clause-place : goal.returns-clause-place
returns-clause-place c =
    let t = c.args.table.now in
    let at_place = c.links_are_at_their_places.ensures.at t c.args.number c.in-Some.place (sym c.in-Some.ensures.place) in
    let row : link_row t c.args.number ≡ Some c.unwrap-link.result.now = sym at_place ∙ sym c.link_at.ensures.link ∙ ap option_copied c.unwrap-link.ensures in
    let number = ap (λ (l : Link). l.id) c.link.view_is ∙ (c.links_are_found.ensures.is_row t c.args.number c.unwrap-link.result.now row).0 in
    c.in-Some.ensures.place ∙ ap (link_place t) (sym number)
