use Rattle.std.proofs.Common.{◌≡◌, ℕ, IsTrue, true, nat_eq, Some, ap, sym, ◌∙◌, option_copied, arith}
use Rattle.std.proofs.lemmas.Bool.Decides.{nat_tests}
use Rattle.afdx_table.specs.Link.{Link}
use Rattle.afdx_table.specs.Content.{link_place}
use Rattle.afdx_filter.proofs.LinkPlaces.{place_at}
use Rattle.afdx_filter.proofs.judged.has_number_at.Goals as goal

equal : (a b : ℕ) → IsTrue (nat_eq a b) → a ≡ b
equal a b e = grind (arith, nat_tests)

pub returns-in-Some : goal.returns-in-Some
returns-in-Some c same =
    let t = c.args.table.now in
    let at = sym c.link_at.ensures.link ∙ ap option_copied c.in-Some.is in
    let number = sym (ap (λ (l : Link). l.id) c.link.view_is) ∙ equal c.link.inside.id c.args.number same in
    ap (link_place t) (sym number) ∙ place_at t c.link_at.ensures.well_formed c.args.place c.in-Some.link.now at
