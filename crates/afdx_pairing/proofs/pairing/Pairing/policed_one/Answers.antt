use Rattle.std.proofs.Common.{◌≡◌, Option, Some, None, sym, ap, subst, ◌∙◌}
use Rattle.std.specs.Prelude.{slice_get}
use Rattle.std.specs.List.{position}
use Rattle.std.specs.Option.{option_map}
use Rattle.afdx_pairing.specs.Events.{Numbered, mark_of}
use Rattle.afdx_pairing.specs.Limits.{came_within}
use Rattle.afdx_pairing.specs.Pairing.{Pairing}
use Rattle.afdx_pairing.specs.declared.event.Mark.{Mark}
use Rattle.afdx_pairing.proofs.Firsts.{none_within, found_one, found_none}
use Rattle.afdx_pairing.proofs.pairing.Pairing.policed_one.Goals as goal

pub returns-in_err-place : goal.returns-in_err-place
returns-in_err-place g c =
    let none = subst (λ (p : Pairing). None ≡ position (λ n. came_within c.args.self.now.limits 1 n.frame c.args.left.now.frame) p.policed)
    c.self.view_is c.in_err-place.ensures.place in
    rw c.from_residual.ensures
    (ap (λ (o : Option Numbered). option_map mark_of o)
    (sym (found_none (λ n. came_within c.args.self.now.limits 1 n.frame c.args.left.now.frame) c.args.self.now.policed none)))

pub returns-in_err-get : goal.returns-in_err-get
returns-in_err-get g c = absurd (none_within c.self.inside.policed c.in_ok-place.place (sym c.in_err-get.ensures) c.in_ok-place.ensures.some)

pub returns : goal.returns
returns g c =
    let one = c.in_ok-get.field-0.now in
    let place = subst (λ (p : Pairing). Some c.in_ok-place.place ≡ position (λ n. came_within c.args.self.now.limits 1 n.frame c.args.left.now.frame) p.policed)
    c.self.view_is c.in_ok-place.ensures.place in
    let get = subst (λ (p : Pairing). Some one ≡ slice_get p.policed c.in_ok-place.place) c.self.view_is c.in_ok-get.ensures in
    ap (λ (m : Mark). Some m) c.mark.ensures
    ∙ ap (λ (o : Option Numbered). option_map mark_of o)
    (sym (found_one (λ n. came_within c.args.self.now.limits 1 n.frame c.args.left.now.frame) c.args.self.now.policed c.in_ok-place.place one place get))
