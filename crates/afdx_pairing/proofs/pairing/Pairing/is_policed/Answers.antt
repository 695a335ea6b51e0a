use Rattle.std.proofs.Common.{◌≡◌, subst, ◌∙◌}
use Rattle.std.specs.List.{position}
use Rattle.afdx_pairing.specs.Limits.{came_within}
use Rattle.afdx_pairing.specs.Pairing.{Pairing}
use Rattle.afdx_pairing.proofs.Firsts.{any_is}
use Rattle.afdx_pairing.proofs.pairing.Pairing.is_policed.Goals as goal

pub returns : goal.returns
returns g c =
    let place = subst (λ (p : Pairing). c.first_within.result ≡ position (λ n. came_within c.args.self.now.limits 2 n.frame c.args.left.now.frame) p.policed)
    c.self.view_is c.first_within.ensures.place in
    c.is_some.ensures ∙ any_is (λ n. came_within c.args.self.now.limits 2 n.frame c.args.left.now.frame) c.args.self.now.policed c.first_within.result place
