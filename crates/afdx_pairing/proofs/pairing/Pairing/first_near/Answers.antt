use Rattle.std.proofs.Common.{◌≡◌, subst}
use Rattle.std.specs.List.{position}
use Rattle.afdx_pairing.specs.Limits.{came_within}
use Rattle.afdx_pairing.specs.Pairing.{Pairing}
use Rattle.afdx_pairing.proofs.pairing.Pairing.first_near.Goals as goal

pub returns-clause-place : goal.returns-clause-place
returns-clause-place g c =
    subst (λ (p : Pairing). c.first_within.result ≡ position (λ n. came_within c.args.self.now.limits 2 n.frame c.args.left.now.frame) p.waiting) c.self.view_is c.first_within.ensures.place
