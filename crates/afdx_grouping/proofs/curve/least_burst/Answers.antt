use Rattle.std.proofs.Common.{◌≡◌, subst, arith}
use Rattle.std.proofs.lemmas.Grind.{common_steps}
use Rattle.afdx_grouping.specs.Burst.{least_burst, IsLeastBurst}
use Rattle.afdx_grouping.proofs.curve.least_burst.Goals as goal

pub returns-clause-least : goal.returns-clause-least
returns-clause-least c = λ slow.
    let found : least_burst c.args.parts c.args.curves.now ≡ c.min.result = grind (arith, common_steps) in
    subst (λ burst. IsLeastBurst c.args.parts burst c.args.curves.now) found (c.bursts_are_least.ensures.least c.args.parts c.args.curves.now slow)
