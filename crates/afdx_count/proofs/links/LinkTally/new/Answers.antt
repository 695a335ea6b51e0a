use Rattle.std.proofs.Common.{rules, arith}
use Rattle.std.proofs.lemmas.Grind.{common_steps}
use Rattle.afdx_count.proofs.Zeros.{zero_link}
use Rattle.afdx_count.proofs.links.LinkTally.new.Goals as goal

pub returns : goal.returns
returns c =
    let count = zero_link c.default.result (search rules) in
    first_of (search rules, grind (arith, common_steps))
