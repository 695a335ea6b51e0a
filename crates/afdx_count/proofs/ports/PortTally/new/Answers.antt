use Rattle.std.proofs.Common.{rules, arith}
use Rattle.std.proofs.lemmas.Grind.{common_steps}
use Rattle.afdx_count.proofs.Zeros.{zero_input, zero_output}
use Rattle.afdx_count.proofs.ports.PortTally.new.Goals as goal

pub returns : goal.returns
returns c =
    let input = zero_input c.default.result (search rules) in
    let high = zero_output c.default-2.result (search rules) in
    let low = zero_output c.default-3.result (search rules) in
    first_of (search rules, grind (arith, common_steps))
