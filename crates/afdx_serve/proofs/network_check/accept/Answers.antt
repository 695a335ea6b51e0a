use Rattle.std.proofs.Common.{rules, ◌≡◌, ◌<◌, length, Ok, inl}
use Rattle.afdx_messages.specs.declared.network_failure.JitterRule.TheVariants.{Jitter}
use Rattle.afdx_serve.specs.Networks.{names_of, verdict_of, AreRefusedRows}
use Rattle.afdx_serve.proofs.VerdictLemmas.{of_loads, of_rest, of_shorts}
use Rattle.afdx_serve.proofs.network_check.accept.Goals as goal

pub returns-in-Err : goal.returns-in-Err
returns-in-Err c = inl (c.in-Err.fault, (λ no. of_loads c.args.network c.in-Err.fault c.in-Err.ensures), rw c.requires at c.refused.ensures)

pub returns-in-Err-judge : goal.returns-in-Err-judge
returns-in-Err-judge c =
    let judged = rw c.in-Ok.ensures.0 at c.in-Err-judge.ensures.first in
    inl (c.in-Err-judge.fault, (λ no. of_rest c.args.network _ c.in-Ok.ensures.3 (judged no)), rw c.requires at c.refused-in-Err-judge.ensures)

pub returns : goal.returns
returns c =
    let some : 0 < length c.in-Ok-judge.shorts.items = search rules in
    let judged = rw c.in-Ok.ensures.0 at c.in-Ok-judge.ensures.first in
    let is : verdict_of c.args.network ≡ Ok c.in-Ok-judge.shorts.items = of_rest c.args.network _ c.in-Ok.ensures.3 judged in
    let rows : AreRefusedRows (names_of c.args.network.layout.switches) Jitter c.in-Ok-judge.shorts.items c.short_rows.result = search rules in
    of_shorts (names_of c.args.network.layout.switches) (verdict_of c.args.network) c.in-Ok-judge.shorts.items c.short_rows.result some is rows
