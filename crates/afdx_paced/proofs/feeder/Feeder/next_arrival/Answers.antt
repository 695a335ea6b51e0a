use Rattle.std.proofs.Common.{ap, ◌∙◌, arith, length, List, Some, None}
use Rattle.afdx_paced.specs.Inner.Parts.{Parts, heads_of}
use Rattle.afdx_paced.proofs.Heads.{few_lanes, first_in_lanes, none_waits, waits_after}
use Rattle.afdx_paced.proofs.Passing.{waiting_rise}
use Rattle.afdx_paced.proofs.feeder.Feeder.next_arrival.Goals as goal

pub heads_of-heads-requires : goal.heads_of-heads-requires
heads_of-heads-requires g c =
    let few = few_lanes c.args.self.now c.requires.of in
    let same = ap (λ (ls : List Parts). length ls) c.deref.ensures.value in
    omega (arith, few, same)

pub returns : goal.returns
returns g c =
    let lanes = c.args.self.now.lanes.items in
    let are = c.heads_of-heads.ensures ∙ ap (λ (ls : List Parts). heads_of ls) c.deref.ensures.value in
    let first = first_in_lanes c.heads_of-heads.result lanes (Some c.in_ok-first.first) are c.in_ok-first.ensures in
    waits_after lanes c.in_ok-first.first.0 c.in_ok-first.first.1 c.in_ok-first.first.1 (waiting_rise lanes c.requires.sorted) first (omega arith)

pub returns-in_err-first : goal.returns-in_err-first
returns-in_err-first g c =
    let lanes = c.args.self.now.lanes.items in
    let are = c.heads_of-heads.ensures ∙ ap (λ (ls : List Parts). heads_of ls) c.deref.ensures.value in
    rw c.from_residual.ensures (none_waits lanes (first_in_lanes c.heads_of-heads.result lanes None are c.in_err-first.ensures))
