use Rattle.std.proofs.Common.{rules, ◌<◌, length}
use Rattle.afdx_alone.specs.Inner.Polices.{Polices}
use Rattle.afdx_alone.proofs.Progress.{in_order, goes_on}
use Rattle.afdx_alone.proofs.Stopping.{stopped, left_short, last_rest, short_rest, is_fault}
use Rattle.afdx_alone.proofs.policing.Policing.take_records.Goals as goal

pub offer-requires-clause-order : goal.offer-requires-clause-order
offer-requires-clause-order g c =
    let i = c.loop-format.invariant in
    in_order _ _ _ c.loop-format.self c.args.format i.opened (i.polices c.requires.polices.0 c.requires.polices.1) c.in-Ok.frame c.in-Ok.ensures.record.0

pub loop-format-preserved-in_ok-offer-in-Ok : goal.loop-format-preserved-in_ok-offer-in-Ok
loop-format-preserved-in_ok-offer-in-Ok g c =
    let found = c.in-Ok.ensures.record in
    goes_on c.ground.ensures _ _ _ _ _ _ _ _ c.in-Ok.frame c.loop-format.invariant found.0 found.1 c.in_ok-offer-in-Ok.ensures

-- the same where the frame's bytes are shared, or its own, and dropped
pub loop-format-preserved-in_ok-offer-in-Ok-2 : goal.loop-format-preserved-in_ok-offer-in-Ok-2
loop-format-preserved-in_ok-offer-in-Ok-2 g c =
    let found = c.in-Ok.ensures.record in
    goes_on c.ground.ensures _ _ _ _ _ _ _ _ c.in-Ok.frame c.loop-format.invariant found.0 found.1 c.in_ok-offer-in-Ok.ensures

pub loop-format-preserved : goal.loop-format-preserved
loop-format-preserved g c =
    let found = c.in-Ok.ensures.record in
    goes_on c.ground.ensures _ _ _ _ _ _ _ _ c.in-Ok.frame c.loop-format.invariant found.0 found.1 c.in_ok-offer-in-Ok.ensures

pub returns-in-Err-clause-taken : goal.returns-in-Err-clause-taken
returns-in-Err-clause-taken g c = λ all polices.
    let i = c.loop-format.invariant in
    let more : 0 < length c.loop-format.rest.now = search rules in
    stopped all c.loop-format.rest.now c.args.ended c.in-Err.fault (λ left. Polices c.args.link.now all left c.loop-format.self) c.unless_they_wait.result c.unless_they_wait.ensures
    c.in-Err.ensures.no_memory
    (is_fault _ _ _ c.loop-format.self c.args.format i.opened (i.polices all polices) c.in-Err.fault more c.in-Err.ensures.fault) (i.polices all polices)

pub returns-in-Err-clause-left : goal.returns-in-Err-clause-left
returns-in-Err-clause-left g c =
    left_short c.args.bytes.now c.loop-format.rest.now c.args.ended c.in-Err.fault _ c.unless_they_wait.result c.unless_they_wait.ensures
    (λ cut. short_rest c.args.format _ _ _ c.in-Err.fault cut c.in-Err.ensures.fault)

pub returns-in-Err-clause-last : goal.returns-in-Err-clause-last
returns-in-Err-clause-last g c =
    last_rest c.args.bytes.now c.loop-format.rest.now c.args.ended c.in-Err.fault c.unless_they_wait.result c.unless_they_wait.ensures c.args.bytes.now c.loop-format.invariant.last
