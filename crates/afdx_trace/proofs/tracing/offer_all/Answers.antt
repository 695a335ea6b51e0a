use Rattle.std.proofs.Common.{◌≡◌, ◌+◌, ◌<◌, ◌∷◌, [], ◌++◌, cond, length, take, get_or, sym, ap, ◌∙◌, arith, subst}
use Rattle.std.proofs.lemmas.List.{take_more, take_all}
use Rattle.afdx_port.specs.Content.{answers_full}
use Rattle.afdx_core.proofs.Offering.{not_before}
use Rattle.afdx_trace.specs.Inner.Telling.{AreOffered, refused_among}
use Rattle.afdx_trace.proofs.Among.{none_offered, next_offered, answer_same, can_still, once_still, places_still, told_still, refused_next, refused_few}
use Rattle.afdx_trace.proofs.tracing.offer_all.Goals as goal

pub loop-port-init : goal.loop-port-init
loop-port-init g c = record {
  full = c.new-full.ensures;
  offered = none_offered c.args.shown.now c.args.item.now c.args.ports.now (λ k o here. (c.requires.can k o here).told);
  gone = λ start have. have;
  files = c.requires.files;
}

pub offer_to-requires-clause-can : goal.offer_to-requires-clause-can
offer_to-requires-clause-can g c =
    let to = c.args.to.now in
    let k = c.loop-port.port-index in
    can_still c.args.shown.now c.args.item.now (take k to) (get_or to k 0) c.args.ports.now c.loop-port.ports (not_before to k c.requires.distinct (omega (arith, c.loop-port-test.true)))
    c.loop-port.invariant.offered c.requires.can

pub offer_to-requires-clause-told : goal.offer_to-requires-clause-told
offer_to-requires-clause-told g c =
    told_still c.args.shown.now c.args.item.now (take c.loop-port.port-index c.args.to.now) c.args.ports.now c.loop-port.ports c.loop-port.invariant.offered

pub offer_to-requires-clause-once : goal.offer_to-requires-clause-once
offer_to-requires-clause-once g c =
    once_still c.args.shown.now c.args.item.now (take c.loop-port.port-index c.args.to.now) c.args.ports.now c.loop-port.ports c.loop-port.invariant.offered c.requires.once

pub offer_to-requires-clause-places : goal.offer_to-requires-clause-places
offer_to-requires-clause-places g c =
    places_still c.args.shown.now c.args.item.now (take c.loop-port.port-index c.args.to.now) c.args.places.now c.args.ports.now c.loop-port.ports c.loop-port.invariant.offered c.requires.places

pub offer_to-requires-clause-files : goal.offer_to-requires-clause-files
offer_to-requires-clause-files g c = c.loop-port.invariant.files

pub note-requires : goal.note-requires
note-requires g c =
    let to = c.args.to.now in
    let k = c.loop-port.port-index in
    let listed = ap length c.loop-port.invariant.full in
    let few = refused_few c.args.shown.now c.args.item.now c.args.ports.now to k (omega (arith, c.loop-port-test.true)) in
    omega (arith, listed, few, c.loop-port-test.true, c.requires.few)

pub loop-port-preserved : goal.loop-port-preserved
loop-port-preserved g c =
    let shown = c.args.shown.now in
    let item = c.args.item.now in
    let to = c.args.to.now in
    let k = c.loop-port.port-index in
    let old = c.args.ports.now in
    let mid = c.loop-port.ports in
    let new = c.offer_to.new.ports in
    let lt : k < length to = omega (arith, c.loop-port-test.true) in
    let apart = not_before to k c.requires.distinct lt in
    let is = c.in_ok-answer.ensures in
    let more : take (k + 1) to ≡ take k to ++ get_or to k 0 ∷ [] = take_more to k 0 lt in
    record {
      full = c.note.ensures ∙ ap (λ ports. ports ++ cond (answers_full c.in_ok-answer.answer) (get_or to k 0 ∷ []) []) c.loop-port.invariant.full
          ∙ sym (refused_next shown item old to k c.in_ok-answer.answer lt (is.answer ∙ answer_same shown item (take k to) (get_or to k 0) old mid apart c.loop-port.invariant.offered));
      offered = subst (λ ports. AreOffered shown item ports old new) (sym more)
          (next_offered shown item (take k to) (get_or to k 0) old mid new apart c.loop-port.invariant.offered is.offered);
      gone = λ start have. is.gone start (c.loop-port.invariant.gone start have);
      files = (let many = is.offered.many in omega (arith, c.loop-port.invariant.files, many));
    }

pub returns-clause-full : goal.returns-clause-full
returns-clause-full g c =
    c.loop-port.invariant.full ∙ ap (refused_among c.args.item.now c.args.ports.now) (take_all c.loop-port.port-index c.args.to.now (omega (arith, c.loop-port-test.false)))

pub returns-clause-offered : goal.returns-clause-offered
returns-clause-offered g c =
    subst (λ ports. AreOffered c.args.shown.now c.args.item.now ports c.args.ports.now c.loop-port.ports) (take_all c.loop-port.port-index c.args.to.now (omega (arith, c.loop-port-test.false)))
    c.loop-port.invariant.offered
