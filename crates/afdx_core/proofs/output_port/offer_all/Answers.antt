use Rattle.std.proofs.Common.{◌<◌, ◌≤◌, ℕ, ◌+◌, ◌∷◌, [], ◌++◌, length, take, get_or, map, List, ap, sym, ◌∙◌, arith, refl, subst}
use Rattle.std.proofs.lemmas.List.{map_more, length-map, length-take-le, take_all}
use Rattle.afdx_port.specs.declared.Offer.{Offer}
use Rattle.afdx_port.specs.declared.Offer.TheVariants.{Full, Queued}
use Rattle.afdx_core.specs.Inner.OutputPorts.{answer_at, queued_by}
use Rattle.afdx_core.specs.Inner.Copies.{AddsCopies}
use Rattle.afdx_core.proofs.Offering.{touched_none, adds_none, can_next, once_still, became_next, later_next, answer_same, adds_next, not_before, places_touched, less_next}
use Rattle.afdx_core.proofs.output_port.offer_all.Goals as goal

pub loop-port-init : goal.loop-port-init
loop-port-init g c = record {
  became = touched_none c.args.item.now c.args.output_ports.now;
  later = λ k d off. refl;
  listed = c.requires.none;
  copies = adds_none c.args.item.now.number c.args.output_ports.now;
  few = omega arith;
  dues = c.requires.dues;
  room = λ k d. omega arith;
}

pub offer_to-answer-requires-clause-can : goal.offer_to-answer-requires-clause-can
offer_to-answer-requires-clause-can g c =
    can_next c.args.item.now c.args.to.now c.loop-port.port-index c.args.output_ports.now c.loop-port.output_ports (omega (arith, c.loop-port-test.true)) c.requires.distinct
    c.loop-port.invariant.became
    c.loop-port.invariant.later c.requires.can

pub offer_to-answer-requires-clause-once : goal.offer_to-answer-requires-clause-once
offer_to-answer-requires-clause-once g c = once_still c.args.item.now (take c.loop-port.port-index c.args.to.now) c.args.output_ports.now c.loop-port.output_ports c.loop-port.invariant.became
    c.requires.once

pub offer_to-answer-requires-clause-dues : goal.offer_to-answer-requires-clause-dues
offer_to-answer-requires-clause-dues g c = c.loop-port.invariant.dues

pub offer_to-answer-requires-clause-places : goal.offer_to-answer-requires-clause-places
offer_to-answer-requires-clause-places g c = places_touched c.args.item.now (take c.loop-port.port-index c.args.to.now) c.args.places.now c.args.output_ports.now c.loop-port.output_ports
    c.loop-port.invariant.became c.requires.places

pub returns-clause-answers : goal.returns-clause-answers
returns-clause-answers g c =
    let item = c.args.item.now in
    let old = c.args.output_ports.now in
    let to = c.args.to.now in
    c.loop-port.invariant.listed
    ∙ ap (λ (ports : List ℕ). map {B = ℕ × Offer} (λ (port : ℕ). (port, answer_at item old port)) ports) (take_all c.loop-port.port-index to c.loop-port-test.false)

pub returns-clause-room : goal.returns-clause-room
returns-clause-room g c = c.loop-port.invariant.room

pub returns-clause-dues : goal.returns-clause-dues
returns-clause-dues g c = c.loop-port.invariant.dues

pub push-requires : goal.push-requires
push-requires g c =
    let to = c.args.to.now in
    let k = c.loop-port.port-index in
    let answer : ℕ → ℕ × Offer = λ p. (p, answer_at c.args.item.now c.args.output_ports.now p) in
    let listed = ap length c.loop-port.invariant.listed in
    omega (arith, listed, length-map (take k to) answer, length-take-le k to (omega (arith, c.loop-port-test.true)), c.loop-port-test.true, c.requires.few)

at_most_one : (a : Offer) → queued_by a ≤ 1
at_most_one Queued = omega arith
at_most_one Full = omega arith

pub loop-port-preserved : goal.loop-port-preserved
loop-port-preserved g c =
    let item = c.args.item.now in
    let to = c.args.to.now in
    let k = c.loop-port.port-index in
    let old = c.args.output_ports.now in
    let mid = c.loop-port.output_ports in
    let new = c.offer_to-answer.new.output_ports in
    let lt : k < length to = omega (arith, c.loop-port-test.true) in
    let port = get_or to k 0 in
    let answers = c.loop-port.answers in
    let answer : ℕ → ℕ × Offer = λ p. (p, answer_at item old p) in
    let same = c.offer_to-answer.ensures.answer ∙ answer_same item (take k to) port old mid (not_before to k c.requires.distinct lt) c.loop-port.invariant.became in
    let one = at_most_one c.offer_to-answer.result in
    record {
      became = became_next item to k old mid new lt c.requires.distinct c.loop-port.invariant.became c.offer_to-answer.ensures.output_ports;
      later = later_next to k old mid new lt c.loop-port.invariant.later c.offer_to-answer.ensures.others;
      listed = c.push.ensures
          ∙ ap (λ (o : Offer). answers ++ (port, o) ∷ []) same
          ∙ ap (λ xs. xs ++ answer port ∷ []) c.loop-port.invariant.listed
          ∙ sym (map_more answer to k 0 lt);
      copies = subst (λ n. AddsCopies item.number (c.loop-port.queued + n) old new) (sym c.copies_by-queued.ensures)
          (adds_next item.number c.loop-port.queued c.offer_to-answer.result old mid new c.loop-port.invariant.copies c.offer_to-answer.ensures.copies);
      few = omega (arith, c.loop-port.invariant.few, one, c.copies_by-queued.ensures);
      dues = c.offer_to-answer.ensures.dues;
      room = less_next item to k old mid new lt c.requires.distinct c.loop-port.invariant.became c.loop-port.invariant.later c.offer_to-answer.ensures.others c.offer_to-answer.ensures.room
          c.loop-port.invariant.room;
    }

pub overflow_add-queued : goal.overflow_add-queued
overflow_add-queued g c = let one = at_most_one c.offer_to-answer.result in omega
    (arith, c.loop-port.invariant.few, one, c.copies_by-queued.ensures, c.loop-port-test.true, c.loop-port.auto.port-index-end, c.type_inv.to)
