use Rattle.std.proofs.Common.{◌≡◌, position, Some, None, refl, sym, ◌∙◌, arith}
use Rattle.std.proofs.lemmas.List.Quantifiers.{position-Some}
use Rattle.afdx_core.proofs.Offering.{is_port, place_at, became_one, became_none, answer_some, answer_none, adds_none, adds_one, stays_at}
use Rattle.afdx_core.proofs.Calls.{position_within}
use Rattle.afdx_core.proofs.output_port.offer_to.Goals as goal

pub offer_place-requires-clause-can : goal.offer_place-requires-clause-can
offer_place-requires-clause-can g c d =
    let os = c.args.output_ports.now in
    let at : position (is_port c.args.port) os ≡ Some c.in-Some.place = place_at c.args.places.now os c.args.port (Some c.in-Some.place) c.requires.places (sym c.in-Some.is ∙ c.place_of.ensures) in
    let found = position-Some (is_port c.args.port) os c.in-Some.place d at in
    c.requires.can c.in-Some.place d found.0 found.1

pub returns-in-Some : goal.returns-in-Some
returns-in-Some g c =
    let item = c.args.item.now in
    let os = c.args.output_ports.now in
    let place = c.in-Some.place in
    let at : position (is_port c.args.port) os ≡ Some place = place_at c.args.places.now os c.args.port (Some place) c.requires.places (sym c.in-Some.is ∙ c.place_of.ensures) in
    let d = c.offer_place.ensures.output_ports.one in
    let found = position-Some (is_port c.args.port) os place d at in
    record {
      answer = c.offer_place.ensures.answer d ∙ answer_some item c.args.port place d os at;
      output_ports = became_one item c.args.port place d os c.offer_place.new.output_ports c.requires.once at c.offer_place.ensures.output_ports;
      others = stays_at item c.args.port place os c.offer_place.new.output_ports at c.offer_place.ensures.output_ports;
      copies = adds_one c.events_follow_the_line.ensures.parts c.each_has_one_event.ensures c.lagging_ports_follow.ensures.stays c.lagging_ports_follow.ensures.offer item place d
          c.offer_place.result os c.offer_place.new.output_ports found.0 (c.requires.can place d found.0 found.1) (c.offer_place.ensures.answer d) c.offer_place.ensures.output_ports;
      dues = c.offer_place.ensures.dues;
      room = c.offer_place.ensures.room;
    }

pub returns-in-None : goal.returns-in-None
returns-in-None g c =
    let none = place_at c.args.places.now c.args.output_ports.now c.args.port None c.requires.places (sym c.in-None.is ∙ c.place_of.ensures) in
    record {
      answer = answer_none c.args.item.now c.args.port c.args.output_ports.now none;
      output_ports = became_none c.args.item.now c.args.port c.args.output_ports.now none;
      others = λ k d off. refl;
      copies = adds_none c.args.item.now.number c.args.output_ports.now;
      dues = c.requires.dues;
      room = λ k d. omega arith;
    }

pub offer_place-requires-clause-place : goal.offer_place-requires-clause-place
offer_place-requires-clause-place g c =
    let os = c.args.output_ports.now in
    position_within (is_port c.args.port) os c.in-Some.place (place_at c.args.places.now os c.args.port (Some c.in-Some.place) c.requires.places (sym c.in-Some.is ∙ c.place_of.ensures))
