use Rattle.std.proofs.Common.{◌≡◌, ℕ, List, Some, get_or, slice_get, position, sym, ◌∙◌, arith}
use Rattle.std.proofs.lemmas.Option.{slice_get-get_or}
use Rattle.std.proofs.lemmas.Result.{IfOk-weaker, on_ok_weaker}
use Rattle.afdx_port.specs.declared.Offer.{Offer}
use Rattle.afdx_port.specs.Content.{answer}
use Rattle.afdx_trace.specs.declared.traced_port.TracedPort.{TracedPort}
use Rattle.afdx_trace.specs.Inner.Telling.{answer_among, CanBeOffered}
use Rattle.afdx_trace.proofs.Placed.{is_port, port_at, on_ok_both, answer_some, answer_none, one_offered, none_offered_to, gone_one}
use Rattle.afdx_trace.proofs.tracing.offer_to.Goals as goal

-- the port of the number may be offered it
can_at : {Z : Type 0} (P : TracedPort Z → Type 0) (os : List (TracedPort Z)) (port place : ℕ) (d : TracedPort Z) → position (is_port port) os ≡ Some place
    → ((k : ℕ) (q : TracedPort Z) → slice_get os k ≡ Some q → q.row.id ≡ port → P q) → P (get_or os place d)
can_at P os port place d at can = let p = port_at os port place d at in can place (get_or os place d) p.here p.own

pub offer-requires-clause-told : goal.offer-requires-clause-told
offer-requires-clause-told g c =
    (can_at (CanBeOffered c.args.shown.now c.args.item.now) c.args.ports.now c.args.port c.in-Some.place c.index-ports-place.result (sym c.find_port.ensures.place ∙ c.in-Some.is)
    c.requires.can).told

pub offer-requires-clause-still_open : goal.offer-requires-clause-still_open
offer-requires-clause-still_open g c =
    (can_at (CanBeOffered c.args.shown.now c.args.item.now) c.args.ports.now c.args.port c.in-Some.place c.index-ports-place.result (sym c.find_port.ensures.place ∙ c.in-Some.is)
    c.requires.can).still_open

pub offer-requires-clause-in_order : goal.offer-requires-clause-in_order
offer-requires-clause-in_order g c =
    (can_at (CanBeOffered c.args.shown.now c.args.item.now) c.args.ports.now c.args.port c.in-Some.place c.index-ports-place.result (sym c.find_port.ensures.place ∙ c.in-Some.is)
    c.requires.can).in_order

pub offer-requires-clause-numbered : goal.offer-requires-clause-numbered
offer-requires-clause-numbered g c =
    (can_at (CanBeOffered c.args.shown.now c.args.item.now) c.args.ports.now c.args.port c.in-Some.place c.index-ports-place.result (sym c.find_port.ensures.place ∙ c.in-Some.is)
    c.requires.can).numbered

pub returns-in-Some-clause-answer : goal.returns-in-Some-clause-answer
returns-in-Some-clause-answer g c =
    let x = c.args.item.now in
    let os = c.args.ports.now in
    let o = get_or os c.in-Some.place c.index-ports-place.result in
    let p = port_at os c.args.port c.in-Some.place c.index-ports-place.result (sym c.find_port.ensures.place ∙ c.in-Some.is) in
    IfOk-weaker c.offer.result (λ (a : Offer). a ≡ answer x o.flow.content) (λ (a : Offer). a ≡ answer_among x os c.args.port)
    (λ a is. is ∙ answer_some x c.args.port c.in-Some.place o os p.at p.here) c.offer.ensures.answer

pub returns-in-Some-clause-offered : goal.returns-in-Some-clause-offered
returns-in-Some-clause-offered g c =
    let x = c.args.item.now in
    let os = c.args.ports.now in
    let o = get_or os c.in-Some.place c.index-ports-place.result in
    let n = c.offer.new.self in
    let p = port_at os c.args.port c.in-Some.place c.index-ports-place.result (sym c.find_port.ensures.place ∙ c.in-Some.is) in
    on_ok_weaker c.offer.result
    (λ both. one_offered c.args.shown.now x c.args.port c.in-Some.place os o n c.requires.once c.requires.told p.at p.here c.offer.ensures.row c.offer.ensures.settings both.0 both.1)
    (on_ok_both c.offer.result _ _ c.offer.ensures.content c.offer.ensures.told)

pub returns-in-Some-clause-gone : goal.returns-in-Some-clause-gone
returns-in-Some-clause-gone g c =
    let os = c.args.ports.now in
    let files = c.args.files.now in
    let o = get_or os c.in-Some.place c.index-ports-place.result in
    let f = get_or files c.in-Some.place c.index-files-place.result in
    let p = port_at os c.args.port c.in-Some.place c.index-ports-place.result (sym c.find_port.ensures.place ∙ c.in-Some.is) in
    on_ok_weaker c.offer.result
    (λ gone start have. gone_one g.F.NewFile.contents start files os c.in-Some.place f c.offer.new.file o c.offer.new.self
    (slice_get-get_or files c.in-Some.place c.index-files-place.result (omega (arith, p.within, c.requires.files))) p.here gone have) c.offer.ensures.gone

pub returns-in-None-clause-answer : goal.returns-in-None-clause-answer
returns-in-None-clause-answer g c = answer_none c.args.item.now c.args.port c.args.ports.now (sym c.find_port.ensures.place ∙ c.in-None.is)

pub returns-in-None-clause-offered : goal.returns-in-None-clause-offered
returns-in-None-clause-offered g c =
    none_offered_to c.args.shown.now c.args.item.now c.args.port c.args.ports.now c.requires.told (sym c.find_port.ensures.place ∙ c.in-None.is)
