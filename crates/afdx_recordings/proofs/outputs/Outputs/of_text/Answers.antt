use Rattle.std.proofs.Common.{◌≡◌, ◌+◌, ◌++◌, ◌∷◌, [], ◌∙◌, ℕ, lit<, length, arith, subst, sym}
use Rattle.std.proofs.lemmas.List.{length_push}
use Rattle.std.proofs.lemmas.Iterator.Consumers.{YieldsList-at, YieldsList-turn, YieldsList-end}
use Rattle.std.proofs.lemmas.Iterator.Splits.{YieldsList-from_str_split}
use Rattle.afdx_recordings.specs.Recordings.{AddsOutput, no_outputs, parts_of}
use Rattle.afdx_recordings.proofs.Folding.{IsOnTheWay, of_none, sets_out, goes_on, stops, arrives}
use Rattle.afdx_recordings.proofs.Saying.{added_once, adds_none}
use Rattle.afdx_recordings.proofs.outputs.Outputs.of_text.Goals as goal

pub loop-part-init : goal.loop-part-init
loop-part-init c = sets_out AddsOutput no_outputs (parts_of c.args.text.now)

pub loop-part-preserved : goal.loop-part-preserved
loop-part-preserved c =
    let parts = YieldsList-at c.into_iter-part-iterator.ensures.into_iter_gives
    (YieldsList-from_str_split 44 c.args.text.now (lit< tt) c.split-part-items.ensures.text c.split-part-items.ensures.has_more c.split-part-items.ensures.pattern) in
    let turn = YieldsList-turn parts c.loop-part.yielded _ c.loop-part.yielded_by _ _ c.in-Some.part c.in-Some.is c.next.ensures.steps in
    let says = c.in_ok-port.ensures in
    let one_more : length c.loop-part.yielded + 1 ≡ length (c.loop-part.yielded ++ c.in-Some.part ∷ []) = sym (length_push c.loop-part.yielded c.in-Some.part) in
    subst (λ (n : ℕ). IsOnTheWay AddsOutput no_outputs (parts_of c.args.text.now) c.add.new.self n) one_more
    (goes_on AddsOutput no_outputs (parts_of c.args.text.now) c.loop-part.outputs _ c.loop-part.invariant c.in-Some.part.now c.add.new.self turn
    (c.in_ok-port.port, says, c.add.ensures)
    (λ other step. added_once c.loop-part.outputs _ c.in_ok-port.port says other step ∙ sym c.add.ensures))

pub returns-in_err-port : goal.returns-in_err-port
returns-in_err-port c =
    let parts = YieldsList-at c.into_iter-part-iterator.ensures.into_iter_gives
    (YieldsList-from_str_split 44 c.args.text.now (lit< tt) c.split-part-items.ensures.text c.split-part-items.ensures.has_more c.split-part-items.ensures.pattern) in
    let turn = YieldsList-turn parts c.loop-part.yielded _ c.loop-part.yielded_by _ _ c.in-Some.part c.in-Some.is c.next.ensures.steps in
    of_none _ _ _ c.from_residual.ensures
    (stops AddsOutput no_outputs (parts_of c.args.text.now) c.loop-part.outputs _ c.loop-part.invariant c.in-Some.part.now turn
    (adds_none c.loop-part.outputs c.in-Some.part.now c.in_err-port.ensures))

pub returns : goal.returns
returns c =
    let parts = YieldsList-at c.into_iter-part-iterator.ensures.into_iter_gives
    (YieldsList-from_str_split 44 c.args.text.now (lit< tt) c.split-part-items.ensures.text c.split-part-items.ensures.has_more c.split-part-items.ensures.pattern) in
    let end = YieldsList-end parts c.loop-part.yielded _ c.loop-part.yielded_by _ _ c.in-None.is c.next.ensures.steps in
    arrives AddsOutput no_outputs (parts_of c.args.text.now) c.loop-part.outputs _ c.loop-part.invariant (omega (arith, end.1))
