use Rattle.std.proofs.Common.{◌≡◌, ◌<◌, slice_get, Some, refl, sym, ap, subst, ◌∙◌, length, map, rules, arith, option_map}
use Rattle.std.proofs.lemmas.List.{length-map}
use Rattle.std.proofs.lemmas.Result.{on_ok_weaker}
use Rattle.std.proofs.lemmas.Option.{slice_get-map, slice_get-get_or}
use Rattle.afdx_session.specs.Inner.Lent.{taken_by}
use Rattle.afdx_session.specs.Inner.Rest.{Rest, IsLeft, IsAsBefore}
use Rattle.afdx_session.proofs.Writing.{writes, text_by}
use Rattle.afdx_session.proofs.rest.Rest.write.Goals as goal

pub returns-clause-rest : goal.returns-clause-rest
returns-clause-rest g c = λ t arrivals p k left is_port is_taken.
    let lanes = c.self.inside.lanes.items in
    let lane = c.index-lane.result.now in
    let was : c.args.self.now ≡ record { state = c.self.inside.switch; counts = c.self.inside.counts; taken = taken_by lanes; texts = map text_by lanes } = sym c.self.view_is in
    let within : c.args.place < length lanes = let all = c.requires.within in let same = ap (λ (r : Rest). length r.texts) was in
    let long = length-map lanes text_by in omega (arith, all, same, long) in
    let is_lane : slice_get lanes c.args.place ≡ Some lane = slice_get-get_or lanes c.args.place lane within ∙ ap Some (sym c.index-lane.ensures) in
    let is_text : slice_get (map text_by lanes) c.args.place ≡ Some (lane.port, lane.out.items) = slice_get-map text_by lanes c.args.place ∙ ap (option_map text_by) is_lane in
    let taken_is : slice_get (taken_by lanes) c.args.place ≡ Some k = ap (λ (r : Rest). slice_get r.taken c.args.place) (sym was) ∙ is_taken in
    let before : c.extend_from_slice.new.self.items ≡ lane.out.items = search rules in
    on_ok_weaker c.drain_rest.result
    (λ none. writes t arrivals c.args.place k p _ _ (lane.port, lane.out.items) c.extend_from_slice.new.self.items c.drain_rest.new.out.items (subst (IsLeft t arrivals c.args.place) was left) is_port
    taken_is is_text refl refl refl before c.drain_rest.ensures.draws none) c.drain_rest.ensures.none

pub returns-clause-before : goal.returns-clause-before
returns-clause-before g c = subst (λ (r : Rest). IsAsBefore r.state c.drain_rest.new.switch) c.self.view_is c.drain_rest.ensures.before
