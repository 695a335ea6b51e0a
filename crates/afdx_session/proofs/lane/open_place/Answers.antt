use Rattle.std.proofs.Common.{Some, None, cond, slice_index_or, ap, sym, ◌∙◌}
use Rattle.std.proofs.lemmas.Option.{slice_get-get_or}
use Rattle.afdx_session.specs.declared.plan.RunFault.TheVariants.{Closed}
use Rattle.afdx_session.specs.Session.{refusal_at}
use Rattle.afdx_session.proofs.Places.{is_lane_of, position_at, position_none, intake_found, no_such_intake}
use Rattle.afdx_session.proofs.lane.open_place.Goals as goal

pub returns-then-lanes-place-clause-err : goal.returns-then-lanes-place-clause-err
returns-then-lanes-place-clause-err g c =
    let lanes = c.args.lanes.now in
    let lane = slice_index_or lanes c.in-Some.place c.index-lanes-place.result in
    let found = position_at (is_lane_of c.args.port) lanes c.in-Some.place (sym c.place_of.ensures ∙ c.in-Some.is) in
    ap refusal_at (intake_found lanes c.args.port c.in-Some.place lane found.0 found.1 (slice_get-get_or lanes c.in-Some.place c.index-lanes-place.result found.1))
    ∙ ap (λ b. cond b (Some Closed) None) c.if-lanes-place.true

pub returns-else-lanes-place-clause-ok : goal.returns-else-lanes-place-clause-ok
returns-else-lanes-place-clause-ok g c =
    let lanes = c.args.lanes.now in
    let found = position_at (is_lane_of c.args.port) lanes c.in-Some.place (sym c.place_of.ensures ∙ c.in-Some.is) in
    record {
      lane = slice_index_or lanes c.in-Some.place c.index-lanes-place.result;
      at = slice_get-get_or lanes c.in-Some.place c.index-lanes-place.result found.1;
      first = sym c.place_of.ensures ∙ c.in-Some.is;
      still_open = c.if-lanes-place.false;
    }

pub returns-in-None-clause-err : goal.returns-in-None-clause-err
returns-in-None-clause-err g c =
    ap refusal_at (no_such_intake c.args.lanes.now c.args.port (position_none (is_lane_of c.args.port) c.args.lanes.now (sym c.place_of.ensures ∙ c.in-None.is)))
