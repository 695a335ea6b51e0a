use Rattle.std.proofs.Common.{rules, arith, length, slice_index_or, sym, subst}
use Rattle.std.proofs.lemmas.Option.{slice_get-get_or}
use Rattle.afdx_session.specs.Sources.{HasFirstFault}
use Rattle.afdx_session.specs.Inner.Stop.{IsUnread}
use Rattle.afdx_session.proofs.Sessions.{of_error}
use Rattle.afdx_session.proofs.Stopping.{stopped_within, unread_more, first_of_all}
use Rattle.afdx_session.proofs.stop.fault_of_all.Goals as goal

pub offset_bounds-lanes-place : goal.offset_bounds-lanes-place
offset_bounds-lanes-place g c =
    let s = c.requires.stopped in
    let lt = (stopped_within g.R.Read.remaining s.0 s.1 c.args.readers.now c.args.place c.args.why c.args.lanes.now s.2).0 in
    search (rules, lt)

pub bounds-lanes-place : goal.bounds-lanes-place
bounds-lanes-place g c =
    let s = c.requires.stopped in
    (stopped_within g.R.Read.remaining s.0 s.1 c.args.readers.now c.args.place c.args.why c.args.lanes.now s.2).0

pub bounds-lanes-place-2 : goal.bounds-lanes-place-2
bounds-lanes-place-2 g c =
    let s = c.requires.stopped in
    (stopped_within g.R.Read.remaining s.0 s.1 c.args.readers.now c.args.place c.args.why c.args.lanes.now s.2).0

pub fault_before-requires-clause-lanes : goal.fault_before-requires-clause-lanes
fault_before-requires-clause-lanes g c =
    let s = c.requires.stopped in
    let lt = (stopped_within g.R.Read.remaining s.0 s.1 c.args.readers.now c.args.place c.args.why c.args.lanes.now s.2).0 in
    omega (arith, lt)

pub returns-in_err-found-clause-err : goal.returns-in_err-found-clause-err
returns-in_err-found-clause-err g c =
    let s = c.requires.stopped in
    let lt = (stopped_within g.R.Read.remaining s.0 s.1 c.args.readers.now c.args.place c.args.why c.args.lanes.now s.2).1 in
    let fault = c.in_err-found.field-0.0 in
    of_error (IsUnread (length c.args.readers.now)) c.from_residual.result fault c.from_residual.ensures
    (unread_more c.args.place (length c.args.readers.now) fault (omega (arith, lt)) c.in_err-found.ensures.err)

pub returns-clause-ok : goal.returns-clause-ok
returns-clause-ok g c = λ t first stopped.
    let rem = g.R.Read.remaining in
    let d = c.index-lanes-place.result in
    let lt = (stopped_within rem t first c.args.readers.now c.args.place c.args.why c.args.lanes.now stopped).0 in
    let out = c.in_ok-found.ensures.ok in
    subst (λ f. HasFirstFault rem t first f.0 f.1) (sym c.unwrap_or.ensures)
    (first_of_all c.early_faults_stay.ensures rem t first c.args.readers.now c.args.lanes.now c.args.place (slice_index_or c.args.lanes.now c.args.place d) c.args.why out.0 c.in_ok-found.found
    (slice_get-get_or c.args.lanes.now c.args.place d lt) out.1 out.2 stopped)
