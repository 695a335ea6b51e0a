use Rattle.std.proofs.Common.{rules, arith, ◌<◌, length, refl, slice_index_or}
use Rattle.std.proofs.lemmas.Option.{slice_get-get_or}
use Rattle.afdx_merging.proofs.Advancing.{sound_before, stopped_at}
use Rattle.afdx_merging.proofs.merging.advance_at.Goals as goal

pub offset_bounds-lanes-place : goal.offset_bounds-lanes-place
offset_bounds-lanes-place g c = let lt = c.requires.place in search (rules, lt)

pub offset_bounds-readers-place : goal.offset_bounds-readers-place
offset_bounds-readers-place g c =
    let place = c.requires.place in
    let long = c.requires.readers in
    let lt : c.args.place < length c.args.readers.now = omega (arith, place, long) in
    search (rules, lt)

pub advance-requires-clause-no_fault : goal.advance-requires-clause-no_fault
advance-requires-clause-no_fault g c =
    let lanes = c.args.lanes.now in
    let place = c.args.place in
    let d = c.index-lanes-place.result in
    c.requires.no_fault place (slice_index_or lanes place d) (omega arith) (slice_get-get_or lanes place d c.requires.place)

pub advance-requires-clause-none : goal.advance-requires-clause-none
advance-requires-clause-none g c =
    let lanes = c.args.lanes.now in
    let d = c.index-lanes-place.result in
    c.requires.none (slice_index_or lanes c.args.place d) (slice_get-get_or lanes c.args.place d c.requires.place)

pub returns-in-Ok-clause-ok : goal.returns-in-Ok-clause-ok
returns-in-Ok-clause-ok g c =
    let lanes = c.args.lanes.now in
    let readers = c.args.readers.now in
    let place = c.args.place in
    let d = c.index-lanes-place.result in
    let e = c.index-readers-place.result in
    let test = c.requires.place in
    let long = c.requires.readers in
    record {
      lane = slice_index_or lanes place d;
      later = c.advance.new.self;
      reader = slice_index_or readers place e;
      after = c.advance.new.reader;
      at = slice_get-get_or lanes place d test;
      here = slice_get-get_or readers place e (omega (arith, test, long));
      lanes = refl;
      readers = refl;
      clock = c.in-Ok.ensures.clock;
      at_hand = c.in-Ok.ensures.at_hand;
      on = c.in-Ok.ensures.ok;
    }

pub first_failure-requires-clause-no_fault : goal.first_failure-requires-clause-no_fault
first_failure-requires-clause-no_fault g c = sound_before c.args.lanes.now c.args.place c.advance.new.self c.requires.no_fault

pub returns-in-Err-clause-err : goal.returns-in-Err-clause-err
returns-in-Err-clause-err g c = λ first long read.
    let lanes = c.args.lanes.now in
    let readers = c.args.readers.now in
    let place = c.args.place in
    let d = c.index-lanes-place.result in
    let e = c.index-readers-place.result in
    let test = c.requires.place in
    let many = c.requires.readers in
    let within : place < length readers = omega (arith, test, many) in
    c.first_failure.ensures.answer first
    (stopped_at g.R.Read.remaining first readers lanes place (slice_index_or lanes place d) c.advance.new.self (slice_index_or readers place e) c.advance.new.reader c.in-Err.fault within long
    (slice_get-get_or lanes place d test) (slice_get-get_or readers place e within) read c.in-Err.ensures.err)
