use Rattle.std.proofs.Common.{rules, arith, ◌≡◌, ◌≤◌, ◌<◌, ◌++◌, ◌∷◌, [], length, length-set, take, subst, sym, ◌∙◌, slice_index_or}
use Rattle.std.proofs.lemmas.Option.{slice_get-get_or}
use Rattle.afdx_session.specs.Inner.Stop.{AreReadOut, IsFoundIn}
use Rattle.afdx_session.proofs.Stopping.{out_more, found_more, set_later}
use Rattle.afdx_session.proofs.stop.fault_before.Goals as goal

pub offset_bounds-lanes-at : goal.offset_bounds-lanes-at
offset_bounds-lanes-at g c =
    let lt : c.loop-at.at < length c.args.lanes.now = let test = c.loop-at-test.true in let le = c.requires.lanes in omega (arith, test, le) in
    search (rules, lt)

pub offset_bounds-readers-at : goal.offset_bounds-readers-at
offset_bounds-readers-at g c =
    let lt : c.loop-at.at < length c.args.readers.now = let test = c.loop-at-test.true in let le = c.requires.readers in omega (arith, test, le) in
    search (rules, lt)

pub read_through-requires-clause-on : goal.read_through-requires-clause-on
read_through-requires-clause-on g c =
    let was = c.loop-at.invariant in
    let at = c.loop-at.at in
    let in_lanes : at < length c.loop-at.lanes = let test = c.loop-at-test.true in let le = c.requires.lanes in let long = was.lanes_long in omega (arith, test, le, long) in
    let in_readers : at < length c.loop-at.readers = let test = c.loop-at-test.true in let le = c.requires.readers in let long = was.readers_long in omega (arith, test, le, long) in
    let self : at ≤ at = omega (arith) in
    c.requires.on at (slice_index_or c.loop-at.readers at c.index-readers-at.result) (slice_index_or c.loop-at.lanes at c.index-lanes-at.result) c.loop-at-test.true
    (sym (was.readers_later at self) ∙ slice_get-get_or c.loop-at.readers at c.index-readers-at.result in_readers)
    (sym (was.lanes_later at self) ∙ slice_get-get_or c.loop-at.lanes at c.index-lanes-at.result in_lanes)

pub loop-at-preserved : goal.loop-at-preserved
loop-at-preserved g c =
    let was = c.loop-at.invariant in
    let at = c.loop-at.at in
    let in_lanes : at < length c.loop-at.lanes = let test = c.loop-at-test.true in let le = c.requires.lanes in let long = was.lanes_long in omega (arith, test, le, long) in
    let in_readers : at < length c.loop-at.readers = let test = c.loop-at-test.true in let le = c.requires.readers in let long = was.readers_long in omega (arith, test, le, long) in
    let self : at ≤ at = omega (arith) in
    let lane = slice_index_or c.loop-at.lanes at c.index-lanes-at.result in
    let reader = slice_index_or c.loop-at.readers at c.index-readers-at.result in
    let is_lane = sym (was.lanes_later at self) ∙ slice_get-get_or c.loop-at.lanes at c.index-lanes-at.result in_lanes in
    let is_reader = sym (was.readers_later at self) ∙ slice_get-get_or c.loop-at.readers at c.index-readers-at.result in_readers in
    let read = c.in_ok-why.ensures.ok in
    let texts = was.texts ++ (lane.port, lane.reader.bytes ++ read.0) ∷ [] in
    record {
      room = c.read_through.ensures.room ∙ was.room;
      lanes_long = length-set c.loop-at.lanes at c.read_through.new.lane ∙ was.lanes_long;
      readers_long = length-set c.loop-at.readers at c.read_through.new.reader ∙ was.readers_long;
      lanes_later = λ k le. set_later c.loop-at.lanes at k c.read_through.new.lane (omega (arith, le)) ∙ was.lanes_later k (omega (arith, le));
      readers_later = λ k le. set_later c.loop-at.readers at k c.read_through.new.reader (omega (arith, le)) ∙ was.readers_later k (omega (arith, le));
      texts = texts;
      out = out_more g.R.Read.remaining at c.args.lanes.now c.args.readers.now was.texts lane reader read.0 was.out is_lane is_reader read.1;
      found = subst (IsFoundIn texts) (sym c.first_found-found.ensures) (found_more was.texts c.loop-at.found lane.port (lane.reader.bytes ++ read.0) c.in_ok-why.why was.found read.2);
    }

pub returns-clause-ok : goal.returns-clause-ok
returns-clause-ok g c =
    let was = c.loop-at.invariant in
    let same : c.loop-at.at ≡ c.args.place = let past = c.loop-at-test.false in let end = c.loop-at.auto.at-end in omega (arith, past, end) in
    (was.texts, subst (λ n. AreReadOut g.R.Read.remaining (take n c.args.lanes.now) (take n c.args.readers.now) was.texts) same was.out, was.found)
