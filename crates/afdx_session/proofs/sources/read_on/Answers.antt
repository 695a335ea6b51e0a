use Rattle.std.proofs.Common.{true, false, rules, length, set, slice_index_or, refl, sym, subst}
use Rattle.afdx_session.specs.Inner.Stop.{IsStopSince}
use Rattle.afdx_session.specs.Session.{after_close}
use Rattle.afdx_session.proofs.FromReaders.{reader_at, place_within, end_found, reads_piece, reads_end, reads_nothing, reads_last, reads_into, parts_none, stops_at_piece, stops_at_end, stops_unread}
use Rattle.afdx_session.proofs.sources.read_on.Goals as goal

pub offset_bounds-readers-place : goal.offset_bounds-readers-place
offset_bounds-readers-place g c =
    let lt = place_within c.args.session c.args.ports.now c.args.readers.now c.args.port c.args.place c.requires.of c.requires.ports c.requires.readers c.requires.next.place_is in
    search (rules, lt)

pub bounds-readers-place : goal.bounds-readers-place
bounds-readers-place g c =
    place_within c.args.session c.args.ports.now c.args.readers.now c.args.port c.args.place c.requires.of c.requires.ports c.requires.readers c.requires.next.place_is

pub returns-then-is_last-clause-ok : goal.returns-then-is_last-clause-ok
returns-then-is_last-clause-ok g c =
    let v = c.args.session in
    let rem = g.R.Read.remaining in
    let readers = c.args.readers.now in
    let place = c.args.place in
    let d = c.index-readers-place.result in
    let there = reader_at v c.args.ports.now readers c.args.port place d c.requires.of c.requires.ports c.requires.readers c.requires.next.place_is in
    let end = end_found _ _ c.in-Ok-eq0.field-0 (length c.args.piece.now) c.read.new.buf c.in-Ok-eq0.ensures.bytes c.in-Ok-eq0.field-0-test c.read.auto.buf c.requires.room in
    let last = rw c.if-is_last.true at c.is_last.ensures.0 in
    let files = c.args.files.now in
    reads_into c.takes_join_to_the_output.ensures.calls rem g.F.NewFile.contents v v v readers (set readers place c.read.new.self) files files false c.requires.of
    (reads_last rem v readers c.args.port place (slice_index_or readers place d) c.read.new.self c.requires.of c.requires.next.may there end.0 end.1 (last refl))
    (parts_none g.F.NewFile.contents v files c.requires.of)

pub returns-in-Ok-close_into-clause-ok : goal.returns-in-Ok-close_into-clause-ok
returns-in-Ok-close_into-clause-ok g c =
    let v = c.args.session in
    let rem = g.R.Read.remaining in
    let readers = c.args.readers.now in
    let place = c.args.place in
    let d = c.index-readers-place.result in
    let there = reader_at v c.args.ports.now readers c.args.port place d c.requires.of c.requires.ports c.requires.readers c.requires.next.place_is in
    let end = end_found _ _ c.in-Ok-eq0.field-0 (length c.args.piece.now) c.read.new.buf c.in-Ok-eq0.ensures.bytes c.in-Ok-eq0.field-0-test c.read.auto.buf c.requires.room in
    let mid = after_close v c.args.port in
    reads_into c.takes_join_to_the_output.ensures.calls rem g.F.NewFile.contents v mid c.in-Ok-close_into.session readers
    (set readers place c.read.new.self) c.args.files.now c.close_into.new.files true
    c.requires.of
    (reads_end c.takes_join_to_the_output.ensures.calls rem v mid readers c.args.port place (slice_index_or readers place d) c.read.new.self c.requires.of there end.0 end.1 refl)
    c.in-Ok-close_into.ensures.ok

pub returns-in-Err-close_into-clause-err : goal.returns-in-Err-close_into-clause-err
returns-in-Err-close_into-clause-err g c =
    let v = c.args.session in
    let rem = g.R.Read.remaining in
    let readers = c.args.readers.now in
    let place = c.args.place in
    let d = c.index-readers-place.result in
    let there = reader_at v c.args.ports.now readers c.args.port place d c.requires.of c.requires.ports c.requires.readers c.requires.next.place_is in
    let end = end_found _ _ c.in-Ok-eq0.field-0 (length c.args.piece.now) c.read.new.buf c.in-Ok-eq0.ensures.bytes c.in-Ok-eq0.field-0-test c.read.auto.buf c.requires.room in
    subst (IsStopSince rem v readers (set readers place c.read.new.self)) (sym c.stop_of.ensures)
    (stops_at_end c.takes_join_to_the_output.ensures.calls rem v readers c.args.port place (slice_index_or readers place d) c.read.new.self c.in-Err-close_into.fault c.in-Err-close_into.lanes
    c.requires.of there end.0 end.1 c.in-Err-close_into.ensures.err)

pub returns-in-Ok-feed_into-clause-ok : goal.returns-in-Ok-feed_into-clause-ok
returns-in-Ok-feed_into-clause-ok g c =
    let v = c.args.session in
    let rem = g.R.Read.remaining in
    let readers = c.args.readers.now in
    let place = c.args.place in
    let d = c.index-readers-place.result in
    let there = reader_at v c.args.ports.now readers c.args.port place d c.requires.of c.requires.ports c.requires.readers c.requires.next.place_is in
    reads_into c.takes_join_to_the_output.ensures.calls rem g.F.NewFile.contents v _ c.in-Ok-feed_into.session readers (set readers place c.read.new.self) c.args.files.now c.feed_into.new.files true
    c.requires.of
    (reads_piece c.takes_join_to_the_output.ensures.calls rem v _ readers c.args.port place _ (slice_index_or readers place d) c.read.new.self
    c.requires.of c.requires.next.may there c.in-Ok.ensures.bytes.0 refl)
    c.in-Ok-feed_into.ensures.ok

pub returns-in-Err-feed_into-clause-err : goal.returns-in-Err-feed_into-clause-err
returns-in-Err-feed_into-clause-err g c =
    let v = c.args.session in
    let rem = g.R.Read.remaining in
    let readers = c.args.readers.now in
    let place = c.args.place in
    let d = c.index-readers-place.result in
    let there = reader_at v c.args.ports.now readers c.args.port place d c.requires.of c.requires.ports c.requires.readers c.requires.next.place_is in
    subst (IsStopSince rem v readers (set readers place c.read.new.self)) (sym c.stop_of-in-Err-feed_into.ensures)
    (stops_at_piece c.takes_join_to_the_output.ensures.calls rem v readers c.args.port place _ (slice_index_or readers place d) c.read.new.self c.in-Err-feed_into.fault c.in-Err-feed_into.lanes
    c.requires.of c.requires.next.may there c.in-Ok.ensures.bytes.0 c.in-Err-feed_into.ensures.err)

pub returns-then-ne-clause-err : goal.returns-then-ne-clause-err
returns-then-ne-clause-err g c =
    let v = c.args.session in
    let rem = g.R.Read.remaining in
    let readers = c.args.readers.now in
    let place = c.args.place in
    let d = c.index-readers-place.result in
    let there = reader_at v c.args.ports.now readers c.args.port place d c.requires.of c.requires.ports c.requires.readers c.requires.next.place_is in
    stops_unread g.row.A.Denot rem v readers c.args.port place (slice_index_or readers place d) c.read.new.self there

pub returns-else-ne-clause-ok : goal.returns-else-ne-clause-ok
returns-else-ne-clause-ok g c =
    let v = c.args.session in
    let rem = g.R.Read.remaining in
    let readers = c.args.readers.now in
    let place = c.args.place in
    let d = c.index-readers-place.result in
    let there = reader_at v c.args.ports.now readers c.args.port place d c.requires.of c.requires.ports c.requires.readers c.requires.next.place_is in
    let files = c.args.files.now in
    reads_into c.takes_join_to_the_output.ensures.calls rem g.F.NewFile.contents v v v readers (set readers place c.read.new.self) files files true c.requires.of
    (reads_nothing rem v readers c.args.port place (slice_index_or readers place d) c.read.new.self c.requires.of c.requires.next.may there c.in-Err.ensures.bytes)
    (parts_none g.F.NewFile.contents v files c.requires.of)
