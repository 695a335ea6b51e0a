use Rattle.std.proofs.Common.{arith, refl, ◌<◌, length, slice_index_or, sym, ap, ◌∙◌, Some}
use Rattle.std.proofs.lemmas.Option.{slice_get-get_or}
use Rattle.afdx_session.proofs.Parts.{puts_none, puts_one, bound_at}
use Rattle.afdx_session.proofs.machine.Machine.hand_over.Goals as goal

pub loop-place-init : goal.loop-place-init
loop-place-init g c = record { puts = puts_none g.F.NewFile.contents c.args.self.now c.args.files.now c.requires.carrying; switch = refl; counts = refl }

pub hand_over-requires : goal.hand_over-requires
hand_over-requires g c =
    let was = c.loop-place.invariant.puts in
    let items = c.loop-place.self.lanes.items in
    let place = c.loop-place.place in
    let lt : place < length items = let test = c.loop-place-test.true in let end = c.len-place-end.ensures in let many = was.many in omega (arith, test, end, many) in
    let at = slice_get-get_or items place c.index_mut.result.now lt ∙ ap Some (sym c.index_mut.ensures.value) in
    record { bound = bound_at c.by_stamp_is_ordered.ensures g.F.NewFile.contents c.args.self.now c.args.files.now items c.loop-place.files place c.index_mut.result.now was at }

pub loop-place-preserved : goal.loop-place-preserved
loop-place-preserved g c =
    let was = c.loop-place.invariant.puts in
    let items = c.loop-place.self.lanes.items in
    let place = c.loop-place.place in
    let lt : place < length items = let test = c.loop-place-test.true in let end = c.len-place-end.ensures in let many = was.many in omega (arith, test, end, many) in
    let at = slice_get-get_or items place c.index_mut.result.now lt ∙ ap Some (sym c.index_mut.ensures.value) in
    let there : place < length c.loop-place.files = let long = was.long in let given = c.requires.files in let many = was.many in omega (arith, lt, long, given, many) in
    let file = slice_get-get_or c.loop-place.files place c.index-files-place.result there in
    let handed = c.in_ok-hand_over.ensures in
    record {
      puts = puts_one c.by_stamp_is_ordered.ensures c.arrivals_change_nothing_earlier.ensures.admission c.stamps_keep_their_order.ensures.instants c.sent_goes_on.ensures
          c.taken_records_are_the_first.ensures.ends c.taken_records_begin_the_capture.ensures c.each_file_has_one_reading.ensures.one_list g.F.NewFile.contents c.args.self.now c.args.files.now
          items c.loop-place.files place handed.0 c.index_mut.result.now c.hand_over.new.self (slice_index_or c.loop-place.files place c.index-files-place.result)
          c.hand_over.new.file at file handed.1 handed.2 was;
      switch = c.loop-place.invariant.switch;
      counts = c.loop-place.invariant.counts;
    }
