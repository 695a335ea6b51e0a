use Rattle.std.proofs.Common.{arith, refl, ◌<◌, ◌≤◌, length, slice_index_or, sym, ap, ◌∙◌, Some}
use Rattle.std.proofs.lemmas.Option.{slice_get-get_or}
use Rattle.afdx_session.proofs.Calls.{handed_stays, handed_same}
use Rattle.afdx_session.proofs.Gone.{off_length}
use Rattle.afdx_session.proofs.Putting.{puts_up_none, puts_up_one, puts_up_all, can_take}
use Rattle.afdx_session.proofs.machine.Machine.drain_into_files.Goals as goal

pub loop-place-init : goal.loop-place-init
loop-place-init g c = record { puts = puts_up_none g.F.NewFile.contents c.args.self.now.switch c.args.self.now.lanes.items c.args.files.now; counts = refl }

pub drain_into-requires-clause-handed : goal.drain_into-requires-clause-handed
drain_into-requires-clause-handed g c =
    let start = c.args.self.now.switch in
    handed_stays start c.loop-place.self.switch (handed_same start c.loop-place.self.switch c.loop-place.invariant.puts.hands) c.requires.handed

pub drain_into-requires-clause-room : goal.drain_into-requires-clause-room
drain_into-requires-clause-room g c =
    let was = c.loop-place.invariant.puts in
    let items = c.loop-place.self.lanes.items in
    let place = c.loop-place.place in
    let lt : place < length items =
    let test = c.loop-place-test.true in let end = c.len-place-end.ensures in let many = off_length c.args.self.now.lanes.items items was.off in omega (arith, test, end, many) in
    let at = slice_get-get_or items place c.index_mut.result.now lt ∙ ap Some (sym c.index_mut.ensures.value) in
    can_take c.by_stamp_is_ordered.ensures c.sent_goes_on.ensures c.stamps_keep_their_order.ensures.instants g.F.NewFile.contents c.args.self.now c.args.files.now c.loop-place.self.switch items
    c.loop-place.files place c.index_mut.result.now c.requires.of c.requires.come.going was at

pub loop-place-preserved : goal.loop-place-preserved
loop-place-preserved g c =
    let was = c.loop-place.invariant.puts in
    let items = c.loop-place.self.lanes.items in
    let place = c.loop-place.place in
    let many = off_length c.args.self.now.lanes.items items was.off in
    let lt : place < length items = let test = c.loop-place-test.true in let end = c.len-place-end.ensures in omega (arith, test, end, many) in
    let at = slice_get-get_or items place c.index_mut.result.now lt ∙ ap Some (sym c.index_mut.ensures.value) in
    let there : place < length c.loop-place.files = let long = was.long in let given = c.requires.files in omega (arith, lt, long, given, many) in
    let file = slice_get-get_or c.loop-place.files place c.index-files-place.result there in
    record {
      puts = puts_up_one c.sent_goes_on.ensures c.stamps_keep_their_order.ensures.instants g.F.NewFile.contents c.args.self.now.switch c.loop-place.self.switch c.drain_into.new.switch
          c.args.self.now.lanes.items items c.args.files.now c.loop-place.files place c.index_mut.result.now c.drain_into.new.lane
          (slice_index_or c.loop-place.files place c.index-files-place.result) c.drain_into.new.file at file c.in_ok-drain_into.ensures.into c.in_ok-drain_into.ensures.none was;
      counts = c.loop-place.invariant.counts;
    }

pub returns : goal.returns
returns g c =
    let was = c.loop-place.invariant.puts in
    let items = c.loop-place.self.lanes.items in
    let most : length items ≤ c.loop-place.place =
    let test = c.loop-place-test.false in let end = c.len-place-end.ensures in let many = off_length c.args.self.now.lanes.items items was.off in omega (arith, test, end, many) in
    record {
      ok = puts_up_all g.F.NewFile.contents c.args.self.now c.loop-place.self c.args.files.now c.loop-place.files c.loop-place.place c.requires.of c.requires.come most
          c.loop-place.invariant.counts was;
    }
