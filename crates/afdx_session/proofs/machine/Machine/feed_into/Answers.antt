use Rattle.std.proofs.Common.{refl, sym, rules, set, ◌∙◌}
use Rattle.std.proofs.Common.{length-set}
use Rattle.afdx_session.proofs.Closing.{no_fault}
use Rattle.afdx_session.proofs.Intakes.{all_touched_none, fed_intake}
use Rattle.afdx_session.proofs.Calls.{reads_open, half_fed, not_fed, half_of_table, lane_reads_on, marked_at}
use Rattle.afdx_session.proofs.FromReaders.{of_piece}
use Rattle.afdx_session.proofs.Feeding.{goes_on_into, stops_at}
use Rattle.afdx_session.proofs.machine.Machine.feed_into.Goals as goal

pub feed-requires-clause-no_fault : goal.feed-requires-clause-no_fault
feed-requires-clause-no_fault g c =
    let m = c.args.self.now in
    let at = reads_open m.lanes.items c.requires.still_open.0 c.args.place c.index_mut.result.now _ c.requires.still_open.1 c.index_mut.ensures.value in
    let going = c.requires.ready.1.running.going in
    no_fault m.lanes.items going.streams c.args.place c.index_mut.result.now going.lanes_are at.0

pub returns-in_err-feed-clause-err : goal.returns-in_err-feed-clause-err
returns-in_err-feed-clause-err g c =
    let m = c.args.self.now in
    let at = reads_open m.lanes.items c.requires.still_open.0 c.args.place c.index_mut.result.now _ c.requires.still_open.1 c.index_mut.ensures.value in
    let fault = c.in_err-feed.field-0.0 in
    let why = not_fed c.requires.ready.0 m.lanes.items (set m.lanes.items c.args.place c.feed.new.self) c.args.place c.index_mut.result.now c.feed.new.self c.args.piece.now fault
    c.requires.ready.1.marked at.0 c.feed.ensures.still c.feed.ensures.bytes (all_touched_none (set m.lanes.items c.args.place c.feed.new.self)) c.in_err-feed.ensures.err in
    let stops = stops_at m.lanes.items c.args.place c.feed.new.self fault _ (of_piece _ _ fault c.in_err-feed.ensures.err) why in
    search rules

pub make_round_into-requires-clause-of : goal.make_round_into-requires-clause-of
make_round_into-requires-clause-of g c =
    let m = c.args.self.now in
    let at = reads_open m.lanes.items c.requires.still_open.0 c.args.place c.index_mut.result.now _ c.requires.still_open.1 c.index_mut.ensures.value in
    half_of_table m.switch.run.table m.lanes.items _ (half_fed c.requires.ready.0 m.lanes.items c.args.place c.index_mut.result.now c.feed.new.self c.requires.ready.1.marked at.0 c.feed.ensures.still
    c.feed.ensures.bytes) c.requires.of

pub make_round_into-requires-clause-going : goal.make_round_into-requires-clause-going
make_round_into-requires-clause-going g c =
    let m = c.args.self.now in
    let at = reads_open m.lanes.items c.requires.still_open.0 c.args.place c.index_mut.result.now _ c.requires.still_open.1 c.index_mut.ensures.value in
    lane_reads_on c.by_stamp_is_ordered.ensures c.merged_is_a_merge.ensures c.merged_is_by_stamp_and_port.ensures c.requires.ready.0 m c.args.place c.index_mut.result.now c.feed.new.self
    c.in_ok-feed.ensures.ok.2.0 c.requires.of c.requires.ready.1 at.0 at.1 c.feed.ensures.still
    c.in_ok-feed.ensures.ok.2.1

pub make_round_into-requires-clause-files : goal.make_round_into-requires-clause-files
make_round_into-requires-clause-files g c = c.requires.files ∙ sym (length-set c.args.self.now.lanes.items c.args.place c.feed.new.self)

pub returns-clause-ok : goal.returns-clause-ok
returns-clause-ok g c =
    let m = c.args.self.now in
    let lane = c.index_mut.result.now in
    let at = reads_open m.lanes.items c.requires.still_open.0 c.args.place lane _ c.requires.still_open.1 c.index_mut.ensures.value in
    let came = c.in_ok-feed.ensures.ok in
    let still = c.feed.ensures.still in
    let marked = marked_at c.requires.ready.0 m.lanes.items c.args.place lane c.requires.ready.1.marked at.0 in
    record {
      lane = lane;
      at = at.0;
      on = goes_on_into g.F.NewFile.contents m _ c.make_round_into.new.self c.settle.new.self c.args.files.now c.make_round_into.new.files c.requires.ready.0 c.args.place lane c.feed.new.self _
          c.requires.of c.requires.ready.1 at.0 still.port still.taken came.3
          (fed_intake c.requires.ready.0 lane c.feed.new.self c.args.piece.now marked still.port came.0 (came.1 ∙ sym at.1) still.taken)
          refl refl c.in_ok-make_round_into.ensures.ok c.settle.ensures.lanes c.settle.ensures.switch c.settle.ensures.counts;
    }
