use Rattle.std.proofs.Common.{refl, sym, rules, set, ◌∙◌}
use Rattle.std.proofs.Common.{length-set}
use Rattle.afdx_session.proofs.Closing.{no_fault}
use Rattle.afdx_session.proofs.Intakes.{all_touched_none, ended_intake}
use Rattle.afdx_session.proofs.Calls.{reads_open, half_ended, not_ended, half_of_table, lane_reads_on, marked_at}
use Rattle.afdx_session.proofs.FromReaders.{of_end}
use Rattle.afdx_session.proofs.Feeding.{goes_on_into, stops_at}
use Rattle.afdx_session.proofs.machine.Machine.close_into.Goals as goal

pub close-requires : goal.close-requires
close-requires g c =
    let m = c.args.self.now in
    let at = reads_open m.lanes.items c.requires.still_open.0 c.args.place c.index_mut.result.now _ c.requires.still_open.1 c.index_mut.ensures.value in
    let going = c.requires.ready.1.running.going in
    no_fault m.lanes.items going.streams c.args.place c.index_mut.result.now going.lanes_are at.0

pub returns-in_err-close-clause-err : goal.returns-in_err-close-clause-err
returns-in_err-close-clause-err g c =
    let m = c.args.self.now in
    let at = reads_open m.lanes.items c.requires.still_open.0 c.args.place c.index_mut.result.now _ c.requires.still_open.1 c.index_mut.ensures.value in
    let fault = c.in_err-close.field-0.0 in
    let why = not_ended c.requires.ready.0 m.lanes.items (set m.lanes.items c.args.place c.close.new.self) c.args.place c.index_mut.result.now c.close.new.self fault
    c.requires.ready.1.marked at.0 c.close.ensures.still c.close.ensures.undone c.close.ensures.bytes (all_touched_none (set m.lanes.items c.args.place c.close.new.self))
    c.in_err-close.ensures.err in
    let stops = stops_at m.lanes.items c.args.place c.close.new.self fault _ (of_end _ _ fault c.in_err-close.ensures.err) why in
    search rules

pub make_round_into-requires-clause-of : goal.make_round_into-requires-clause-of
make_round_into-requires-clause-of g c =
    let m = c.args.self.now in
    let at = reads_open m.lanes.items c.requires.still_open.0 c.args.place c.index_mut.result.now _ c.requires.still_open.1 c.index_mut.ensures.value in
    half_of_table m.switch.run.table m.lanes.items _ (half_ended m.lanes.items c.args.place c.index_mut.result.now c.close.new.self at.0 c.close.ensures.still c.close.ensures.undone
    c.close.ensures.bytes) c.requires.of

pub make_round_into-requires-clause-going : goal.make_round_into-requires-clause-going
make_round_into-requires-clause-going g c =
    let m = c.args.self.now in
    let at = reads_open m.lanes.items c.requires.still_open.0 c.args.place c.index_mut.result.now _ c.requires.still_open.1 c.index_mut.ensures.value in
    lane_reads_on c.by_stamp_is_ordered.ensures c.merged_is_a_merge.ensures c.merged_is_by_stamp_and_port.ensures c.requires.ready.0 m c.args.place c.index_mut.result.now c.close.new.self
    c.in_ok-close.ensures.ok.0 c.requires.of c.requires.ready.1 at.0 at.1 c.close.ensures.still
    c.in_ok-close.ensures.ok.1

pub make_round_into-requires-clause-files : goal.make_round_into-requires-clause-files
make_round_into-requires-clause-files g c = c.requires.files ∙ sym (length-set c.args.self.now.lanes.items c.args.place c.close.new.self)

pub returns-clause-ok : goal.returns-clause-ok
returns-clause-ok g c =
    let m = c.args.self.now in
    let lane = c.index_mut.result.now in
    let at = reads_open m.lanes.items c.requires.still_open.0 c.args.place lane _ c.requires.still_open.1 c.index_mut.ensures.value in
    let still = c.close.ensures.still in
    let marked = marked_at c.requires.ready.0 m.lanes.items c.args.place lane c.requires.ready.1.marked at.0 in
    record {
      lane = lane;
      at = at.0;
      on = goes_on_into g.F.NewFile.contents m _ c.make_round_into.new.self c.settle.new.self c.args.files.now c.make_round_into.new.files c.requires.ready.0 c.args.place lane c.close.new.self _
          c.requires.of c.requires.ready.1 at.0 still.port still.taken c.in_ok-close.ensures.ok.2
          (ended_intake c.requires.ready.0 lane c.close.new.self marked still.port c.close.ensures.bytes c.close.ensures.ended still.taken)
          refl refl c.in_ok-make_round_into.ensures.ok c.settle.ensures.lanes c.settle.ensures.switch c.settle.ensures.counts;
    }
