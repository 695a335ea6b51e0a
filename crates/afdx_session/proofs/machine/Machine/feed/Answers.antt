use Rattle.std.proofs.Common.{rules, set}
use Rattle.afdx_session.specs.declared.plan.RunFault.TheVariants as run
use Rattle.afdx_session.proofs.Closing.{no_fault}
use Rattle.afdx_session.proofs.Intakes.{all_touched_none}
use Rattle.afdx_session.proofs.Calls.{reads_open, half_fed, not_fed, piece_came, half_of_table, others_stay, lane_reads_on, read_after, is_ready}
use Rattle.afdx_session.proofs.machine.Machine.feed.Goals as goal

pub feed-requires-clause-no_fault : goal.feed-requires-clause-no_fault
feed-requires-clause-no_fault g c =
    let m = c.args.self.now in
    let at = reads_open m.lanes.items c.requires.still_open.0 c.args.place c.index_mut.result.now _ c.requires.still_open.1 c.index_mut.ensures.value in
    let going = c.requires.ready.1.running.going in
    no_fault m.lanes.items going.streams c.args.place c.index_mut.result.now going.lanes_are at.0

pub returns-in_err-feed-clause-err : goal.returns-in_err-feed-clause-err
returns-in_err-feed-clause-err g c =
    let m = c.args.self.now in
    let at = reads_open m.lanes.items c.requires.still_open.0 c.args.place c.index_mut.result.now _ c.requires.still_open.1 c.index_mut.ensures.value in
    let why = not_fed c.requires.ready.0 m.lanes.items (set m.lanes.items c.args.place c.feed.new.self) c.args.place c.index_mut.result.now c.feed.new.self c.args.piece.now c.in_err-feed.field-0.0
    c.requires.ready.1.marked at.0 c.feed.ensures.still c.feed.ensures.bytes (all_touched_none (set m.lanes.items c.args.place c.feed.new.self)) c.in_err-feed.ensures.err in
    search rules

pub returns-in_err-feed-clause-others : goal.returns-in_err-feed-clause-others
returns-in_err-feed-clause-others g c =
    let stay = others_stay c.args.self.now.lanes.items c.args.place c.feed.new.self c.in_err-feed.field-0.0 in
    search rules

pub make_round-requires-clause-of : goal.make_round-requires-clause-of
make_round-requires-clause-of g c =
    let m = c.args.self.now in
    let at = reads_open m.lanes.items c.requires.still_open.0 c.args.place c.index_mut.result.now _ c.requires.still_open.1 c.index_mut.ensures.value in
    half_of_table m.switch.run.table m.lanes.items _ (half_fed c.requires.ready.0 m.lanes.items c.args.place c.index_mut.result.now c.feed.new.self c.requires.ready.1.marked at.0 c.feed.ensures.still
    c.feed.ensures.bytes) c.requires.of

pub make_round-requires-clause-going : goal.make_round-requires-clause-going
make_round-requires-clause-going g c =
    let m = c.args.self.now in
    let at = reads_open m.lanes.items c.requires.still_open.0 c.args.place c.index_mut.result.now _ c.requires.still_open.1 c.index_mut.ensures.value in
    lane_reads_on c.by_stamp_is_ordered.ensures c.merged_is_a_merge.ensures c.merged_is_by_stamp_and_port.ensures c.requires.ready.0 m c.args.place c.index_mut.result.now c.feed.new.self
    c.in_ok-feed.ensures.ok.2.0 c.requires.of c.requires.ready.1 at.0 at.1 c.feed.ensures.still
    c.in_ok-feed.ensures.ok.2.1

pub returns-in_err-make_round-clause-err : goal.returns-in_err-make_round-clause-err
returns-in_err-make_round-clause-err g c =
    let m = c.args.self.now in
    let at = reads_open m.lanes.items c.requires.still_open.0 c.args.place c.index_mut.result.now _ c.requires.still_open.1 c.index_mut.ensures.value in
    let why = not_fed c.requires.ready.0 m.lanes.items c.make_round.new.self.lanes.items c.args.place c.index_mut.result.now c.feed.new.self c.args.piece.now run.Memory c.requires.ready.1.marked at.0
    c.feed.ensures.still c.feed.ensures.bytes c.make_round.ensures.touched tt in
    search rules

pub returns-clause-ok : goal.returns-clause-ok
returns-clause-ok g c =
    let m = c.args.self.now in
    let at = reads_open m.lanes.items c.requires.still_open.0 c.args.place c.index_mut.result.now _ c.requires.still_open.1 c.index_mut.ensures.value in (
      is_ready c.make_round.new.self c.settle.new.self c.settle.ensures.lanes c.settle.ensures.switch c.settle.ensures.counts c.in_ok-make_round.ensures.ok
          (read_after m.lanes.items c.make_round.new.self.lanes.items c.args.place c.feed.new.self c.requires.ready.1.read c.in_ok-feed.ensures.ok.3 c.make_round.ensures.touched),
      piece_came c.requires.ready.0 m.lanes.items c.make_round.new.self.lanes.items c.settle.new.self.lanes.items c.args.place c.index_mut.result.now c.feed.new.self c.args.piece.now
          c.requires.ready.1.marked at.0 at.1 c.feed.ensures.still c.in_ok-feed.ensures.ok.0 c.in_ok-feed.ensures.ok.1 c.in_ok-feed.ensures.ok.3 c.make_round.ensures.touched c.settle.ensures.lanes,
    )
