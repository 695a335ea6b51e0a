use Rattle.afdx_session.proofs.Draining.{fewer_left}
use Rattle.afdx_session.proofs.Drawing.{same_handed}
use Rattle.afdx_session.proofs.Gone.{with_out}
use Rattle.afdx_session.proofs.Putting.{into_none, into_bound, into_one, into_end, takes_out}
use Rattle.afdx_session.proofs.drain.drain_into.Goals as goal

pub loop-lane-init : goal.loop-lane-init
loop-lane-init g c = into_none g.F.NewFile.contents c.args.switch.now c.args.lane.now c.args.file.now

pub hand_over-requires : goal.hand_over-requires
hand_over-requires g c =
    let first = c.args.lane.now in
    let was = c.loop-lane.invariant in
    let takes = takes_out first.port c.loop-lane.switch c.next_out_into.new.self c.loop-lane.lane c.next_out_into.new.capture was.off.alike.port
    (c.in_ok-next_out_into.ensures.ok.text c.if-branch.true) in
    record {
      bound = into_bound g.F.NewFile.contents c.args.switch.now c.loop-lane.switch c.next_out_into.new.self first c.loop-lane.lane
          (with_out c.next_out_into.new.capture c.loop-lane.lane) c.args.file.now c.loop-lane.file
          c.requires.room.0 c.requires.room.1 c.requires.handed was takes;
    }

pub loop-lane-preserved : goal.loop-lane-preserved
loop-lane-preserved g c =
    let first = c.args.lane.now in
    let was = c.loop-lane.invariant in
    let takes = takes_out first.port c.loop-lane.switch c.next_out_into.new.self c.loop-lane.lane c.next_out_into.new.capture was.off.alike.port
    (c.in_ok-next_out_into.ensures.ok.text c.if-branch.true) in
    let over = c.in_ok-hand_over.ensures in
    into_one g.F.NewFile.contents c.args.switch.now c.loop-lane.switch c.next_out_into.new.self first c.loop-lane.lane
    (with_out c.next_out_into.new.capture c.loop-lane.lane) c.hand_over.new.self c.args.file.now
    c.loop-lane.file c.hand_over.new.file over.0 c.requires.handed was takes over.1 over.2

pub loop-lane-smaller : goal.loop-lane-smaller
loop-lane-smaller g c =
    let first = c.args.lane.now in
    let was = c.loop-lane.invariant in
    let takes = takes_out first.port c.loop-lane.switch c.next_out_into.new.self c.loop-lane.lane c.next_out_into.new.capture was.off.alike.port
    (c.in_ok-next_out_into.ensures.ok.text c.if-branch.true) in
    fewer_left first.port c.loop-lane.switch c.next_out_into.new.self takes.out takes.place takes.sent
    (same_handed first.port c.args.switch.now c.loop-lane.switch c.requires.handed was.drained) takes.handed

pub returns-clause-into : goal.returns-clause-into
returns-clause-into g c =
    let none = c.in_ok-next_out_into.ensures.ok.none c.if-branch.false in
    into_end g.F.NewFile.contents c.args.switch.now c.loop-lane.switch c.next_out_into.new.self c.args.lane.now c.loop-lane.lane c.next_out_into.new.capture c.args.file.now c.loop-lane.file
    none.0.1 none.1
    c.loop-lane.invariant
