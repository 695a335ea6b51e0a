use Rattle.std.proofs.Common.{◌++◌, ◌∙◌}
use Rattle.std.specs.Prelude.{option_to_list}
use Rattle.afdx_merging.proofs.Stopping.{without, none_is, ended_out, stopped_out}
use Rattle.afdx_merging.proofs.stop.read_through.Goals as goal

pub returns-then-is_none-clause-ok : goal.returns-then-is_none-clause-ok
returns-then-is_none-clause-ok g c = λ first given read.
    let more = c.loop-turn.invariant.on first given read in
    let lane = c.loop-turn.lane in
    let on = c.in-Ok.ensures.ok first (more.0 ++ option_to_list lane.head) (without g.R.Read.remaining first c.loop-turn.reader lane more.0 more.1) in
    ended_out c.taken_records_are_the_first.ensures.ends g.R.Read.remaining first c.advance.new.reader c.advance.new.self (more.0 ++ option_to_list lane.head) c.in-Ok.ensures.at_hand
    (none_is c.advance.new.self.head c.is_none.result c.is_none.ensures c.if-is_none.true) on

pub returns-in-Err-Capture-clause-ok : goal.returns-in-Err-Capture-clause-ok
returns-in-Err-Capture-clause-ok g c = λ first given read.
    let more = c.loop-turn.invariant.on first given read in
    let lane = c.loop-turn.lane in
    let stopped = rw c.in-Err-Capture.field-0-is at c.in-Err-Capture.ensures.err in (
      stopped_out c.early_faults_stay.ensures g.R.Read.remaining first c.advance.new.reader c.in-Err-Capture.why
          (stopped first (more.0 ++ option_to_list lane.head) (without g.R.Read.remaining first c.loop-turn.reader lane more.0 more.1)),
      c.in_ok-read_out-in-Err-Capture.ensures.end,
    )

pub loop-turn-preserved : goal.loop-turn-preserved
loop-turn-preserved g c =
    let were = c.loop-turn.invariant in
    let lane = c.loop-turn.lane in
    record {
      room = c.in-Ok.ensures.room ∙ were.room;
      no_fault = c.in-Ok.ensures.no_fault;
      on = λ first given read.
          let more = were.on first given read in (
            more.0 ++ option_to_list lane.head,
            c.in-Ok.ensures.ok first (more.0 ++ option_to_list lane.head) (without g.R.Read.remaining first c.loop-turn.reader lane more.0 more.1),
          );
    }
