use Rattle.std.proofs.Common.{◌∙◌}
use Rattle.afdx_merging.proofs.Reading.{drawn_by, stopped_by}
use Rattle.afdx_merging.proofs.lane.Lane.advance.Goals as goal

pub returns-in-Err-clause-err : goal.returns-in-Err-clause-err
returns-in-Err-clause-err g c = λ first given read.
    stopped_by g.R.Read.remaining first c.loop-turn.reader c.loop-turn.self given c.in-Err.fault c.in-Err.ensures.err (c.loop-turn.invariant.on first given read)

pub returns-then-done-clause-ok : goal.returns-then-done-clause-ok
returns-then-done-clause-ok g c = λ first given read.
    drawn_by g.R.Read.remaining first c.loop-turn.reader c.loop-turn.self c.draw.new.self c.in-Ok.done given c.in-Ok.ensures.ok (c.loop-turn.invariant.on first given read)

pub loop-turn-preserved : goal.loop-turn-preserved
loop-turn-preserved g c =
    let draws = c.in-Ok.ensures.ok in
    let more = draws.more c.if-done.false in
    let were = c.loop-turn.invariant in
    let now = c.in_ok-read.ensures in
    record {
      room = now.room ∙ were.room;
      clock = now.clock ∙ draws.clock ∙ were.clock;
      no_fault = now.no_fault;
      none = now.head ∙ more.0;
      on = λ first given read. now.ok first given
          (drawn_by g.R.Read.remaining first c.loop-turn.reader c.loop-turn.self c.draw.new.self c.in-Ok.done given draws (were.on first given read));
    }
