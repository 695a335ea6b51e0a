use Rattle.std.proofs.Common.{[], refl, sym, ◌∙◌}
use Rattle.std.proofs.KnownBytes.{Consumes-nil}
use Rattle.std.proofs.lemmas.List.{append-nil}
use Rattle.afdx_session.proofs.FromReaders.{kept_consumes}
use Rattle.afdx_session.proofs.Stopping.{reading_on, reading_still, reading_found, ended_before}
use Rattle.afdx_session.proofs.stop.read_through.Goals as goal
use Rattle.afdx_session.proofs.stop.read_through.Goals.{in-Ok+in_ok-why-in-Ok+in_default, in-Err+else-ne}

pub returns-then-is_closed-clause-ok : goal.returns-then-is_closed-clause-ok
returns-then-is_closed-clause-ok g c =
    ended_before (g.R.Read.remaining c.args.reader.now) c.args.lane.now.reader.bytes c.in_ok-end.field-0 (c.requires.on.ended (sym c.is_closed.ensures ∙ c.if-is_closed.true)) c.in_ok-end.ensures

pub loop-turn-init : goal.loop-turn-init
loop-turn-init g c = record {
  on = record {
    so_far = [];
    came = Consumes-nil (g.R.Read.remaining c.args.reader.now);
    bytes = sym (append-nil c.args.lane.now.reader.bytes);
    still_open = sym c.is_closed.ensures ∙ c.if-is_closed.false;
    may = c.requires.on.may;
  };
  room = refl;
}

pub returns-in-Some-clause-ok : goal.returns-in-Some-clause-ok
returns-in-Some-clause-ok g c =
    let rem = g.R.Read.remaining in
    let early = rw c.in-Some.is at c.in_ok-why-in-Ok.ensures in
    reading_found c.early_faults_stay.ensures (rem c.args.reader.now) (rem c.loop-turn.reader) (rem c.read.new.self) c.args.lane.now.reader.bytes _ c.loop-turn.lane c.in-Some.why
    c.loop-turn.invariant.on c.in-Ok.ensures.bytes.0 early

pub loop-turn-preserved : goal.loop-turn-preserved
loop-turn-preserved g c =
    let rem = g.R.Read.remaining in
    record {
      on = elim c.match-read.branch [
        | in-Ok+in_ok-why-in-Ok+in_default w ↦
            let skimmed = rw w.in_default.is at w.in_ok-why-in-Ok.ensures in
            reading_on (rem c.args.reader.now) (rem c.loop-turn.reader) (rem c.read.new.self) c.args.lane.now.reader.bytes _ c.loop-turn.lane w.skim.new.self c.match-read.lane
            c.loop-turn.invariant.on w.in-Ok.ensures.bytes.0 skimmed w.lane-is
        | in-Err+else-ne w ↦
            reading_still (rem c.args.reader.now) (rem c.loop-turn.reader) (rem c.read.new.self) c.args.lane.now.reader.bytes c.loop-turn.lane c.match-read.lane
            c.loop-turn.invariant.on (kept_consumes (rem c.loop-turn.reader) (rem c.read.new.self) w.in-Err.ensures.bytes) w.lane-is
      ];
      room = c.read.auto.buf ∙ c.loop-turn.invariant.room;
    }
