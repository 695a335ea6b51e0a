use Rattle.std.proofs.Common.{inr, ◌∙◌}
use Rattle.afdx_session.specs.Inner.Stop.{IsStopSince}
use Rattle.afdx_session.proofs.FromReaders.{reads_then, stop_since, ended_of, next_within}
use Rattle.afdx_session.proofs.Sessions.{of_error}
use Rattle.afdx_session.proofs.sources.read_all.Goals as goal

pub returns-in_default-clause-ok : goal.returns-in_default-clause-ok
returns-in_default-clause-ok g c =
    let on = c.loop-turn.invariant.on in (
      on,
      ended_of g.R.Read.remaining g.F.NewFile.contents c.args.start c.loop-turn.session c.args.ports.now c.args.readers.now c.loop-turn.readers c.args.files.now c.loop-turn.files
          c.requires.ports c.requires.readers on (inr c.in_default.ensures.none),
    )

pub returns-in_err-session-clause-err : goal.returns-in_err-session-clause-err
returns-in_err-session-clause-err g c =
    let v = c.args.start in
    let rem = g.R.Read.remaining in
    let why = c.in_err-session.field-0.0 in
    of_error (IsStopSince rem v c.args.readers.now c.read_on.new.readers) c.from_residual.result why c.from_residual.ensures
    (stop_since rem g.F.NewFile.contents v c.loop-turn.session c.args.readers.now c.loop-turn.readers c.read_on.new.readers c.args.files.now c.loop-turn.files why c.loop-turn.invariant.on
    c.in_err-session.ensures.err)

pub returns-then-not-more-clause-ok : goal.returns-then-not-more-clause-ok
returns-then-not-more-clause-ok g c =
    let v = c.args.start in
    let was = c.loop-turn.invariant.on in
    let reads = c.in_ok-session.ensures.ok in (
      reads_then g.R.Read.remaining g.F.NewFile.contents v c.loop-turn.session c.in_ok-session.field-0-0 c.args.readers.now c.loop-turn.readers c.read_on.new.readers
          c.args.files.now c.loop-turn.files c.read_on.new.files was reads.on,
      λ first read. reads.all c.if-not-more.true first (was.read first read),
    )

pub loop-turn-preserved : goal.loop-turn-preserved
loop-turn-preserved g c = record {
  on = reads_then g.R.Read.remaining g.F.NewFile.contents c.args.start c.loop-turn.session c.in_ok-session.field-0-0 c.args.readers.now c.loop-turn.readers c.read_on.new.readers
      c.args.files.now c.loop-turn.files c.read_on.new.files c.loop-turn.invariant.on c.in_ok-session.ensures.ok.on;
  room = c.read_on.ensures.room ∙ c.loop-turn.invariant.room;
}

pub returns-in-Some-next_place-clause-err : goal.returns-in-Some-next_place-clause-err
returns-in-Some-next_place-clause-err g c =
    next_within g.R.Read.remaining g.F.NewFile.contents c.args.start c.loop-turn.session c.args.readers.now c.loop-turn.readers c.args.files.now c.loop-turn.files c.args.ports.now
    c.in-Some-next_place.next c.in-Some-next_place.field-0-1 c.requires.ports c.requires.readers c.loop-turn.invariant.on c.in-Some-next_place.ensures.some

pub returns-in-None-clause-ok : goal.returns-in-None-clause-ok
returns-in-None-clause-ok g c =
    let on = c.loop-turn.invariant.on in (
      on,
      ended_of g.R.Read.remaining g.F.NewFile.contents c.args.start c.loop-turn.session c.args.ports.now c.args.readers.now c.loop-turn.readers c.args.files.now c.loop-turn.files
          c.requires.ports c.requires.readers on (inr c.in-None.ensures.none),
    )
