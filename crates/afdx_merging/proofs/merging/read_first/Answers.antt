use Rattle.std.proofs.Common.{arith, refl, sym, ◌∙◌}
use Rattle.afdx_merging.specs.Read.{IsMergeFault, WereAllRead}
use Rattle.afdx_merging.proofs.Failing.{of_error}
use Rattle.afdx_merging.proofs.Opening.{opens, opens_more, none_yet, none_faulty_yet, read_so_far, opened}
use Rattle.afdx_merging.proofs.merging.read_first.Goals as goal

pub loop-place-init : goal.loop-place-init
loop-place-init g c = record {
  room = refl;
  on = λ clocks are long. opens g.R.Read.remaining clocks c.args.readers.now c.args.lanes.now are long;
}

pub advance_at-requires-clause-readers : goal.advance_at-requires-clause-readers
advance_at-requires-clause-readers g c =
    let f = c.requires.fresh in
    let opening = c.loop-place.invariant.on f.0 f.1 f.2 in
    opening.readers ∙ sym opening.many

pub advance_at-requires-clause-no_fault : goal.advance_at-requires-clause-no_fault
advance_at-requires-clause-no_fault g c =
    let f = c.requires.fresh in
    none_faulty_yet g.R.Read.remaining f.0 c.args.readers.now c.loop-place.readers c.loop-place.lanes c.loop-place.place (c.loop-place.invariant.on f.0 f.1 f.2) f.2

pub advance_at-requires-clause-none : goal.advance_at-requires-clause-none
advance_at-requires-clause-none g c =
    let f = c.requires.fresh in
    none_yet g.R.Read.remaining f.0 c.args.readers.now c.loop-place.readers c.loop-place.lanes c.loop-place.place (c.loop-place.invariant.on f.0 f.1 f.2)

pub returns-in_err-advance_at-clause-err : goal.returns-in_err-advance_at-clause-err
returns-in_err-advance_at-clause-err g c =
    let f = c.requires.fresh in
    let rem = g.R.Read.remaining in
    let opening = c.loop-place.invariant.on f.0 f.1 f.2 in
    let why = c.in_err-advance_at.field-0.0 in
    of_error (λ fault. IsMergeFault rem c.args.readers.now fault × WereAllRead rem c.advance_at.new.readers fault) c.from_residual.result why c.from_residual.ensures
    (c.in_err-advance_at.ensures.err c.args.readers.now (f.2 ∙ sym opening.readers)
    (read_so_far rem f.0 c.args.readers.now c.loop-place.readers c.loop-place.lanes c.loop-place.place opening f.2))

pub loop-place-preserved : goal.loop-place-preserved
loop-place-preserved g c = record {
  room = c.in_ok-advance_at.ensures.room ∙ c.loop-place.invariant.room;
  on = λ clocks are long.
      opens_more g.R.Read.remaining clocks c.args.readers.now c.loop-place.readers c.advance_at.new.readers c.loop-place.lanes c.advance_at.new.lanes c.loop-place.place
      (c.loop-place.invariant.on clocks are long) long c.in_ok-advance_at.ensures.ok;
}

pub returns-clause-ok : goal.returns-clause-ok
returns-clause-ok g c = λ clocks are long.
    opened g.R.Read.remaining clocks c.args.readers.now c.loop-place.readers c.loop-place.lanes c.loop-place.place (c.loop-place.invariant.on clocks are long)
    (let many = c.loop-place.auto.lanes in let past = c.loop-place-test.false in omega (arith, many, past))

pub returns-clause-kept : goal.returns-clause-kept
returns-clause-kept g c = let room = c.requires.room in let same = c.loop-place.invariant.room in omega (arith, room, same)
