use Rattle.std.proofs.Common.{refl, sym, ◌∙◌}
use Rattle.clap.specs.Words.{found_of, rows_of}
use Rattle.afdx_arguments.proofs.ArgumentLemmas.{of_none}
use Rattle.afdx_arguments.proofs.CompareLemmas.{two_starts, none_there, never_both}
use Rattle.afdx_arguments.proofs.compare_arguments.recordings_of.Goals as goal
use Rattle.afdx_arguments.proofs.compare_arguments.recordings_of.Goals.{else-rest-via-then-rest+else-is_some, else-rest-via-else-rest}

pub returns-in_err-least : goal.returns-in_err-least
returns-in_err-least c = of_none _ _ _ c.from_residual.ensures (λ recordings h. c.in_err-least.ensures h.us h.has_us)

pub returns-in_err-tolerance : goal.returns-in_err-tolerance
returns-in_err-tolerance c = of_none _ _ _ c.from_residual-in_err-tolerance.ensures (λ recordings h. c.in_err-tolerance.ensures recordings.tolerance h.tolerance)

pub returns-in_err-stamps : goal.returns-in_err-stamps
returns-in_err-stamps c = of_none _ _ _ c.from_residual-in_err-stamps.ensures (λ recordings h. c.in_err-stamps.ensures recordings.stamps h.stamps)

pub returns-in_err-from : goal.returns-in_err-from
returns-in_err-from c = of_none _ _ _ c.from_residual-in_err-from.ensures (λ recordings h. c.in_err-from.ensures recordings.from h.from)

pub returns-in_err-until : goal.returns-in_err-until
returns-in_err-until c = of_none _ _ _ c.from_residual-in_err-until.ensures (λ recordings h. c.in_err-until.ensures recordings.until h.until)

pub returns-in_err-offsets : goal.returns-in_err-offsets
returns-in_err-offsets c = of_none _ _ _ c.from_residual-in_err-offsets.ensures (λ recordings h. c.in_err-offsets.ensures recordings.offsets h.offsets)

pub returns-in_err-outputs : goal.returns-in_err-outputs
returns-in_err-outputs c = of_none _ _ _ c.from_residual-in_err-outputs.ensures (λ recordings h. c.in_err-outputs.ensures recordings.outputs h.outputs)

pub returns : goal.returns
returns c = record {
  us = c.in_ok-least.least;
  has_us = c.in_ok-least.ensures;
  least = refl;
  tolerance = c.in_ok-tolerance.ensures;
  stamps = c.in_ok-stamps.ensures;
  rest = c.flag-rest.ensures;
  from = c.in_ok-from.ensures;
  until = c.in_ok-until.ensures;
  offsets = c.in_ok-offsets.ensures;
  outputs = c.in_ok-outputs.ensures;
  one_start = elim c.else-rest.branch [
    | else-rest-via-then-rest+else-is_some w ↦ λ rests. none_there c.in_ok-from.from (sym w.is_some.ensures ∙ w.if-is_some.false)
    | else-rest-via-else-rest w ↦ λ rests. never_both rests w.if-rest.false
  ];
}

pub returns-then-is_some : goal.returns-then-is_some
returns-then-is_some c =
    two_starts (rows_of (found_of c.args.matches.now)) c.flag-rest.result c.in_ok-from.from c.flag-rest.ensures c.if-rest.true c.in_ok-from.ensures (sym c.is_some.ensures ∙ c.if-is_some.true)
