use Rattle.std.proofs.Common.{string_bytes}
use Rattle.std.proofs.KnownBytes.{Keeps-refl}
use Rattle.afdx_messages.specs.declared.failure.Failure.TheVariants.{Memory, Write}
use Rattle.afdx_serve.proofs.Errors.{of_error}
use Rattle.afdx_serve.proofs.survey.survey.Goals as goal

pub returns-in_err-text : goal.returns-in_err-text
returns-in_err-text g c = of_error _ _ _ Memory c.from_residual-in_err-text.ensures (c.in_ok-counts.ensures.same, Keeps-refl _)

pub returns-in_err-write_bytes : goal.returns-in_err-write_bytes
returns-in_err-write_bytes g c =
    let prefix = rw c.as_bytes.ensures.value at c.in_err-write_bytes.ensures.prefix in
    let run = c.in_ok-counts.ensures in
    let text = rw (c.in-Some.ensures, run.led.0.run.counted) at c.in_ok-text.ensures in
    of_error _ _ _ Write c.from_residual-in_err-write_bytes.ensures ((string_bytes c.in_ok-text.text, (_, _, run.led.0, text), prefix), (run.same, run.led.1))

pub returns : goal.returns
returns g c =
    let written = rw c.as_bytes.ensures.value at c.in_ok-write_bytes.ensures.all in
    let run = c.in_ok-counts.ensures in
    let text = rw (c.in-Some.ensures, run.led.0.run.counted) at c.in_ok-text.ensures in
    ((string_bytes c.in_ok-text.text, (_, _, run.led.0, text), written), (run.same, run.led.1))
