use Rattle.afdx_messages.specs.declared.failure.Failure.TheVariants.{Write}
use Rattle.afdx_serve.proofs.Errors.{of_error}
use Rattle.afdx_serve.proofs.serving.answer.Goals as goal

pub returns-in_err-write_bytes : goal.returns-in_err-write_bytes
returns-in_err-write_bytes g c =
    of_error _ _ _ Write c.from_residual-in_err-write_bytes.ensures (c.in_ok-text.text.items, c.in_ok-text.ensures.answer, rw c.deref.ensures.value at c.write_bytes.ensures.prefix)
