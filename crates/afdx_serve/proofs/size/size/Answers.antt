use Rattle.std.proofs.Common.{string_bytes}
use Rattle.afdx_messages.specs.declared.failure.Failure.TheVariants.{Write}
use Rattle.afdx_serve.proofs.Errors.{of_error}
use Rattle.afdx_serve.proofs.size.size.Goals as goal

pub returns-in_err-write_bytes : goal.returns-in_err-write_bytes
returns-in_err-write_bytes g c =
    let prefix = rw c.as_bytes.ensures.value at c.in_err-write_bytes.ensures.prefix in
    let got = c.in_ok-table.ensures in
    let text = c.in_ok-text.ensures in
    of_error _ _ _ Write c.from_residual-in_err-write_bytes.ensures
    ((string_bytes c.in_ok-text.text, (c.in_ok-table.table, got.got.0, text), prefix), (got.same, got.got.1))
