use Rattle.std.proofs.Common.{string_bytes}
use Rattle.std.proofs.KnownBytes.{Keeps-refl}
use Rattle.afdx_messages.specs.declared.failure.Failure.TheVariants.{Write}
use Rattle.afdx_serve.proofs.Errors.{of_error}
use Rattle.afdx_serve.proofs.NetworkCheckLemmas.{not_got, not_accepted}
use Rattle.afdx_serve.proofs.network_check.network_check.Goals as goal

pub returns-in_err-network : goal.returns-in_err-network
returns-in_err-network g c =
    let fails = c.in_err-network.ensures in
    of_error _ _ _ c.in_err-network.field-0.0 c.from_residual.ensures
    (not_got c.args.form c.args.path.now _ _ fails.same (Keeps-refl _) c.in_err-network.field-0.0 fails.got)

pub returns-in_err-text : goal.returns-in_err-text
returns-in_err-text g c =
    let got = c.in_ok-network.ensures in
    of_error _ _ _ c.in_err-text.field-0.0 c.from_residual-in_err-text.ensures
    (not_accepted c.args.form c.args.path.now _ _ got.same (Keeps-refl _) c.in_ok-network.network got.got.0 got.got.1 c.in_err-text.field-0.0 c.in_err-text.ensures)

pub returns-in_err-write_bytes : goal.returns-in_err-write_bytes
returns-in_err-write_bytes g c =
    let got = c.in_ok-network.ensures in
    let text = c.in_ok-text.ensures in
    let prefix = rw c.as_bytes.ensures.value at c.in_err-write_bytes.ensures.prefix in
    of_error _ _ _ Write c.from_residual-in_err-write_bytes.ensures
    ((string_bytes c.in_ok-text.text, (c.in_ok-network.network, got.got.0, text.0, text.1), prefix), (got.same, got.got.1))
