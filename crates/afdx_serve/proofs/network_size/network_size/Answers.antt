use Rattle.std.proofs.Common.{◌≡◌, map, string_bytes, rules}
use Rattle.std.proofs.KnownBytes.{Keeps-refl}
use Rattle.afdx_messages.specs.declared.failure.Failure.TheVariants.{Write}
use Rattle.afdx_serve.specs.Networks.{names_of}
use Rattle.afdx_serve.proofs.Errors.{of_error}
use Rattle.afdx_serve.proofs.SizeLemmas.{network_not_got}
use Rattle.afdx_serve.proofs.network_size.network_size.Goals as goal

pub returns-in_err-network : goal.returns-in_err-network
returns-in_err-network g c =
    let fails = c.in_err-network.ensures in
    of_error _ _ _ c.in_err-network.field-0.0 c.from_residual.ensures
    (network_not_got c.args.form c.args.path.now _ _ fails.same (Keeps-refl _) c.in_err-network.field-0.0 fails.got)

pub returns-in_err-write_bytes : goal.returns-in_err-write_bytes
returns-in_err-write_bytes g c =
    let got = c.in_ok-network.ensures in
    let named : map string_bytes c.in_ok-names.names.items ≡ names_of c.in_ok-network.network.layout.switches = search rules in
    let prefix = rw c.as_bytes.ensures.value at c.in_err-write_bytes.ensures.prefix in
    let text = rw (c.deref-2.ensures.value, named, c.tables.ensures.tables) at c.in_ok-text.ensures in
    of_error _ _ _ Write c.from_residual-in_err-write_bytes.ensures
    ((string_bytes c.in_ok-text.text, (c.in_ok-network.network, got.got.0, text), prefix), (got.same, got.got.1))

pub returns : goal.returns
returns g c =
    let got = c.in_ok-network.ensures in
    let named : map string_bytes c.in_ok-names.names.items ≡ names_of c.in_ok-network.network.layout.switches = search rules in
    let written = rw c.as_bytes.ensures.value at c.in_ok-write_bytes.ensures.all in
    let text = rw (c.deref-2.ensures.value, named, c.tables.ensures.tables) at c.in_ok-text.ensures in
    ((string_bytes c.in_ok-text.text, (c.in_ok-network.network, got.got.0, text), written), (got.same, got.got.1))
