use Rattle.std.proofs.Common.{◌≡◌, map, string_bytes, refl, inl, inr, rules}
use Rattle.std.proofs.KnownBytes.{Keeps-refl}
use Rattle.afdx_network_check.specs.Needs.{all_past}
use Rattle.afdx_messages.specs.declared.failure.Failure.TheVariants.{Write}
use Rattle.afdx_serve.specs.Networks.{names_of}
use Rattle.afdx_serve.specs.NetworkJitters.{needs_text}
use Rattle.afdx_serve.proofs.Errors.{of_error}
use Rattle.afdx_serve.proofs.JitterLemmas.{not_got, not_fit}
use Rattle.afdx_serve.proofs.network_jitter.network_jitter.Goals as goal

pub returns-in_err-network : goal.returns-in_err-network
returns-in_err-network g c =
    let fails = c.in_err-network.ensures in
    of_error _ _ _ c.in_err-network.field-0.0 c.from_residual.ensures
    (not_got c.args.form c.args.path.now _ _ fails.same (Keeps-refl _) c.in_err-network.field-0.0 fails.got)

pub returns-in-Err : goal.returns-in-Err
returns-in-Err g c =
    let net = c.in_ok-network.network in
    let got = c.in_ok-network.ensures in
    let named : map string_bytes c.in_ok-names.names.items ≡ names_of net.layout.switches = search rules in
    let refused = rw (c.deref-in-Err.ensures.value, named) at c.refused.ensures in
    not_fit c.args.form c.args.path.now _ _ got.same (Keeps-refl _) net got.got.0 got.got.1 c.in-Err.fault c.in-Err.ensures c.refused.result refused

pub returns-in_err-write_bytes : goal.returns-in_err-write_bytes
returns-in_err-write_bytes g c =
    let net = c.in_ok-network.network in
    let got = c.in_ok-network.ensures in
    let needs = c.in_ok-needs.needs in
    let prefix = rw c.as_bytes.ensures.value at c.in_err-write_bytes.ensures.prefix in
    let reported : string_bytes c.in_ok-text.text ≡ needs_text c.args.form (names_of net.layout.switches) needs.rows.items = search rules in
    of_error _ _ _ Write c.from_residual-in_err-write_bytes.ensures
    (inl (
      (
        string_bytes c.in_ok-text.text,
        (net, needs.rows.items, needs.past, record { has_network = got.got.0; fits = c.in_default.ensures.0; needs = c.in_ok-needs.ensures; reported = reported }),
        prefix,
      ),
      (got.same, got.got.1),
    ))

pub returns-in-Some : goal.returns-in-Some
returns-in-Some g c =
    let net = c.in_ok-network.network in
    let got = c.in_ok-network.ensures in
    let needs = c.in_ok-needs.needs in
    let named : map string_bytes c.in_ok-names.names.items ≡ names_of net.layout.switches = search rules in
    let rows : c.in_ok-shorts.shorts.items ≡ all_past needs.rows.items = search rules in
    let all = rw c.as_bytes.ensures.value at c.in_ok-write_bytes.ensures.all in
    let reported : string_bytes c.in_ok-text.text ≡ needs_text c.args.form (names_of net.layout.switches) needs.rows.items = search rules in
    let are = rw c.in-Some.is at c.in_ok-needs.ensures in
    inr (
      net,
      needs.rows.items,
      c.in-Some.field-0,
      ((string_bytes c.in_ok-text.text, record { has_network = got.got.0; fits = c.in_default.ensures.0; needs = are; reported = reported }, all), (got.same, got.got.1)),
      (refl, rows, named),
    )

pub returns-in-None : goal.returns-in-None
returns-in-None g c =
    let net = c.in_ok-network.network in
    let got = c.in_ok-network.ensures in
    let needs = c.in_ok-needs.needs in
    let all = rw c.as_bytes.ensures.value at c.in_ok-write_bytes.ensures.all in
    let reported : string_bytes c.in_ok-text.text ≡ needs_text c.args.form (names_of net.layout.switches) needs.rows.items = search rules in
    let are = rw c.in-None.is at c.in_ok-needs.ensures in (
      net,
      needs.rows.items,
      ((string_bytes c.in_ok-text.text, record { has_network = got.got.0; fits = c.in_default.ensures.0; needs = are; reported = reported }, all), (got.same, got.got.1)),
    )
