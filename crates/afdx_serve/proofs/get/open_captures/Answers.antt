use Rattle.std.proofs.Common.{◌≡◌, map, String, Global, string_bytes}
use Rattle.afdx_serve.specs.Runs.{port_names}
use Rattle.afdx_serve.proofs.Errors.{of_error}
use Rattle.afdx_serve.proofs.LeadLemmas.{named_capture}
use Rattle.afdx_serve.proofs.get.open_captures.Goals as goal

pub returns-in_err-opened-clause-opened : goal.returns-in_err-opened-clause-opened
returns-in_err-opened-clause-opened g c =
    let str : String Global → _ = λ s. string_bytes s in
    let named : map str c.in_ok-names.names.items ≡ port_names c.args.path.now c.args.table.now = rw c.ports.ensures.ports at c.in_ok-names.ensures in
    let fails = rw c.deref.ensures.value at c.in_err-opened.ensures.opened in
    of_error _ _ _ c.in_err-opened.field-0.0 c.from_residual-in_err-opened.ensures (named_capture c.in_err-opened.field-0.0 _ c.args.path.now c.args.table.now _ _ _ named fails)

pub returns-clause-opened : goal.returns-clause-opened
returns-clause-opened g c =
    let str : String Global → _ = λ s. string_bytes s in
    let named : map str c.in_ok-names.names.items ≡ port_names c.args.path.now c.args.table.now = rw c.ports.ensures.ports at c.in_ok-names.ensures in
    (record { named = named; opened = rw c.deref.ensures.value at c.in_ok-opened.ensures.opened.0 }, c.in_ok-opened.ensures.opened.1)
