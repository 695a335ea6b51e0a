use Rattle.std.proofs.Common.{rules, ◌≡◌, ◌∙◌, ap, None, Some, string_bytes, slice_get, option_map}
use Rattle.afdx_wiring.specs.Lines.{as_line}
use Rattle.afdx_messages.specs.Lines.{network_text}
use Rattle.afdx_messages.proofs.RowLemmas.{named}
use Rattle.afdx_messages.proofs.network.row_line.Goals as goal

pub returns-in_ok-network_text-in-Some : goal.returns-in_ok-network_text-in-Some
returns-in_ok-network_text-in-Some c =
    let there : Some c.in-Some.name.now ≡ slice_get c.args.names.now c.args.short.switch = search rules in
    let found : Some c.as_str.result.now ≡ option_map string_bytes (slice_get c.args.names.now c.args.short.switch) = ap Some c.as_str.ensures.value ∙ ap (option_map string_bytes) there in
    let text : string_bytes c.in_ok-network_text-in-Some.field-0 ≡ network_text (Some c.as_str.result.now) c.row_fault-fault.result = search rules in
    rw (ap as_line (named c.args.rule c.args.names.now c.args.short _ _ _ found c.row_fault-fault.ensures text)) at c.lined.ensures

pub returns-in_ok-network_text-in-None : goal.returns-in_ok-network_text-in-None
returns-in_ok-network_text-in-None c =
    let there : None ≡ slice_get c.args.names.now c.args.short.switch = search rules in
    let found : None ≡ option_map string_bytes (slice_get c.args.names.now c.args.short.switch) = ap (option_map string_bytes) there in
    let text : string_bytes c.in_ok-network_text-in-None.field-0 ≡ network_text None c.row_fault-fault.result = search rules in
    rw (ap as_line (named c.args.rule c.args.names.now c.args.short _ _ _ found c.row_fault-fault.ensures text)) at c.lined-in-None.ensures
