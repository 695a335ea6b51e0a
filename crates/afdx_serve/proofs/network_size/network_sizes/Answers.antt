use Rattle.std.proofs.Common.{Some, ◌<◌, ◌≤◌, ◌∙◌, ℕ, List, ◌++◌, length, map, string_bytes, ap, subst, rules}
use Rattle.afdx_table.specs.Content.{Content}
use Rattle.afdx_network_report.specs.Lines.{name_of}
use Rattle.afdx_serve.specs.Sizes.{AreSizesWith}
use Rattle.afdx_serve.proofs.SizeLemmas.{one_more_switch, last_switch}
use Rattle.afdx_serve.proofs.network_size.network_sizes.Goals as goal

pub loop-switch-preserved : goal.loop-switch-preserved
loop-switch-preserved c =
    let names = map string_bytes c.args.names.now in
    let i = c.loop-switch.switch in
    let within : i < length c.args.tables.now = search rules in
    let grown = c.in_ok-push_str.ensures.bytes ∙ ap (λ (lines : List ℕ). string_bytes c.loop-switch.text ++ lines) c.deref.ensures in
    let of_table = rw c.name_of.ensures at c.in_ok-lines.ensures in
    let lines = subst (λ (t : Content). AreSizesWith c.args.form (Some (name_of names i)) t (string_bytes c.in_ok-lines.lines)) c.index-tables-switch.is of_table in
    one_more_switch c.args.form names c.args.tables.now i _ c.index-tables-switch.result _ _ grown within c.loop-switch.invariant lines

pub returns : goal.returns
returns c =
    let past : length c.args.tables.now ≤ c.loop-switch.switch = search rules in
    last_switch c.args.form (map string_bytes c.args.names.now) c.args.tables.now c.loop-switch.switch _ past c.loop-switch.invariant
