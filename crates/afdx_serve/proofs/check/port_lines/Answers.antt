use Rattle.std.proofs.Common.{◌<◌, ◌≤◌, ℕ, List, ◌++◌, length, string_bytes, ap, subst, ◌∙◌, rules}
use Rattle.std.proofs.lemmas.List.Elements.{Contains-get_or}
use Rattle.afdx_table.specs.declared.rows.PortRow.{PortRow}
use Rattle.afdx_serve.specs.Checks.{AreLinesOf}
use Rattle.afdx_serve.proofs.CheckLemmas.{one_more_line, last_line}
use Rattle.afdx_serve.proofs.check.port_lines.Goals as goal

pub port_line-requires : goal.port_line-requires
port_line-requires c =
    let within : c.loop-row.row-index < length c.args.table.now.ports = search rules in
    rw c.loads-loads.ensures
    (rw c.loop-row.invariant.all (c.ports_are_found.ensures c.args.table.now c.ports-row-items.ensures.well_formed _ (Contains-get_or c.args.table.now.ports c.loop-row.row-index _ within)))

pub loop-row-preserved : goal.loop-row-preserved
loop-row-preserved c =
    let within : c.loop-row.row-index < length c.ports-row-items.result.now = search rules in
    let grown = c.in_ok-push_str.ensures.bytes ∙ ap (λ (line : List ℕ). string_bytes c.loop-row.text ++ line) c.deref.ensures in
    let line = rw c.loads-loads.ensures at c.in_ok-port_line.ensures in
    record {
      lines = one_more_line _ c.ports-row-items.result.now c.loop-row.row-index _ _ _ _ grown within c.loop-row.invariant.lines line;
      all = c.loop-row.invariant.all;
    }

pub returns : goal.returns
returns c =
    let past : length c.ports-row-items.result.now ≤ c.loop-row.row-index = search rules in
    subst (λ (ports : List PortRow). AreLinesOf c.args.form c.args.table.now.latency c.args.table.now.links ports (string_bytes c.loop-row.text)) c.loop-row.invariant.all
    (last_line _ c.ports-row-items.result.now c.loop-row.row-index _ past c.loop-row.invariant.lines)

pub loop-row-init : goal.loop-row-init
loop-row-init c = record { lines = λ rest lines. rw c.requires lines; all = c.ports-row-items.ensures.ports }
