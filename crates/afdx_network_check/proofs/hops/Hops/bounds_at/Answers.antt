use Rattle.std.proofs.Common.{rules, ◌≡◌, ◌==◌, ◌∙◌, List, map, slice_get, Some, None, option_map, option_and_then, ap, sym}
use Rattle.std.specs.Prelude.{position}
use Rattle.afdx_table.specs.Content.{Content, port_row}
use Rattle.afdx_load.specs.Bounds.{bounds_of}
use Rattle.afdx_load.specs.declared.delays.Bounds.{Bounds}
use Rattle.afdx_network_check.specs.Net.{load_at}
use Rattle.afdx_network_check.specs.Inner.Loads.{bounds_from}
use Rattle.afdx_network_check.proofs.Loaded.{bounds_there, none_lost}
use Rattle.afdx_network_check.proofs.hops.Hops.bounds_at.Goals as goal

pub returns-in_err-kept_at : goal.returns-in_err-kept_at
returns-in_err-kept_at c =
    let kept : map (λ bounds. bounds.items) c.self.inside.bounds.items ≡ bounds_from c.args.self.now 0 c.args.self.now.tables = search rules in
    let table_is : slice_get c.args.self.now.tables c.args.switch ≡ Some c.in_ok-table.table.now = search rules in
    let none : slice_get c.self.inside.bounds.items c.args.switch ≡ None = search rules in
    none_lost c.args.self.now c.self.inside.bounds.items c.args.switch c.in_ok-table.table.now kept table_is none

pub returns : goal.returns
returns c =
    let kept : map (λ bounds. bounds.items) c.self.inside.bounds.items ≡ bounds_from c.args.self.now 0 c.args.self.now.tables = search rules in
    let table_is : slice_get c.args.self.now.tables c.args.switch ≡ Some c.in_ok-table.table.now = search rules in
    let bounds_are : slice_get c.self.inside.bounds.items c.args.switch ≡ Some c.in_ok-kept_at.field-0.now = search rules in
    c.bounds_in.ensures
    ∙ ap (λ (ls : List Bounds). option_and_then (slice_get ls) (position (λ p. p.id == c.args.port) c.in_ok-table.table.now.ports)) c.deref-in_ok-kept_at.ensures.value
    ∙ bounds_there c.args.self.now c.self.inside.bounds.items c.args.switch c.args.port c.in_ok-table.table.now kept table_is c.in_ok-kept_at.field-0.now bounds_are
    ∙ sym (ap (option_and_then (λ (t : Content). option_map (λ p. bounds_of (load_at c.args.self.now c.args.switch t p)) (port_row t c.args.port))) table_is)
