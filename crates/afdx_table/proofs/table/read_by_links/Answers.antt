use Rattle.std.proofs.Common.{◌∙◌, sym}
use Rattle.toml.specs.View.{table_view}
use Rattle.afdx_toml_split.specs.Joined.{link}
use Rattle.afdx_table.proofs.TableFormed.{few_ports-formed}
use Rattle.afdx_table.proofs.WholeLemmas.{lacks, read_by_links}
use Rattle.afdx_table.proofs.table.read_by_links.Goals as goal

pub read_apart-requires-clause-few : goal.read_apart-requires-clause-few
read_apart-requires-clause-few c =
    rw c.deref-2.ensures.value (few_ports-formed (table_view c.in-Ok-table_from_str.tree) _ _ c.in-Ok-read_top.ensures.top (rw c.deref.ensures.value at c.in-Ok-read_ports.ensures.ports))

pub invariant_of-result : goal.invariant_of-result
invariant_of-result c =
    let tree = c.in-Ok-table_from_str.tree in
    let none = lacks link tree.entries c.contains_key.result c.contains_key.ensures c.if-contains_key.false in
    let (same, utf8) = c.in-Ok.ensures.cases in
    let (whole, own_line) = rw c.in-Some.is at c.cut.ensures in
    (read_by_links c.args.bytes.now c.cut.result.0.now c.in-Some.texts.now (table_view tree) _ c.in-Ok-read_ports.ports.items c.in_ok-links.links c.links_are_read_apart.ensures utf8 (sym same ∙ whole)
    c.in-Ok-table_from_str.ensures.ok none c.in-Ok-read_top.ensures.top (rw c.deref.ensures.value at c.in-Ok-read_ports.ensures.ports) (rw c.deref-2.ensures.value at c.in_ok-links.ensures)).1

pub returns : goal.returns
returns c =
    let tree = c.in-Ok-table_from_str.tree in
    let none = lacks link tree.entries c.contains_key.result c.contains_key.ensures c.if-contains_key.false in
    let (same, utf8) = c.in-Ok.ensures.cases in
    let (whole, own_line) = rw c.in-Some.is at c.cut.ensures in
    (read_by_links c.args.bytes.now c.cut.result.0.now c.in-Some.texts.now (table_view tree) _ c.in-Ok-read_ports.ports.items c.in_ok-links.links c.links_are_read_apart.ensures utf8 (sym same ∙ whole)
    c.in-Ok-table_from_str.ensures.ok none c.in-Ok-read_top.ensures.top (rw c.deref.ensures.value at c.in-Ok-read_ports.ensures.ports) (rw c.deref-2.ensures.value at c.in_ok-links.ensures)).0
