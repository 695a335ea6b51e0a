use Rattle.std.proofs.Common.{rules, inl, inr, arith}
use Rattle.std.proofs.lemmas.List.{length-map}
use Rattle.toml.specs.View.{table_view}
use Rattle.afdx_table.proofs.TableFormed.{top_at-formed, few_ports-formed, parts-formed}
use Rattle.afdx_table.proofs.RoomLemmas.{top_wants}
use Rattle.afdx_table.proofs.table.read_tree.Goals as goal

pub read_links-requires : goal.read_links-requires
read_links-requires c = record {
  few = rw c.deref-2.ensures.value (few_ports-formed (table_view c.args.tree.now) _ _ c.in_ok-top.ensures.top (rw c.deref.ensures.value at c.in_ok-ports.ensures.ports));
  few_links =
      let most = (top_at-formed (table_view c.args.tree.now) _ c.in_ok-top.ensures.top).few_links in
      rw c.deref-3.ensures.value (omega (arith, most, length-map c.in_ok-top.top.links.items (λ l. table_view l.now)));
}

pub invariant_of-result : goal.invariant_of-result
invariant_of-result c =
    parts-formed (table_view c.args.tree.now) _ _ _ c.in_ok-top.ensures.top (rw c.deref.ensures.value at c.in_ok-ports.ensures.ports)
    (rw (c.deref-2.ensures.value, c.deref-3.ensures.value) at c.in_ok-links.ensures.links)

pub returns-clause-well_formed : goal.returns-clause-well_formed
returns-clause-well_formed c =
    parts-formed (table_view c.args.tree.now) _ _ _ c.in_ok-top.ensures.top (rw c.deref.ensures.value at c.in_ok-ports.ensures.ports)
    (rw (c.deref-2.ensures.value, c.deref-3.ensures.value) at c.in_ok-links.ensures.links)

pub returns-in_err-ports-clause-memory : goal.returns-in_err-ports-clause-memory
returns-in_err-ports-clause-memory c = λ is.
    let some = c.in_err-ports.ensures.memory (let e = c.from_residual-in_err-ports.ensures in first_of (cc, search rules, grind arith)) in
    let listed = rw c.deref.ensures.value at some in
    top_wants (table_view c.args.tree.now) _ c.in_ok-top.ensures.top (inl (omega (arith, listed, length-map c.in_ok-top.top.ports.items (λ p. table_view p.now))))

pub returns-in_err-links-clause-memory : goal.returns-in_err-links-clause-memory
returns-in_err-links-clause-memory c = λ is.
    let some = c.in_err-links.ensures.memory (let e = c.from_residual-in_err-links.ensures in first_of (cc, search rules, grind arith)) in
    let listed = rw c.deref-3.ensures.value at some in
    top_wants (table_view c.args.tree.now) _ c.in_ok-top.ensures.top (inr (omega (arith, listed, length-map c.in_ok-top.top.links.items (λ l. table_view l.now))))
