use Rattle.std.proofs.Common.{rules, inl, inr, arith}
use Rattle.toml.specs.View.{table_view}
use Rattle.afdx_table.proofs.RoomLemmas.{wants}
use Rattle.afdx_table.proofs.top.read_top.Goals as goal

pub returns-in_err-ports-clause-memory : goal.returns-in_err-ports-clause-memory
returns-in_err-ports-clause-memory c = λ is.
    let (stated_at, stated_table, _) = c.in_ok-stated.ensures.fields in
    let (fields_at, fields_table, _) = c.in_ok-fields.ensures.fields in
    wants (table_view c.args.tree.now) _ _ _ _ _ _ _ _ c.in_ok-stated.ensures.known (rw (stated_at, stated_table) at c.in_ok-optional_number.ensures.number)
    c.in_ok-version.ensures.version c.in_ok-fields.ensures.known (rw (fields_at, fields_table) at c.in_ok-optional_text.ensures.text) c.in_ok-constant.ensures.constant
    (rw (fields_at, fields_table) at c.in_ok-optional_number-2.ensures.number) c.in_ok-latency_us.ensures.latency
    (inl (rw fields_table at (c.in_err-ports.ensures.memory (let e = c.from_residual-in_err-ports.ensures in first_of (cc, search rules, grind arith)))))

pub returns-in_err-links-clause-memory : goal.returns-in_err-links-clause-memory
returns-in_err-links-clause-memory c = λ is.
    let (stated_at, stated_table, _) = c.in_ok-stated.ensures.fields in
    let (fields_at, fields_table, _) = c.in_ok-fields.ensures.fields in
    wants (table_view c.args.tree.now) _ _ _ _ _ _ _ _ c.in_ok-stated.ensures.known (rw (stated_at, stated_table) at c.in_ok-optional_number.ensures.number)
    c.in_ok-version.ensures.version c.in_ok-fields.ensures.known (rw (fields_at, fields_table) at c.in_ok-optional_text.ensures.text) c.in_ok-constant.ensures.constant
    (rw (fields_at, fields_table) at c.in_ok-optional_number-2.ensures.number) c.in_ok-latency_us.ensures.latency
    (inr (rw fields_table at (c.in_err-links.ensures.memory (let e = c.from_residual-in_err-links.ensures in first_of (cc, search rules, grind arith)))))
