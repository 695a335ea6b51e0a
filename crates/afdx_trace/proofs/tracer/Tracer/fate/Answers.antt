use Rattle.std.proofs.Common.{◌≡◌, List, Bool, length, None, sym, ap, ◌∙◌, subst, arith}
use Rattle.afdx_table.specs.Content.{Content}
use Rattle.afdx_filter.specs.Place.{place_named}
use Rattle.afdx_trace.specs.Inner.Taken.{unflagged}
use Rattle.afdx_trace.specs.Inner.Tracing.{IsPassed}
use Rattle.afdx_trace.proofs.Placing.{none_at}
use Rattle.afdx_trace.proofs.Taking.{unflagged_refuse}
use Rattle.afdx_trace.proofs.Fated.{passed_fields}
use Rattle.afdx_trace.proofs.tracer.Tracer.fate.Goals as goal

pub returns-in_default-clause-agree : goal.returns-in_default-clause-agree
returns-in_default-clause-agree g c =
    let t = c.args.done.now.run.table in
    let row = c.args.row.now in
    let none : place_named t row.verdict ≡ None = ap (λ (table : Content). place_named table row.verdict) (sym c.table-table.ensures) ∙ sym c.in_default.ensures in
    c.filtered_touch_no_account.ensures t c.args.before.now row.stamp row c.args.self.now.accounts.items
    (none_at t row.verdict c.links_are_at_their_places.ensures none) (omega arith) c.requires.agree

pub returns-in_ok-full-in-Ok-clause-fields : goal.returns-in_ok-full-in-Ok-clause-fields
returns-in_ok-full-in-Ok-clause-fields g c =
    let r = c.args.done.now.run in
    let before = c.args.before.now in
    let row = c.args.row.now in
    let to = c.in-Ok.to.now in
    passed_fields r before row to c.in_ok-full-in-Ok.full.items (subst (λ (t : Content). IsPassed t before row to) c.table-table.ensures c.in-Ok.ensures.passed)
    (c.in_ok-full-in-Ok.ensures ∙ ap (λ (flags : List (List Bool)). unflagged flags (length before) to) c.deref.ensures.value
    ∙ unflagged_refuse r c.args.self.now.taken.items (length before) to c.requires.taken c.requires.within)
