use Rattle.std.proofs.Common.{is_some, option_map, sym, ap, ◌∙◌}
use Rattle.toml.specs.View.{view, array_view, table_view}
use Rattle.afdx_table.proofs.PlainLemmas.{some_mapped, plain_by_last}
use Rattle.afdx_table.proofs.apart.is_plain.Goals as goal

pub returns-in-Some-last : goal.returns-in-Some-last
returns-in-Some-last c =
    let items = c.in-Some.items.now.items in
    let last = c.in-Some-last.last.now in
    let listed = sym c.as_array.ensures ∙ ap (option_map (λ v. array_view v.now)) c.in-Some.is in
    let told = ap is_some (sym c.as_table.ensures) ∙ some_mapped (λ t. table_view t.now) c.as_table.result ∙ c.is_none.ensures in
    plain_by_last (view c.args.value.now) items last c.is_none.result listed (rw (← c.deref.ensures.value) c.in-Some-last.ensures.value) told
