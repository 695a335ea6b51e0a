use Rattle.std.proofs.Common.{rules, ◌≡◌, ◌<◌, ◌∙◌, ℕ, List, Vec, length, sym, ap, subst, arith}
use Rattle.std.proofs.lemmas.List.{length-map}
use Rattle.afdx_table.specs.Text.{table_of}
use Rattle.afdx_wiring.specs.File.{Switch}
use Rattle.afdx_serve.specs.Networks.{bytes_in, IsRefusedTable}
use Rattle.afdx_serve.proofs.GetLemmas.{text_at, stops_at_table, one_more_table}
use Rattle.afdx_serve.proofs.network_get.read_tables.Goals as goal

pub returns-in-Err : goal.returns-in-Err
returns-in-Err c =
    let within : c.loop-place.place < length c.args.texts.now = c.loop-place-test.true in
    let many : length c.args.texts.now ≡ length c.args.switches.now = c.requires in
    let text = text_at c.args.texts.now c.loop-place.place c.index-texts-place.result within c.index-texts-place.is ∙ sym c.deref.ensures.value in
    let name_is : c.deref-in-Err.result.now ≡ c.index-switches-place.result.name = search rules in
    let refused = subst (λ (n : List ℕ). IsRefusedTable c.in-Err.refusal n c.refused_table.result) (name_is ∙ ap (λ (s : Switch). s.name) c.index-switches-place.is) c.refused_table.ensures in
    stops_at_table c.refused_table.result c.in-Err.refusal c.args.switches.now (bytes_in c.args.texts.now) c.loop-place.place _ c.loop-place.tables.items
    (let len = length-map c.args.texts.now (λ (v : Vec ℕ _). v.items) in omega (arith, within, len)) (omega (arith, within, many)) c.loop-place.invariant
    (λ no. ap table_of text ∙ c.in-Err.ensures.table no) refused

pub loop-place-preserved : goal.loop-place-preserved
loop-place-preserved c =
    let within : c.loop-place.place < length c.args.texts.now = c.loop-place-test.true in
    let text = text_at c.args.texts.now c.loop-place.place c.index-texts-place.result within c.index-texts-place.is ∙ sym c.deref.ensures.value in
    one_more_table (bytes_in c.args.texts.now) c.loop-place.place c.loop-place.tables.items _ c.in-Ok.table
    (let len = length-map c.args.texts.now (λ (v : Vec ℕ _). v.items) in omega (arith, within, len)) c.loop-place.invariant c.in_ok-push-in-Ok.ensures.items
    (ap table_of text ∙ c.in-Ok.ensures.table)
