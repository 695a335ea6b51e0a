use Rattle.std.proofs.Common.{◌≡◌, ◌++◌, ◌∙◌, ℕ, List, [], ◌∷◌, codes, string_bytes, Some, ap, subst}
use Rattle.std.specs.Prelude.{OnOk}
use Rattle.afdx_csv.specs.declared.field.Field.TheVariants.{Number}
use Rattle.afdx_csv.specs.Csv.{text_of, row}
use Rattle.afdx_rows.proofs.Columns.{names_in}
use Rattle.afdx_rows.proofs.counted.put_input.Goals as goal

pub returns : goal.returns
returns g c =
    let id = c.count.ensures ∙ ap (λ (n : ℕ). Number (Some n)) c.from.ensures in
    subst (λ (fields : List (List ℕ × List ℕ)). OnOk c.put_row.result (string_bytes c.put_row.new.text ≡ string_bytes c.args.text.now ++ row (names_in c.args.columns.now) fields))
    (λ i. (codes "switch", c.args.switch.now) ∷ (codes "kind", codes "in") ∷ (codes "port", text_of (id i)) ∷ (codes "seen", text_of (c.count-2.ensures i))
    ∷ (codes "cut", text_of (c.count-3.ensures i)) ∷ (codes "short", text_of (c.count-4.ensures i)) ∷ (codes "long", text_of (c.count-5.ensures i)) ∷ (codes "foreign", text_of (c.count-6.ensures i))
    ∷ (codes "no-link", text_of (c.count-7.ensures i)) ∷ (codes "wrong-port", text_of (c.count-8.ensures i)) ∷ (codes "too-big", text_of (c.count-9.ensures i)) ∷
    (codes "clean", text_of (c.count-10.ensures i)) ∷ [])
    c.put_row.ensures
