use Rattle.std.proofs.Common.{◌≡◌, ◌++◌, ◌∙◌, ℕ, List, [], ◌∷◌, codes, decimal, map, string_bytes, Bor, Option, ap, subst}
use Rattle.std.specs.Prelude.{OnOk}
use Rattle.afdx_csv.specs.declared.field.Field.TheVariants.{Number}
use Rattle.afdx_csv.specs.Csv.{optional, text_of, row}
use Rattle.afdx_csv.specs.Slack.{slack_text, share_text}
use Rattle.afdx_network_report.proofs.end_rows.put_fields.Goals as goal

abbrev names_in : List (Bor (List ℕ)) → List (List ℕ)
names_in = map (λ name. name.now)

pub returns : goal.returns
returns c =
    let least = c.of.ensures ∙ ap (λ (o : Option ℕ). Number o) c.least.ensures in
    let greatest = c.of-2.ensures ∙ ap (λ (o : Option ℕ). Number o) c.greatest-greatest.ensures in
    let promised = c.of-3.ensures ∙ ap (λ (o : Option ℕ). Number o) c.least_bound.ensures in
    let left = c.slack.ensures ∙ (λ i. slack_text (c.greatest-greatest.ensures i) (c.bound_of-bound.ensures i)) in
    let share = c.slack_per_mille.ensures ∙ (λ i. share_text (c.greatest-greatest.ensures i) (c.bound_of-bound.ensures i)) in
    subst (λ (fields : List (List ℕ × List ℕ)). OnOk c.put_row.result (string_bytes c.put_row.new.text ≡ string_bytes c.args.text.now ++ row (names_in c.args.columns.now) fields))
    (λ i. (codes "kind", codes "way") ∷ (codes "link", decimal (c.from.ensures i)) ∷ (codes "from", c.args.from.now) ∷ (codes "to", c.args.to.now)
    ∷ (codes "sent", decimal c.args.delays.now.count) ∷ (codes "least", text_of (least i)) ∷ (codes "greatest", text_of (greatest i)) ∷ (codes "least_bound", text_of (promised i))
    ∷ (codes "bound", optional (c.bound_of-bound.ensures i)) ∷ (codes "slack", left i) ∷ (codes "slack_per_mille", share i) ∷ [])
    c.put_row.ensures
