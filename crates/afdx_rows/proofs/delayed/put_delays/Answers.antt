use Rattle.std.proofs.Common.{◌≡◌, ◌++◌, ◌∙◌, ℕ, List, [], ◌∷◌, codes, decimal, string_bytes, Option, ap, subst}
use Rattle.std.specs.Prelude.{OnOk}
use Rattle.afdx_csv.specs.declared.field.Field.TheVariants.{Number}
use Rattle.afdx_csv.specs.Csv.{optional, text_of, row}
use Rattle.afdx_csv.specs.Slack.{slack_text, share_text}
use Rattle.afdx_rows.proofs.Columns.{names_in}
use Rattle.afdx_rows.proofs.delayed.put_delays.Goals as goal

pub returns : goal.returns
returns g c =
    let least = c.of.ensures ∙ ap (λ (o : Option ℕ). Number o) c.least.ensures in
    let greatest = c.of-2.ensures ∙ ap (λ (o : Option ℕ). Number o) c.greatest-greatest.ensures in
    let left = c.slack.ensures ∙ ap (λ (o : Option ℕ). slack_text o c.args.bound) c.greatest-greatest.ensures in
    let share = c.slack_per_mille.ensures ∙ ap (λ (o : Option ℕ). share_text o c.args.bound) c.greatest-greatest.ensures in
    subst (λ (fields : List (List ℕ × List ℕ)). OnOk c.put_row.result (string_bytes c.put_row.new.text ≡ string_bytes c.args.text.now ++ row (names_in c.args.columns.now) fields))
    (λ i. (codes "kind", codes "delays") ∷ (codes "link", decimal (c.from.ensures i)) ∷ (codes "port", decimal (c.from-2.ensures i)) ∷ (codes "sent", decimal c.args.delays.now.count)
    ∷ (codes "least", text_of (least i)) ∷ (codes "greatest", text_of (greatest i)) ∷ (codes "bound", optional c.args.bound) ∷ (codes "slack", left i)
    ∷ (codes "slack_per_mille", share i) ∷ [])
    c.put_row.ensures
