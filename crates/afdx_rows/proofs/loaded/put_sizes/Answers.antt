use Rattle.std.proofs.Common.{◌≡◌, ◌++◌, ◌∙◌, ℕ, List, [], ◌∷◌, codes, decimal, string_bytes, ap, subst}
use Rattle.std.specs.Prelude.{OnOk}
use Rattle.afdx_csv.specs.Csv.{optional, row}
use Rattle.afdx_rows.specs.Loads.{limit_of}
use Rattle.afdx_rows.proofs.Columns.{names_in}
use Rattle.afdx_rows.proofs.loaded.put_sizes.Goals as goal

pub returns : goal.returns
returns c =
    let rate = c.from-2.ensures ∙ c.rate.ensures.rate in
    let high = c.limit_of.ensures ∙ ap (λ (n : ℕ). limit_of n c.args.row.now) c.highs.ensures in
    let low = c.limit_of-2.ensures ∙ ap (λ (n : ℕ). limit_of n c.args.row.now) c.lows.ensures in
    subst (λ (fields : List (List ℕ × List ℕ)). OnOk c.put_row.result (string_bytes c.put_row.new.text ≡ string_bytes c.args.text.now ++ row (names_in c.args.columns.now) fields))
    (λ i. (codes "switch", c.args.switch.now) ∷ (codes "port", decimal (c.from.ensures i)) ∷ (codes "rate", decimal (rate i)) ∷ (codes "rate_limit", decimal (c.from-3.ensures i))
    ∷ (codes "buffer", decimal c.args.least) ∷ (codes "buffer_limit", decimal (c.from-4.ensures i)) ∷ (codes "high", optional (c.bounds-bounds.ensures i).high)
    ∷ (codes "high_limit", optional (high i)) ∷ (codes "low", optional (c.bounds-bounds.ensures i).low) ∷ (codes "low_limit", optional (low i))
    ∷ (codes "breaks", c.requires i) ∷ [])
    c.put_row.ensures
