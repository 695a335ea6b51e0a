use Rattle.std.proofs.Common.{rules, ◌≡◌, ◌++◌, ◌∷◌, ◌∙◌, List, ℕ, [], sym, ap, append_assoc}
use Rattle.afdx_table.proofs.PairLemmas.{strip_text, reads_none, reads_join, reads_document}
use Rattle.afdx_table.proofs.pairs.read_pairs.Goals as goal

pub lines-init : goal.lines-init
lines-init c =
    let none : c.in_ok-pairs.pairs.items ≡ [] = search rules in
    let whole = strip_text (10 ∷ []) c.args.text.now c.in_ok-rest.rest.now c.in_ok-rest.ensures.cases in
    (search rules, [], whole, rw none (reads_none []))

pub lines-preserved : goal.lines-preserved
lines-preserved c =
    let (utf8, front, whole, read) = c.lines.invariant in
    let line = c.cut_line.result.0.now in
    let behind = c.in-Some.behind.now in
    let split = rw c.in-Some.is at c.cut_line.ensures in
    let longer = whole ∙ ap (λ (t : List ℕ). front ++ 10 ∷ t) split ∙ sym (append_assoc front (10 ∷ line) (10 ∷ behind)) in
    (search rules, front ++ 10 ∷ line, longer, reads_join [] c.lines.pairs.items c.add_line.new.pairs.items front line read c.in_ok-add_line.ensures)

pub returns-in-None : goal.returns-in-None
returns-in-None c =
    let (utf8, front, whole, read) = c.lines.invariant in
    let line = c.cut_line.result.0.now in
    let all = rw c.in-None.is at c.cut_line.ensures in
    let last = whole ∙ ap (λ (t : List ℕ). front ++ 10 ∷ t) (sym all) in
    let begins = strip_text (10 ∷ []) c.args.text.now c.in_ok-rest.rest.now c.in_ok-rest.ensures.cases in
    let reads = reads_join [] c.lines.pairs.items c.add_line.new.pairs.items front line read c.in_ok-add_line.ensures in
    reads_document c.args.text.now c.in_ok-rest.rest.now c.add_line.new.pairs.items begins (rw last reads)
