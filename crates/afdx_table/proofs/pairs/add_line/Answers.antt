use Rattle.std.proofs.Common.{rules, ◌≡◌, ◌++◌, ◌∷◌, ◌∙◌, [], sym, arith}
use Rattle.std.proofs.lemmas.Grind.{common_steps}
use Rattle.afdx_table.proofs.PairLemmas.{reads_none, reads_pair}
use Rattle.afdx_table.proofs.pairs.add_line.Goals as goal

pub returns-then-is_empty : goal.returns-then-is_empty
returns-then-is_empty c =
    let none : c.args.line.now ≡ [] = first_of (search rules, grind (arith, common_steps)) in
    rw none (reads_none c.args.pairs.now.items)

pub returns : goal.returns
returns c =
    let before = c.args.pairs.now.items in
    let (text, is, unmarked, parsed) = c.in_ok-key.ensures in
    let pushed : c.push.new.self.items ≡ c.args.pairs.now.items ++ (c.in_ok-key.key, c.in_ok-key.value) ∷ [] = first_of (search rules, cc, grind arith) in
    let none = rw c.deref.ensures.value at (sym c.has_key.ensures ∙ c.if-has_key.false) in
    let plain = sym c.is_plain.ensures ∙ c.if-not-is_plain.false in
    rw pushed (reads_pair before c.args.line.now text c.in_ok-key.key c.in_ok-key.value is unmarked parsed none plain)
