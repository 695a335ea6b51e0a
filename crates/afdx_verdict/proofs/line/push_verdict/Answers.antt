use Rattle.std.proofs.Common.{◌≡◌, List, ℕ, ◌++◌, ap, ◌∙◌, append_assoc, rules, codes, string_bytes}
use Rattle.std.specs.Prelude.{decimal}
use Rattle.afdx_verdict.specs.declared.summed.RunVerdict.{RunVerdict}
use Rattle.afdx_verdict.specs.Line.{many, verdict_line}
use Rattle.afdx_verdict.proofs.line.push_verdict.Goals as goal

regroup : (t a b c d e f g h i : List ℕ) → ((((((t ++ a) ++ b) ++ c) ++ d) ++ (e ++ f)) ++ (g ++ h)) ++ i ≡ t ++ (a ++ b ++ c ++ d ++ e ++ f ++ g ++ h ++ i)
regroup t a b c d e f g h i = simp append_assoc

-- a text to which the parts of the line were appended, one after the other
in_parts : (v : RunVerdict) (t a b c d e f g : List ℕ) → a ≡ t ++ codes "policed " → b ≡ a ++ many v.links (codes "link") → c ≡ b ++ codes " " → d ≡ c ++ many v.policed (codes "frame")
    → e ≡ d ++ (codes ", filtered " ++ decimal v.filtered) → f ≡ e ++ (codes ", lost " ++ decimal v.lost) → g ≡ f ++ codes "\n" → g ≡ t ++ verdict_line v
in_parts v t a b c d e f g one two three four five six seven =
    seven
    ∙ ap (λ (l : List ℕ). l ++ codes "\n") (six
    ∙ ap (λ (l : List ℕ). l ++ (codes ", lost " ++ decimal v.lost)) (five
    ∙ ap (λ (l : List ℕ). l ++ (codes ", filtered " ++ decimal v.filtered)) (four
    ∙ ap (λ (l : List ℕ). l ++ many v.policed (codes "frame")) (three
    ∙ ap (λ (l : List ℕ). l ++ codes " ") (two
    ∙ ap (λ (l : List ℕ). l ++ many v.links (codes "link")) one)))))
    ∙ regroup t (codes "policed ") (many v.links (codes "link")) (codes " ") (many v.policed (codes "frame")) (codes ", filtered ") (decimal v.filtered) (codes ", lost ") (decimal v.lost) (codes "\n")

pub returns : goal.returns
returns c =
    in_parts c.args.verdict.now (string_bytes c.args.text.now) (string_bytes c.push_str.new.self) (string_bytes c.put_many.new.text) (string_bytes c.push_str-2.new.self)
    (string_bytes c.put_many-2.new.text) (string_bytes c.write.new.self) (string_bytes c.write-2.new.self) (string_bytes c.push_str-3.new.self)
    (search (rules, c.in_ok-push_str.ensures.bytes)) (search (rules, c.in_ok-put_many.ensures)) (search (rules, c.in_ok-push_str-2.ensures.bytes))
    (search (rules, c.in_ok-put_many-2.ensures)) (search (rules, c.in_ok-write.ensures.bytes)) (search (rules, c.in_ok-write-2.ensures.bytes)) (search (rules, c.in_ok-push_str-3.ensures.bytes))
