-- Lists of ports and of clocks that a loop makes: of one more.
use Rattle.std.proofs.Common.{◌≡◌, ◌<◌, ◌+◌, ℕ, suc, List, ◌∷◌, ◌++◌, length, map, drop, get_or, ap, sym, ◌∙◌, arith, append_assoc}
use Rattle.std.proofs.Math.Seq.{drop-cons}
use Rattle.afdx_table.specs.declared.rows.PortRow.{PortRow}
use Rattle.afdx_table.specs.Content.{Content}
use Rattle.afdx_wiring.specs.declared.layout.End.{End}
use Rattle.afdx_network.specs.Given.{all_from}
use Rattle.afdx_network.specs.Inner.Sites.{end_at}

next_number : (n : ℕ) → suc n ≡ n + 1
next_number n = omega arith

-- all ports of one switch more
pub all_next : (items : List Content) (n : ℕ) (t : Content) (ends new : List End) → n < length items → t ≡ get_or items n t → all_from 0 items ≡ ends ++ all_from n (drop n items)
    → new ≡ ends ++ map (λ (p : PortRow). end_at n p.id) t.ports → all_from 0 items ≡ new ++ all_from (n + 1) (drop (n + 1) items)
all_next items n t ends new lt is so_far more =
    so_far ∙ ap (λ (ts : List Content). ends ++ all_from n ts) (drop-cons items n t lt ∙ ap (λ (u : Content). u ∷ drop (suc n) items) (sym is))
    ∙ sym (append_assoc ends (map (λ (p : PortRow). end_at n p.id) t.ports) (all_from (n + 1) (drop (suc n) items)))
    ∙ ap (λ (es : List End). es ++ all_from (n + 1) (drop (suc n) items)) (sym more) ∙ ap (λ (k : ℕ). new ++ all_from (n + 1) (drop k items)) (next_number n)
