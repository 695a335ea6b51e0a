-- What several reads gave.
use Rattle.std.proofs.Common.{◌≡◌, ◌<◌, ℕ, List, ◌++◌, length, take, Option, IfSome, sym, ap, ◌∙◌, append-nil}
use Rattle.std.specs.Io.KnownBytes.{Consumes, IsAtEnd}
use Rattle.std.proofs.KnownBytes.{Consumes-trans, Consumes-whole}

-- a read that gave nothing ends what was given
pub all_given : (a b c : Option (List ℕ)) (bytes buf : List ℕ) (n : ℕ) → Consumes a b bytes → Consumes b c (take n buf) × (n ≡ 0 → 0 < length buf → IsAtEnd c) → n ≡ 0 → 0 < length buf
    → IfSome a (λ all. bytes ≡ all)
all_given a b c bytes buf n before last none long =
    Consumes-whole a c (bytes ++ take n buf) (λ all. bytes ≡ all) (Consumes-trans a b c bytes (take n buf) before last.0) (last.1 none long)
    (sym (append-nil bytes) ∙ ap (λ k. bytes ++ take k buf) (sym none))
