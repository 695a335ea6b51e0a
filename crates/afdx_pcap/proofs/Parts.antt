-- Parts of bytes, and parts of these.
use Rattle.std.proofs.Common.{◌≡◌, ℕ, ◌+◌, ◌-◌, ◌≤◌, List, length, take, drop, sym, ap, ◌∙◌, arith}
use Rattle.std.proofs.lemmas.List.{drop-take, drop-drop, take-take, length-drop, length-take-le}

module _ (xs : List ℕ) (start end : ℕ) (ordered : start ≤ end) (within : end ≤ length xs) where
  size : length (take (end - start) (drop start xs)) ≡ end - start
  size = length-take-le (end - start) (drop start xs) (omega (arith, length-drop start xs))

  -- a part without its first bytes
  pub forgotten : (count : ℕ) → count ≤ length (take (end - start) (drop start xs)) → take (end - (start + count)) (drop (start + count) xs) ≡ drop count (take (end - start) (drop start xs))
  forgotten count inside =
      let parts : end - start ≡ count + (end - (start + count)) = omega (arith, size, inside) in
      sym (ap (λ j. drop count (take j (drop start xs))) parts ∙ drop-take count _ (drop start xs) ∙ ap (take (end - (start + count))) (drop-drop count start xs))

  -- a part of a part
  pub part_of : (from to : ℕ) → from ≤ to → to ≤ length (take (end - start) (drop start xs))
      → take (start + to - (start + from)) (drop (start + from) xs) ≡ take (to - from) (drop from (take (end - start) (drop start xs)))
  part_of from to order inside =
      let most : to - from ≤ end - (start + from) = omega (arith, size, inside) in
      ap (λ j. take j (drop (start + from) xs)) (omega arith)
      ∙ sym (take-take (to - from) (end - (start + from)) (drop (start + from) xs) most)
      ∙ ap (take (to - from)) (forgotten from (omega (arith, order, inside)))
