-- One more item in a tally.
use Rattle.std.proofs.Common.{◌≡◌, ℕ, ◌+◌, ◌<◌, ◌≤◌, Bool, true, false, not, cond, List, [], ◌∷◌, ◌++◌, length, count_by, ap, ap₂, ◌∙◌, arith}
use Rattle.std.proofs.lemmas.List.{length-append}
use Rattle.std.proofs.lemmas.List.Sums.{sum_by_push, sum_by-cons}
use Rattle.afdx_units.specs.declared.line.Priority.{Priority}
use Rattle.afdx_units.specs.declared.line.Priority.TheVariants.{High, Low}
use Rattle.afdx_units.specs.Line.{is_high}
use Rattle.afdx_port.specs.declared.Sent.{Sent}
use Rattle.afdx_port.specs.declared.Aged.{Aged}
use Rattle.afdx_port.specs.declared.Tally.{Tally}
use Rattle.afdx_port.specs.Tally.{tally_of_sent, tally_of_aged}
use Rattle.afdx_port.specs.Inner.Tally.{one_more}

pub count_most : {X : Type 0} (p : X → Bool) (xs : List X) → count_by p xs ≤ length xs
count_most p [] = omega arith
count_most p (x ∷ xs) = let rest = count_most p xs in let one = at_most (p x) in let all = sum_by-cons (λ y. cond (p y) 1 0) x xs in omega (arith, rest, one, all) where
  at_most : (b : Bool) → cond b 1 0 ≤ 1
  at_most true = omega arith
  at_most false = omega arith

count_push : {X : Type 0} (p : X → Bool) (xs : List X) (x : X) → count_by p (xs ++ x ∷ []) ≡ count_by p xs + cond (p x) 1 0
count_push p xs x = sum_by_push (λ y. cond (p y) 1 0) xs x

one : (priority : Priority) (high low : ℕ) → record { high = high + cond (is_high priority) 1 0; low = low + cond (not (is_high priority)) 1 0 } ≡ one_more priority (record { high = high; low = low })
one High high low = let n : low + 0 ≡ low = omega arith in ap {B = Tally} (λ k. record { high = high + 1; low = k }) n
one Low high low = let n : high + 0 ≡ high = omega arith in ap {B = Tally} (λ k. record { high = k; low = low + 1 }) n

pub sent_more : (xs : List Sent) (s : Sent) → tally_of_sent (xs ++ s ∷ []) ≡ one_more s.item.priority (tally_of_sent xs)
sent_more xs s =
    ap₂ {A = ℕ} {B = ℕ} {C = Tally} (λ h l. record { high = h; low = l }) (count_push (λ (x : Sent). is_high x.item.priority) xs s) (count_push (λ (x : Sent). not (is_high x.item.priority)) xs s)
    ∙ one s.item.priority (count_by (λ (x : Sent). is_high x.item.priority) xs) (count_by (λ (x : Sent). not (is_high x.item.priority)) xs)

pub aged_more : (xs : List Aged) (s : Aged) → tally_of_aged (xs ++ s ∷ []) ≡ one_more s.item.priority (tally_of_aged xs)
aged_more xs s =
    ap₂ {A = ℕ} {B = ℕ} {C = Tally} (λ h l. record { high = h; low = l }) (count_push (λ (x : Aged). is_high x.item.priority) xs s) (count_push (λ (x : Aged). not (is_high x.item.priority)) xs s)
    ∙ one s.item.priority (count_by (λ (x : Aged). is_high x.item.priority) xs) (count_by (λ (x : Aged). not (is_high x.item.priority)) xs)

-- a tally of those before the last is below their number
pub below : {X : Type 0} (p : X → Bool) (xs ys : List X) (x : X) (n : ℕ) → ys ≡ xs ++ x ∷ [] → n ≡ length ys → count_by p xs < n
below p xs ys x n is all = let most = count_most p xs in let len = ap (λ (zs : List _). length zs) is ∙ length-append xs (x ∷ []) in omega (arith, most, len, all)
