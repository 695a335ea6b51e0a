-- Items lined up: the high ones, and then the low ones.
use Rattle.std.proofs.Common.{◌≡◌, ℕ, ◌+◌, Bool, true, false, cond, List, [], ◌∷◌, ◌++◌, refl, ap, sym, ◌∙◌, arith, append-nil}
use Rattle.std.specs.Prelude.{filter, not, sum_by, All}
use Rattle.std.proofs.lemmas.Bool.Decides.{nat_tests}
use Rattle.std.proofs.lemmas.List.Sums.{sum_by-cons, sum_by-append}
use Rattle.std.proofs.lemmas.List.Elements.{All-head, All-tail, All-cons, All-nil, All-weaker, filter-append}
use Rattle.afdx_port.specs.declared.Item.{Item}
use Rattle.afdx_units.specs.Line.{is_high}
use Rattle.afdx_port.specs.Inner.Order.{line_up}
use Rattle.afdx_port.proofs.Order.{filter_none}
use Rattle.afdx_port.proofs.InLine.{high, low}

filter_all : (p : Item → Bool) (xs : List Item) → All (λ x. p x ≡ true) xs → filter p xs ≡ xs
filter_all p [] h = refl
filter_all p (x ∷ xs) h = ap (λ b. cond b (x ∷ filter p xs) (filter p xs)) (All-head (λ x. p x ≡ true) x xs h) ∙ ap (λ ys. x ∷ ys) (filter_all p xs (All-tail (λ x. p x ≡ true) x xs h))

pub filter_passes : (p : Item → Bool) (xs : List Item) → All (λ x. p x ≡ true) (filter p xs)
filter_passes p [] = All-nil (λ x. p x ≡ true)
filter_passes p (x ∷ xs) = decide (p x) refl (filter_passes p xs) where
  decide : (b : Bool) → p x ≡ b → All (λ x. p x ≡ true) (filter p xs) → All (λ x. p x ≡ true) (cond b (x ∷ filter p xs) (filter p xs))
  decide true is ih = All-cons (λ x. p x ≡ true) x (filter p xs) is ih
  decide false is ih = ih

low_not_high : (x : Item) → low x ≡ true → high x ≡ false
low_not_high x h = grind (arith, nat_tests)

module _ (hs ls : List Item) (highs : All (λ (x : Item). is_high x.priority ≡ true) hs) (lows : All (λ (x : Item). is_high x.priority ≡ false) ls) where
  pub high_part : filter high (hs ++ ls) ≡ hs
  high_part = filter-append high hs ls ∙ ap (λ xs. xs ++ filter high ls) (filter_all high hs highs) ∙ ap (λ xs. hs ++ xs) (filter_none high ls lows) ∙ append-nil hs

  pub low_part : filter low (hs ++ ls) ≡ ls
  low_part =
      filter-append low hs ls
      ∙ ap (λ xs. xs ++ filter low ls) (filter_none low hs (All-weaker (λ x. high x ≡ true) (λ x. low x ≡ false) (λ x h. ap not h) hs highs))
      ∙ filter_all low ls (All-weaker (λ x. high x ≡ false) (λ x. low x ≡ true) (λ x h. ap not h) ls lows)

pub filter_lows : (ws : List Item) → All (λ x. high x ≡ false) (filter low ws)
filter_lows ws = All-weaker (λ x. low x ≡ true) (λ x. high x ≡ false) (λ x h. low_not_high x h) (filter low ws) (filter_passes low ws)

-- the new item is behind those of its priority
pub queued_line : (hs ls : List Item) (x : Item) → All (λ (x : Item). is_high x.priority ≡ true) hs → All (λ (x : Item). is_high x.priority ≡ false) ls
    → cond (is_high x.priority) ((hs ++ x ∷ []) ++ ls) (hs ++ (ls ++ x ∷ [])) ≡ line_up ((hs ++ ls) ++ x ∷ [])
queued_line hs ls x highs lows =
    decide (is_high x.priority)
    ∙ sym (ap (λ zs. zs ++ filter low ((hs ++ ls) ++ x ∷ [])) (filter-append high (hs ++ ls) (x ∷ []) ∙ ap (λ zs. zs ++ filter high (x ∷ [])) (high_part hs ls highs lows))
    ∙ ap (λ zs. (hs ++ filter high (x ∷ [])) ++ zs) (filter-append low (hs ++ ls) (x ∷ []) ∙ ap (λ zs. zs ++ filter low (x ∷ [])) (low_part hs ls highs lows))) where
      decide : (v : Bool) → cond v ((hs ++ x ∷ []) ++ ls) (hs ++ (ls ++ x ∷ [])) ≡ (hs ++ cond v (x ∷ []) []) ++ (ls ++ cond (not v) (x ∷ []) [])
      decide true = ap (λ zs. (hs ++ x ∷ []) ++ zs) (sym (append-nil ls))
      decide false = ap (λ zs. zs ++ (ls ++ x ∷ [])) (sym (append-nil hs))

pub sum_line_up : (f : Item → ℕ) (ws : List Item) → sum_by f (line_up ws) ≡ sum_by f ws
sum_line_up f [] = refl
sum_line_up f (x ∷ ws) = one (is_high x.priority) (filter high ws) (filter low ws) ∙ ap (λ n. f x + n) (sum_line_up f ws) ∙ sym (sum_by-cons f x ws) where
  one : (v : Bool) (hs ls : List Item) → sum_by f (cond v (x ∷ hs) hs ++ cond (not v) (x ∷ ls) ls) ≡ f x + sum_by f (hs ++ ls)
  one true hs ls = sum_by-cons f x (hs ++ ls)
  one false hs ls = let a = sum_by-append f hs (x ∷ ls) in let b = sum_by-append f hs ls in let c = sum_by-cons f x ls in omega (arith, a, b, c)
