-- Items that have all come are served in line: the high ones, and then the low ones.
use Rattle.std.proofs.Common.{◌≡◌, ℕ, zero, suc, ◌<◌, ◌≤◌, Bool, true, false, cond, List, [], ◌∷◌, ◌++◌, length, get_or, take, Some, refl, ap, sym, ◌∙◌, arith, ⊎_elim, ◌⊎◌, inl, inr}
use Rattle.std.specs.Prelude.{max, filter, not, All, unwrap_or, position}
use Rattle.std.specs.List.{AllByRecursion}
use Rattle.std.proofs.lemmas.Bool.{cases_Bool, both_ways}
use Rattle.std.proofs.lemmas.Bool.Decides.{nat_tests}
use Rattle.std.proofs.lemmas.List.{length-take, get_or-take}
use Rattle.std.proofs.lemmas.List.Elements.{All-head, All-tail, All-get_or, All-weaker}
use Rattle.std.proofs.lemmas.List.Quantifiers.{position-Some}
use Rattle.afdx_port.specs.declared.Settings.{Settings}
use Rattle.afdx_port.specs.declared.Item.{Item}
use Rattle.afdx_port.specs.Service.{came, free_after, fate, next, others, turn, is_urgent, service, in_turn}
use Rattle.afdx_units.specs.Line.{is_high}
use Rattle.afdx_port.specs.Inner.Progress.{start_of}
use Rattle.afdx_port.specs.Inner.Order.{in_line, highs, lows, line_up, HighTurn, LowTurn}
use Rattle.afdx_port.proofs.Turns.{length-others, service-step, position_none, free_after-next}
use Rattle.afdx_port.proofs.Working.{others_all}
use Rattle.afdx_port.proofs.Bounds.{found}
use Rattle.afdx_port.proofs.Order.{filter_none, others_filter}

abbrev pub high : Item → Bool
high item = is_high item.priority

abbrev pub low : Item → Bool
low item = not (is_high item.priority)

calm : (s : Settings) (b : ℕ) (x : Item) → is_urgent s b x ≡ false → came s x ≤ b → high x ≡ false
calm s b x waits le = grind (arith, nat_tests)

urgent_high : (s : Settings) (b : ℕ) (x : Item) → is_urgent s b x ≡ true → high x ≡ true
urgent_high s b x h = grind (arith, nat_tests)

all_calm : (s : Settings) (b : ℕ) (items : List Item) → AllByRecursion (λ item. is_urgent s b item ≡ false) items → All (λ (item : Item). came s item ≤ b) items → filter high items ≡ []
all_calm s b [] none come = refl
all_calm s b (x ∷ items) none come =
    ap (λ v. cond v (x ∷ filter high items) (filter high items)) (calm s b x none.0 (All-head (λ (item : Item). came s item ≤ b) x items come))
    ∙ all_calm s b items none.1 (All-tail (λ (item : Item). came s item ≤ b) x items come)

calm_before : (s : Settings) (b : ℕ) (items : List Item) (i : ℕ) → All (λ (item : Item). came s item ≤ b) items → position (is_urgent s b) items ≡ Some i → (k : ℕ) (e : Item)
    → k < length (take i items) → high (get_or (take i items) k e) ≡ false
calm_before s b items i come at k e lt =
    let facts = position-Some (is_urgent s b) items i e at in
    let low : k < i = omega (arith, length-take i items) in
    let within : i < length items = facts.0 in
    ap high (get_or-take i items k e low) ∙ calm s b (get_or items k e) (facts.2 k low) (All-get_or (λ (item : Item). came s item ≤ b) items k e (omega arith) come)

module _ (s : Settings) (b : ℕ) (first : Item) (rest : List Item) (come : All (λ (item : Item). came s item ≤ b) (first ∷ rest)) where
  -- no high item waits before the one whose turn it is
  pub high_before : filter high (take (turn s b (first ∷ rest)) (first ∷ rest)) ≡ []
  high_before = ⊎_elim
      (λ (none : AllByRecursion (λ item. is_urgent s b item ≡ false) (first ∷ rest)). ap (λ o. filter high (take (unwrap_or o 0) (first ∷ rest))) (position_none (is_urgent s b) (first ∷ rest) none))
      (λ (some : (i : ℕ) × (position (is_urgent s b) (first ∷ rest) ≡ Some i)).
      ap (λ o. filter high (take (unwrap_or o 0) (first ∷ rest))) some.1 ∙ filter_none high (take some.0 (first ∷ rest)) (calm_before s b (first ∷ rest) some.0 come some.1))
      (found (is_urgent s b) (first ∷ rest))

  -- where it is a low item's turn, it is the first of all, and no high one waits
  pub low_first : high (get_or (first ∷ rest) (turn s b (first ∷ rest)) first) ≡ false → (filter low (take (turn s b (first ∷ rest)) (first ∷ rest)) ≡ []) × (filter high (first ∷ rest) ≡ [])
  low_first is = ⊎_elim
      (λ (none : AllByRecursion (λ item. is_urgent s b item ≡ false) (first ∷ rest)).
      (ap (λ o. filter low (take (unwrap_or o 0) (first ∷ rest))) (position_none (is_urgent s b) (first ∷ rest) none), all_calm s b (first ∷ rest) none come))
      (λ (some : (i : ℕ) × (position (is_urgent s b) (first ∷ rest) ≡ Some i)).
      let urgent = (position-Some (is_urgent s b) (first ∷ rest) some.0 first some.1).1 in
      absurd (both_ways (high (get_or (first ∷ rest) some.0 first)) (sym (ap (λ o. high (get_or (first ∷ rest) (unwrap_or o 0) first)) some.1) ∙ is)
      (urgent_high s b (get_or (first ∷ rest) some.0 first) urgent)))
      (found (is_urgent s b) (first ∷ rest))

-- it is the turn of the first high item or, where none waits, of the first low one
pub turns : (s : Settings) (free : ℕ) (first : Item) (rest : List Item) → All (λ (item : Item). came s item ≤ max free (came s first)) (first ∷ rest) → HighTurn s free first rest
    ⊎ LowTurn s free first rest
turns s free first rest come =
    let b = max free (came s first) in
    let x = in_turn s free first rest in
    let more = others s free first rest in
    let taken = others_filter s high free first rest (λ _. high_before s b first rest come) in
    ⊎_elim
    (λ (is : high x ≡ true).
    let not_low : low x ≡ false = ap not is in
    let left = others_filter s low free first rest (λ passes. absurd (both_ways (low x) not_low passes)) in
    inl (record {
      is = is;
      high = taken ∙ ap (λ v. cond v (x ∷ highs more) (highs more)) is;
      low = left ∙ ap (λ v. cond v (x ∷ lows more) (lows more)) not_low;
    }))
    (λ (is : high x ≡ false).
    let facts = low_first s b first rest come is in
    let is_low : low x ≡ true = ap not is in
    let left = others_filter s low free first rest (λ _. facts.0) in
    inr (record {
      is = is;
      high = facts.1;
      still = sym (taken ∙ ap (λ v. cond v (x ∷ highs more) (highs more)) is) ∙ facts.1;
      low = left ∙ ap (λ v. cond v (x ∷ lows more) (lows more)) is_low;
    }))
    (cases_Bool (high x))

-- the item whose turn it is heads the line
pub line_up-step : (s : Settings) (free : ℕ) (first : Item) (rest : List Item) → All (λ (item : Item). came s item ≤ max free (came s first)) (first ∷ rest) → line_up (first ∷ rest)
    ≡ in_turn s free first rest ∷ line_up (others s free first rest)
line_up-step s free first rest come = ⊎_elim
    (λ (h : HighTurn s free first rest). ap (λ hs. hs ++ lows (first ∷ rest)) h.high ∙ ap (λ ls. (in_turn s free first rest ∷ highs (others s free first rest)) ++ ls) h.low)
    (λ (h : LowTurn s free first rest). ap (λ hs. hs ++ lows (first ∷ rest)) h.high ∙ h.low ∙ ap (λ hs. in_turn s free first rest ∷ (hs ++ lows (others s free first rest))) (sym h.still))
    (turns s free first rest come)

pub next_is : (s : Settings) (free : ℕ) (first : Item) (rest : List Item) → next s free first rest
    ≡ fate s (max free (came s first)) (get_or (first ∷ rest) (turn s (max free (came s first)) (first ∷ rest)) first)
unfolding next
next_is s free first rest = refl

start_free : (s : Settings) (free : ℕ) (items : List Item) → All (λ (item : Item). came s item ≤ free) items → start_of s free items ≡ free
start_free s free [] come = refl
start_free s free (first ∷ rest) come = let le = All-head (λ (item : Item). came s item ≤ free) first rest come in omega (arith, le)

in_line_by : (n : ℕ) (s : Settings) (free : ℕ) (items : List Item) → length items ≡ n → All (λ (item : Item). came s item ≤ start_of s free items) items → service s free items
    ≡ in_line s (start_of s free items) (line_up items)
in_line_by n s free [] is come = refl
in_line_by zero s free (first ∷ rest) is come = absurd (omega (arith, is))
in_line_by (suc n) s free (first ∷ rest) is come =
    let b = max free (came s first) in
    let e = next s free first rest in
    let x = get_or (first ∷ rest) (turn s b (first ∷ rest)) first in
    let more = others s free first rest in
    let later : All (λ (item : Item). came s item ≤ free_after e) more = All-weaker (λ (item : Item). came s item ≤ b) (λ (item : Item). came s item ≤ free_after e)
    (λ item h. omega (arith, h, free_after-next s free first rest)) more (others_all s (λ (item : Item). came s item ≤ b) free first rest come) in
    let start = start_free s (free_after e) more later in
    let come' : All (λ (item : Item). came s item ≤ start_of s (free_after e) more) more = rw start later in
    let ih = in_line_by n s (free_after e) more (omega (arith, is, length-others s free first rest)) come' in
    service-step s free first rest
    ∙ ap (λ es. e ∷ es) (ih ∙ ap (λ f. in_line s f (line_up more)) start)
    ∙ ap (λ e. e ∷ in_line s (free_after e) (line_up more)) (next_is s free first rest)
    ∙ sym (ap (in_line s b) (line_up-step s free first rest come))

pub serves_in_line : (s : Settings) (free : ℕ) (items : List Item) → All (λ (item : Item). came s item ≤ start_of s free items) items → service s free items
    ≡ in_line s (start_of s free items) (line_up items)
serves_in_line s free items come = in_line_by (length items) s free items refl come
