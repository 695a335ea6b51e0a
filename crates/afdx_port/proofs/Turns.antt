-- Whose turn it is, and what the next event is.
use Rattle.std.proofs.Common.{◌≡◌, ℕ, zero, suc, ◌+◌, ◌-◌, ◌<◌, ◌≤◌, Bool, true, false, cond, List, [], ◌∷◌, ◌++◌, length, get_or, Some, None, refl, ap, sym, ◌∙◌, arith, ⊎_elim}
use Rattle.std.specs.Prelude.{max, position, unwrap_or, remove, nat_lt}
use Rattle.std.specs.List.{AllByRecursion}
use Rattle.std.specs.Option.{option_map}
use Rattle.std.proofs.lemmas.Bool.{cases_lt}
use Rattle.std.proofs.lemmas.Bool.Decides.{nat_tests}
use Rattle.std.proofs.lemmas.List.{get_or_append_left}
use Rattle.std.proofs.lemmas.List.Edits.{length-remove, remove-append_left}
use Rattle.afdx_units.specs.Line.{cost_of}
use Rattle.afdx_port.specs.declared.Settings.{Settings}
use Rattle.afdx_port.specs.declared.Item.{Item}
use Rattle.afdx_port.specs.Service.{came, sending, aging, instant, free_after, item_of, is_urgent, turn, fate, next, others, serve, service}

pub position-cons : {X : Type 0} (p : X → Bool) (x : X) (xs : List X) → position p (x ∷ xs) ≡ cond (p x) (Some 0) (option_map suc (position p xs))
position-cons p x xs = grind (arith, nat_tests)

pub position_none : {X : Type 0} (p : X → Bool) (ys : List X) → AllByRecursion (λ y. p y ≡ false) ys → position p ys ≡ None
position_none p [] none = refl
position_none p (y ∷ ys) none = position-cons p y ys ∙ rw (none.0, position_none p ys none.1)

pub position-append : {X : Type 0} (p : X → Bool) (xs ys : List X) → AllByRecursion (λ y. p y ≡ false) ys → position p (xs ++ ys) ≡ position p xs
position-append p [] ys none = position_none p ys none
position-append p (x ∷ xs) ys none = position-cons p x (xs ++ ys) ∙ ap (λ o. cond (p x) (Some 0) (option_map suc o)) (position-append p xs ys none) ∙ sym (position-cons p x xs)

pub turn-lt : (s : Settings) (b : ℕ) (first : Item) (rest : List Item) → turn s b (first ∷ rest) < suc (length rest)
turn-lt s b first rest = grind (arith, nat_tests)

-- an item that comes after b has no turn at b
pub not_urgent : (s : Settings) (b t : ℕ) (ys : List Item) → b < t → AllByRecursion (λ (y : Item). t ≤ came s y) ys → AllByRecursion (λ y. is_urgent s b y ≡ false) ys
not_urgent s b t [] lt later = tt
not_urgent s b t (y ∷ ys) lt later = (grind (arith, nat_tests, later.0), not_urgent s b t ys lt later.1)

pub turn-append : (s : Settings) (b t : ℕ) (items ys : List Item) → b < t → AllByRecursion (λ (y : Item). t ≤ came s y) ys → turn s b (items ++ ys) ≡ turn s b items
turn-append s b t items ys lt later = ap (λ o. unwrap_or o 0) (position-append (is_urgent s b) items ys (not_urgent s b t ys lt later))

pub instant-fate : (s : Settings) (b : ℕ) (x : Item) → instant (fate s b x) ≡ b
instant-fate s b x = elim (nat_lt s.max_delay (b - x.stamp)) as (λ v. instant (cond v (aging (record { item = x; at = b }))
    (sending (record { item = x; begin = b; end = b + cost_of s.speed x.size }))) ≡ b) [ true ↦ refl | false ↦ refl ]

pub free_after-fate : (s : Settings) (b : ℕ) (x : Item) → b ≤ free_after (fate s b x)
free_after-fate s b x = elim (nat_lt s.max_delay (b - x.stamp)) as (λ v. b ≤ free_after
    (cond v (aging (record { item = x; at = b })) (sending (record { item = x; begin = b; end = b + cost_of s.speed x.size })))) [ true ↦ omega arith | false ↦ omega arith ]

-- the event lies where the line is free and the first item has come
pub instant-next : (s : Settings) (free : ℕ) (first : Item) (rest : List Item) → instant (next s free first rest) ≡ max free (came s first)
unfolding next
instant-next s free first rest = instant-fate s (max free (came s first)) _

pub length-others : (s : Settings) (free : ℕ) (first : Item) (rest : List Item) → length (others s free first rest) ≡ length rest
unfolding others
length-others s free first rest =
    let lt = turn-lt s (max free (came s first)) first rest in
    let e = length-remove (first ∷ rest) (turn s (max free (came s first)) (first ∷ rest)) lt in
    omega (arith, e)

-- the line is free no sooner than the event
pub free_after-next : (s : Settings) (free : ℕ) (first : Item) (rest : List Item) → max free (came s first) ≤ free_after (next s free first rest)
unfolding next
free_after-next s free first rest = free_after-fate s (max free (came s first)) _

pub item_of-next : (s : Settings) (free : ℕ) (first : Item) (rest : List Item) → item_of (next s free first rest) ≡ get_or (first ∷ rest) (turn s (max free (came s first)) (first ∷ rest)) first
unfolding next
item_of-next s free first rest = item_fate s (max free (came s first)) _ where
  item_fate : (s : Settings) (b : ℕ) (x : Item) → item_of (fate s b x) ≡ x
  item_fate s b x = elim (nat_lt s.max_delay (b - x.stamp)) as (λ v. item_of (cond v (aging (record { item = x; at = b })) (sending (record { item = x; begin = b; end = b + cost_of s.speed x.size })))
      ≡ x) [ true ↦ refl | false ↦ refl ]

-- the service goes on by one event
pub service-step : (s : Settings) (free : ℕ) (first : Item) (rest : List Item) → service s free (first ∷ rest)
    ≡ next s free first rest ∷ service s (free_after (next s free first rest)) (others s free first rest)
service-step s free first rest = ap (λ n. next s free first rest ∷ serve n s (free_after (next s free first rest)) (others s free first rest)) (sym (length-others s free first rest))

-- items that come after the next event do not change it
pub next-append : (s : Settings) (t free : ℕ) (first : Item) (rest ys : List Item) → max free (came s first) < t → AllByRecursion (λ (y : Item). t ≤ came s y) ys → next s free first (rest ++ ys)
    ≡ next s free first rest
unfolding next
next-append s t free first rest ys lt later =
    let b = max free (came s first) in
    let same = turn-append s b t (first ∷ rest) ys lt later in
    let at = get_or_append_left (first ∷ rest) ys first (turn s b (first ∷ rest)) (turn-lt s b first rest) in
    ap (λ k. fate s b (get_or (first ∷ (rest ++ ys)) k first)) same ∙ ap (fate s b) at

pub others-append : (s : Settings) (t free : ℕ) (first : Item) (rest ys : List Item) → max free (came s first) < t → AllByRecursion (λ (y : Item). t ≤ came s y) ys → others s free first (rest ++ ys)
    ≡ others s free first rest ++ ys
unfolding others
others-append s t free first rest ys lt later =
    let b = max free (came s first) in
    ap (λ k. remove (first ∷ (rest ++ ys)) k) (turn-append s b t (first ∷ rest) ys lt later) ∙ remove-append_left (first ∷ rest) ys (turn s b (first ∷ rest)) (turn-lt s b first rest)

-- induction over the events of a service
pub by_events : (s : Settings) (P : ℕ → List Item → Type 0) → ((free : ℕ) → P free [])
    → ((free : ℕ) (first : Item) (rest : List Item) → P (free_after (next s free first rest)) (others s free first rest) → P free (first ∷ rest))
    → (free : ℕ) (items : List Item) → P free items
by_events s P none step free items = by_length (length items) free items refl where
  by_length : (n : ℕ) (free : ℕ) (items : List Item) → length items ≡ n → P free items
  by_length n free [] is = none free
  by_length zero free (first ∷ rest) is = absurd (omega (arith, is))
  by_length (suc n) free (first ∷ rest) is = step free first rest (by_length n (free_after (next s free first rest)) (others s free first rest) (omega (arith, is, length-others s free first rest)))

-- induction over the events before t
pub by_steps : (s : Settings) (t : ℕ) (P : ℕ → List Item → Type 0) → ((free : ℕ) → P free [])
    → ((free : ℕ) (first : Item) (rest : List Item) → max free (came s first) < t → P (free_after (next s free first rest)) (others s free first rest) → P free (first ∷ rest))
    → ((free : ℕ) (first : Item) (rest : List Item) → t ≤ max free (came s first) → P free (first ∷ rest))
    → (free : ℕ) (items : List Item) → P free items
by_steps s t P none step stop free items = by_events s P none
    (λ free first rest ih. ⊎_elim
    (λ (lt : max free (came s first) < t). step free first rest lt ih)
    (λ (ge : t ≤ max free (came s first)). stop free first rest ge)
    (cases_lt (max free (came s first)) t))
    free items
