-- What waits at a port, its line time and its room: whatever bounds them.
use Rattle.std.proofs.Common.{◌≡◌, ℕ, ◌+◌, ◌-◌, ◌*◌, ◌<◌, ◌≤◌, true, false, cond, List, [], ◌∷◌, ◌++◌, refl, arith, ⊎_elim}
use Rattle.std.specs.Prelude.{max, not, nat_le, All, Contains}
use Rattle.std.proofs.lemmas.Bool.{cases_lt}
use Rattle.std.proofs.lemmas.Bool.Decides.{nat_tests}
use Rattle.std.proofs.lemmas.List.Sums.{sum_by-cons}
use Rattle.std.proofs.lemmas.List.Elements.{All-weaker, All-contains, filter-append}
use Rattle.std.proofs.Math.Nat.{mul-le-mul_left}
use Rattle.afdx_units.specs.declared.line.Speed.{Speed}
use Rattle.afdx_units.specs.declared.line.Speed.TheVariants.{Ten, Hundred, Thousand}
use Rattle.afdx_units.specs.Line.{tick_of, is_high}
use Rattle.afdx_port.specs.declared.Settings.{Settings}
use Rattle.afdx_port.specs.declared.Item.{Item}
use Rattle.afdx_port.specs.Inner.Order.{highs, lows}
use Rattle.afdx_port.specs.Inner.Course.{line_at}
use Rattle.afdx_port.specs.Inner.Work.{item_cost}
use Rattle.afdx_account.specs.Policing.{parts}
use Rattle.afdx_isolation.specs.Inner.Potential.{costs}
use Rattle.afdx_isolation.specs.Inner.Ground.{Ground}

pub line_none : (s : Settings) (now : ℕ) → line_at s now [] ≡ record { free = max 0 now; waiting = [] }
unfolding line_at
line_none s now = refl

-- what waits is of the items
pub waiting_all : (g : Ground) (s : Settings) (P : Item → Type 0) (now : ℕ) (items : List Item) → All P items → All P (line_at s now items).waiting
waiting_all g s P now items h = All-weaker (Contains items) P (λ x among. All-contains P items x h among) (line_at s now items).waiting (g.waiting s now items)

pub highs-push : (items : List Item) (x : Item) → highs (items ++ x ∷ []) ≡ highs items ++ cond (is_high x.priority) (x ∷ []) []
highs-push items x = filter-append (λ (item : Item). is_high item.priority) items (x ∷ [])

pub lows-push : (items : List Item) (x : Item) → lows (items ++ x ∷ []) ≡ lows items ++ cond (not (is_high x.priority)) (x ∷ []) []
lows-push items x = filter-append (λ (item : Item). not (is_high item.priority)) items (x ∷ [])

-- the costs of each priority are all costs
pub costs_parts : (s : Settings) (items : List Item) → costs s (highs items) + costs s (lows items) ≡ costs s items
costs_parts s [] = refl
costs_parts s (x ∷ items) =
    let ih = costs_parts s items in
    elim (is_high x.priority) as (λ v. costs s (cond v (x ∷ highs items) (highs items)) + costs s (cond (not v) (x ∷ lows items) (lows items)) ≡ costs s (x ∷ items)) [
      | true ↦ omega (arith, ih, sum_by-cons (item_cost s) x (highs items), sum_by-cons (item_cost s) x items)
      | false ↦ omega (arith, ih, sum_by-cons (item_cost s) x (lows items), sum_by-cons (item_cost s) x items)
    ]

pub tick_some : (speed : Speed) → 0 < tick_of speed
tick_some Ten = omega arith
tick_some Hundred = omega arith
tick_some Thousand = omega arith

within' : (a b : ℕ) → a ≤ b → nat_le a b ≡ true
within' a b h = grind (arith, nat_tests)

-- an item has room beside what is held, where line time is left for both
pub fits_by : (k size held' room work' most burst hs ls level ws now free : ℕ) → 0 < k → now ≤ free → k * held' ≤ work' + most → work' ≡ (free - now) + ws → hs + ls ≡ ws + (size + 20) * k
    → parts * (free + hs + ls) + level ≤ parts * now + burst → burst + parts * most ≤ parts * (k * room) → nat_le (size + held') room ≡ true
fits_by k size held' room work' most burst hs ls level ws now free some start bytes is sum all buffer = within' (size + held') room (⊎_elim
    (λ (lt : room < size + held'). absurd (
    let lt' : room + 1 ≤ size + held' = omega arith in
    let more : k * (room + 1) ≤ k * (size + held') = mul-le-mul_left k lt' in
    let line : free ≡ now + (free - now) = omega (arith, start) in
    let needed : k * (size + held') ≤ (work' + most) + (size + 20) * k = omega (arith, bytes) in
    let kept' : parts * (work' + (size + 20) * k) ≤ burst = omega (arith, all, line, sum, is) in
    let room' : k * (room + 1) ≡ k * room + k = omega arith in
    omega (arith, needed, kept', more, room', buffer, some)))
    (λ (ge : size + held' ≤ room). ge)
    (cases_lt room (size + held')))
