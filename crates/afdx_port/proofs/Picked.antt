-- What both bodies of a port rest on: which events were carried out so far.
use Rattle.std.proofs.Common.{◌≡◌, ℕ, ◌+◌, ◌≤◌, Bool, true, false, cond, List, [], ◌∷◌, ◌++◌, ap, sym, ◌∙◌, arith}
use Rattle.std.specs.Prelude.{AllPairs, slice_index_or, nat_le}
use Rattle.std.proofs.lemmas.Bool.Decides.{nat_tests}
use Rattle.std.specs.List.{AllByRecursion}
use Rattle.afdx_port.specs.declared.Settings.{Settings}
use Rattle.afdx_port.specs.declared.Item.{Item}
use Rattle.afdx_port.specs.Service.{Event, reach, came, service, before}
use Rattle.afdx_port.specs.Inner.Order.{InOrder}
use Rattle.afdx_port.specs.Content.{done}
use Rattle.afdx_port.proofs.Parts.{before_on}

-- all that the proofs know of `reach`: it keeps the order, and lies at most one latency later
pub reach-le : (s : Settings) (t u : ℕ) → t ≤ u → reach s t ≤ reach s u
unfolding reach
reach-le s t u le = omega (arith, le)

pub reach-most : (s : Settings) (t : ℕ) → s.latency ≤ 100000 → reach s t ≤ t + 100000
unfolding reach
reach-most s t le = omega (arith, le)

-- items whose stamps do not fall are queued in their order
pub in_order : (s : Settings) (items : List Item) → AllPairs (λ a b. a.stamp ≤ b.stamp) items → InOrder s items
in_order s items h = λ i j d lt within. reach-le s (slice_index_or items i d).stamp (slice_index_or items j d).stamp (h i j d lt within)

pub done_open : (s : Settings) (admitted : List Item) (h : ℕ) (finished : Bool) → finished ≡ false → done (record { settings = s; admitted = admitted; horizon = h; finished = finished })
    ≡ before (reach s h) (service s 0 admitted)
done_open s admitted h finished open' = ap (λ b. cond b (service s 0 admitted) (before (reach s h) (service s 0 admitted))) open'

-- what was picked of the events before t, and then of the rest
pub picked : {X : Type 0} (pick : List Event → List X) (pick-append : (es fs : List Event) → pick (es ++ fs) ≡ pick es ++ pick fs) (t u : ℕ) (all rest : List Event) (xs ys : List X) → t ≤ u → all
    ≡ before t all ++ rest → xs ≡ pick (before t all) → ys ≡ xs ++ pick (before u rest) → ys ≡ pick (before u all)
picked pick pick-append t u all rest xs ys le parted so_far more =
    more ∙ ap (λ zs. zs ++ pick (before u rest)) so_far ∙ sym (pick-append (before t all) (before u rest)) ∙ ap pick (sym (before_on t u all rest le parted))

pub picked_all : {X : Type 0} (pick : List Event → List X) (pick-append : (es fs : List Event) → pick (es ++ fs) ≡ pick es ++ pick fs) (t : ℕ) (all rest : List Event) (xs ys : List X) → all
    ≡ before t all ++ rest → xs ≡ pick (before t all) → ys ≡ xs ++ pick rest → ys ≡ pick all
picked_all pick pick-append t all rest xs ys parted so_far more =
    more ∙ ap (λ zs. zs ++ pick rest) so_far ∙ sym (pick-append (before t all) rest) ∙ ap pick (sym parted)

pub later : (s : Settings) (x : Item) (t : ℕ) → t ≤ came s x → AllByRecursion (λ (y : Item). t ≤ came s y) (x ∷ [])
later s x t le = (le, tt)

-- what fits has room beside what waits
pub room_for : (size on_line waiting limit : ℕ) → nat_le (size + (on_line + waiting)) limit ≡ true → waiting + size ≤ limit
room_for size on_line waiting limit fit = grind (arith, nat_tests)
