-- What a queue keeps between its calls.
use Rattle.std.specs.Prelude.{◌≡◌, ℕ, ◌+◌, ◌<◌, ◌≤◌, ◌^◌, List, [], ◌∷◌, length, if◌then◌else◌}
use Rattle.std.specs.List.{AllByRecursion}
use Rattle.std.specs.Option.{option_map_or}
use Rattle.std.specs.Str.{bytes_eq}
use Rattle.std.specs.Ordering.{nat_cmp}
use Rattle.std.specs.Cmp.Lexicographic.{slice_cmp}
use Rattle.std.specs.BTreeMap.{BTreeMap, get_by}
use Rattle.std.specs.declared.vec.Vec.{Vec}
use Rattle.std.specs.declared.collections.VecDeque.{VecDeque}
use Rattle.afdx_pairing.specs.declared.spots.Spot.{Spot}
use Rattle.afdx_pairing.specs.Events.{Numbered}

-- where those stand that have these bytes, from a place on
abbrev pub spots_of : List ℕ → ℕ → List Numbered → List Spot
spots_of bytes place [] = []
spots_of bytes place (n ∷ ns) =
    if bytes_eq n.frame.bytes bytes then record { stamp = n.frame.stamp; place = place } ∷ spots_of bytes (place + 1) ns else spots_of bytes (place + 1) ns

-- what a map has at these bytes
abbrev pub spots_at : {Y Z : Type 0} → BTreeMap (Vec ℕ Y) (VecDeque Spot Z) → List ℕ → List Spot
spots_at m bytes = option_map_or (λ q. q.items) (get_by (λ k. slice_cmp nat_cmp bytes k.items) m) []

-- a number of each does not fall
abbrev pub Rise : {X : Type 0} → (X → ℕ) → List X → Type 0
Rise f [] = Unit {0}
Rise f (x ∷ xs) = AllByRecursion (λ other. f x ≤ f other) xs × Rise f xs

-- spots are in the order of their instants
abbrev pub AreInOrder : List Spot → Type 0
AreInOrder spots = Rise (λ s. s.stamp) spots

-- records are in the order of their stamps
abbrev pub ComeInOrder : List Numbered → Type 0
ComeInOrder ns = Rise (λ n. n.frame.stamp) ns

-- the map has the places of all, by their bytes, counted from the first that ever was in the queue
pub record IsKeptQueue {Y Z : Type 0} (items : List Numbered) (m : BTreeMap (Vec ℕ Y) (VecDeque Spot Z)) (gone : ℕ) : Type 0 where
  pub in_order : ComeInOrder items
  pub spots : (bytes : List ℕ) → spots_at m bytes ≡ spots_of bytes gone items
  pub counted : gone + length items < 2 ^ 64
