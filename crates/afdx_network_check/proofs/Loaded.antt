-- The bounds of a network's ports, switch by switch.
use Rattle.std.proofs.Common.{◌≡◌, ℕ, zero, suc, ◌+◌, ◌<◌, ◌≤◌, ◌==◌, Bool, true, false, cond, nat_lt, List, [], ◌∷◌, map, length, slice_get}
use Rattle.std.proofs.Common.{slice_set, inl, inr, ◌⊎◌, subst}
use Rattle.std.proofs.Common.{Option, Some, None, option_map, option_and_then, find, refl, ap, sym, ◌∙◌, arith}
use Rattle.std.specs.Prelude.{Vec, position}
use Rattle.std.specs.List.{position_or_len}
use Rattle.std.proofs.lemmas.Bool.{cases_lt}
use Rattle.std.proofs.lemmas.Bool.Decides.{nat_tests}
use Rattle.std.proofs.lemmas.List.Folds.{find_at}
use Rattle.std.proofs.lemmas.Option.{same_Some, slice_get-map, slice_get_past}
use Rattle.afdx_table.specs.declared.rows.PortRow.{PortRow}
use Rattle.afdx_table.specs.Content.{Content, port_row}
use Rattle.afdx_load.specs.Bounds.{bounds_of}
use Rattle.afdx_load.specs.declared.delays.Bounds.{Bounds}
use Rattle.afdx_grouping.specs.Lined.{rounding_in}
use Rattle.afdx_network_check.specs.Net.{Network, load_at}
use Rattle.afdx_network_check.specs.Inner.Loads.{switch_bounds, bounds_from}

-- those of a switch
pub bounds_found : (net : Network) (n : ℕ) (ts : List Content) (i : ℕ) → slice_get (bounds_from net n ts) i ≡ option_map (switch_bounds net (n + i)) (slice_get ts i)
bounds_found net n [] i = refl
bounds_found net n (t ∷ ts) zero = ap (λ (k : ℕ). Some (switch_bounds net k t)) (first n) where
  first : (m : ℕ) → m ≡ m + 0
  first m = omega arith
bounds_found net n (t ∷ ts) (suc i) = bounds_found net (n + 1) ts i ∙ ap (λ (k : ℕ). option_map (switch_bounds net k) (slice_get ts i)) (next n i) where
  next : (m k : ℕ) → m + 1 + k ≡ m + suc k
  next m k = omega arith

-- as they are kept
pub record IsKept {Z : Type 0} (net : Network) (all : List (Vec Bounds Z)) (i : ℕ) (t : Content) : Type 0 where
  pub bounds : Vec Bounds Z
  pub bounds_are : slice_get all i ≡ Some bounds
  pub are : bounds.items ≡ switch_bounds net i t

pub kept_there : {Z : Type 0} (net : Network) (all : List (Vec Bounds Z)) (i : ℕ) (t : Content) → map (λ (bounds : Vec Bounds Z). bounds.items) all ≡ bounds_from net 0 net.tables
    → slice_get net.tables i ≡ Some t → IsKept net all i t
kept_there {Z = Z} net all i t are t_is =
    by (slice_get all i) refl
    (sym (slice_get-map (λ (bounds : Vec Bounds Z). bounds.items) all i) ∙ ap (λ (ls : List (List Bounds)). slice_get ls i) are ∙ bounds_found net 0 net.tables i
    ∙ ap (λ (n : ℕ). option_map (switch_bounds net n) (slice_get net.tables i)) (start i) ∙ ap (option_map (switch_bounds net i)) t_is) where
      start : (n : ℕ) → 0 + n ≡ n
      start n = omega arith

      by : (o : Option (Vec Bounds Z)) → slice_get all i ≡ o → option_map (λ (bounds : Vec Bounds Z). bounds.items) o ≡ Some (switch_bounds net i t) → IsKept net all i t
      by None at none = absurd cc
      by (Some bounds) at some = record { bounds = bounds; bounds_are = at; are = same_Some bounds.items (switch_bounds net i t) some }

-- what is made of a port is in its place
pub place_found : (f : PortRow → Bounds) (p : PortRow → Bool) (rows : List PortRow) → option_and_then (slice_get (map f rows)) (position p rows) ≡ option_map f (find p rows)
place_found f p rows = by (nat_lt (position_or_len p rows) (length rows)) refl where
  past : (k n : ℕ) → nat_lt k n ≡ false → n ≤ k
  past k n h = grind (arith, nat_tests)

  by : (b : Bool) → nat_lt (position_or_len p rows) (length rows) ≡ b → option_and_then (slice_get (map f rows)) (cond b (Some (position_or_len p rows)) None) ≡ option_map f (find p rows)
  by true within = slice_get-map f rows (position_or_len p rows) ∙ ap (option_map f) (sym (find_at p rows))
  by false over = ap (option_map f) (sym (find_at p rows ∙ slice_get_past rows (position_or_len p rows) (past (position_or_len p rows) (length rows) over)))

pub bounds_there : {Z : Type 0} (net : Network) (all : List (Vec Bounds Z)) (i port : ℕ) (t : Content) → map (λ (bounds : Vec Bounds Z). bounds.items) all ≡ bounds_from net 0 net.tables
    → slice_get net.tables i ≡ Some t → (v : Vec Bounds Z) → slice_get all i ≡ Some v
    → option_and_then (slice_get v.items) (position (λ p. p.id == port) t.ports) ≡ option_map (λ p. bounds_of (load_at net i t p)) (port_row t port)
bounds_there {Z = Z} net all i port t are t_is v v_is =
    let kept = kept_there net all i t are t_is in
    let items : v.items ≡ switch_bounds net i t = ap (λ (w : Vec Bounds Z). w.items) (same_Some v kept.bounds (sym v_is ∙ kept.bounds_are)) ∙ kept.are in
    ap (λ (ls : List Bounds). option_and_then (slice_get ls) (position (λ p. p.id == port) t.ports)) items ∙ place_found (λ p. bounds_of (load_at net i t p)) (λ p. p.id == port) t.ports

-- each table has its bounds
pub none_lost : {Z X : Type 0} (net : Network) (all : List (Vec Bounds Z)) (i : ℕ) (t : Content) → map (λ (bounds : Vec Bounds Z). bounds.items) all ≡ bounds_from net 0 net.tables
    → slice_get net.tables i ≡ Some t → slice_get all i ≡ None → X
none_lost {Z = Z} net all i t are t_is none =
    let kept = kept_there net all i t are t_is in
    let both : None ≡ Some kept.bounds = sym none ∙ kept.bounds_are in
    absurd cc

-- ---- the ports to which wires go, by their numbers

set_here : (xs : List (Option ℕ)) (i : ℕ) (v : Option ℕ) → i < length xs → rounding_in (slice_set xs i v) i ≡ v
set_here [] i v within = absurd (omega (arith, within))
set_here (x ∷ xs) zero v within = refl
set_here (x ∷ xs) (suc i) v within = set_here xs i v (omega (arith, within))

set_later : (xs : List (Option ℕ)) (i k : ℕ) (v : Option ℕ) → k < i → rounding_in (slice_set xs i v) k ≡ rounding_in xs k
set_later [] i k v lt = refl
set_later (x ∷ xs) zero k v lt = absurd (omega (arith, lt))
set_later (x ∷ xs) (suc i) zero v lt = refl
set_later (x ∷ xs) (suc i) (suc k) v lt = set_later xs i k v (omega (arith, lt))

pub one_more : (f : ℕ → Option ℕ) (xs : List (Option ℕ)) (i : ℕ) (v : Option ℕ) → i < length xs → v ≡ f i
    → ((k : ℕ) → k < i → rounding_in xs k ≡ f k) → (k : ℕ) → k < i + 1 → rounding_in (slice_set xs i v) k ≡ f k
one_more f xs i v within is before k lt = by (cases_lt k i) where
  by : (k < i) ⊎ (i ≤ k) → rounding_in (slice_set xs i v) k ≡ f k
  by (inl less) = set_later xs i k v less ∙ before k less
  by (inr more) =
      let same : i ≡ k = omega (arith, lt, more) in
      subst (λ (n : ℕ). rounding_in (slice_set xs i v) n ≡ f n) same (set_here xs i v within ∙ is)
