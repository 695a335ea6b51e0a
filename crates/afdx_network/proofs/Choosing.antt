-- The least of all times, the first wire to a port, and the first instant at which anything can happen.
use Rattle.std.proofs.Common.{◌≡◌, ◌<◌, ◌≤◌, ◌+◌, ◌==◌, ℕ, min, nat_lt, Bool, true, false, cond, List, [], ◌∷◌, ◌++◌, length, take, get_or, slice_get, Option, Some, None, refl, ap}
use Rattle.std.proofs.Common.{sym, ◌∙◌, arith, inl, inr, subst}
use Rattle.std.specs.Prelude.{All, ◌↔◌}
use Rattle.std.specs.List.{position, AllZip}
use Rattle.std.specs.Ordering.{is_lt, nat_cmp}
use Rattle.std.specs.declared.cmp.Ordering.TheVariants.{Less, Equal, Greater}
use Rattle.std.proofs.lemmas.Bool.{cases_lt, le-ltb, lt-ltb, ltb-true, ltb-false, eqb-true, eq-eqb}
use Rattle.std.proofs.lemmas.List.{take_more}
use Rattle.std.proofs.lemmas.List.Sums.{fails_before_first}
use Rattle.std.proofs.lemmas.List.Elements.{All-more, All-weaker, All-append, All-cons, All-nil}
use Rattle.std.proofs.lemmas.Map.Keys.{ge_from_not_lt}
use Rattle.std.proofs.lemmas.Option.{same_Some, get_or_from_slice_get}
use Rattle.afdx_units.specs.Line.{cost_of, least_size}
use Rattle.afdx_units.specs.Time.{earlier_of, is_before}
use Rattle.afdx_table.specs.declared.rows.PortRow.{PortRow}
use Rattle.afdx_table.specs.Content.{Content, port_row}
use Rattle.afdx_wiring.specs.declared.layout.Wire.{Wire}
use Rattle.afdx_wiring.specs.File.{is_end}
use Rattle.afdx_network_check.specs.Net.{Network}
use Rattle.afdx_network.specs.Inner.Sites.{Site, IsWithin, wire_place, IsFirst}
use Rattle.afdx_network.proofs.Rows.{is_itself}

-- ---- the least of the times of all wires

pub within_less : (net : Network) (look less : ℕ) (wires : List Wire) → less ≤ look → All (IsWithin net look) wires → All (IsWithin net less) wires
within_less net look less wires le = All-weaker (IsWithin net look) (IsWithin net less) (λ w is t p table row. let most = is t p table row in omega (arith, le, most)) wires

-- the least time of a wire, where its first end is a port
abbrev pub IsLeast : Network → Wire → Option ℕ → Type 0
IsLeast net w least = (t : Content) (p : PortRow) → slice_get net.tables w.from.switch ≡ Some t → port_row t w.from.port ≡ Some p → least ≡ Some (t.latency + cost_of p.speed least_size + w.delay)

pub look_more : (net : Network) (look less least : ℕ) (wires : List Wire) (k : ℕ) (d : Wire) → k < length wires → less ≤ look → less ≤ least → IsLeast net (get_or wires k d) (Some least)
    → All (IsWithin net look) (take k wires) → All (IsWithin net less) (take (k + 1) wires)
look_more net look less least wires k d lt le most is before =
    All-more (IsWithin net less) wires k d lt (within_less net look less (take k wires) le before)
    (λ t p table row. let same = same_Some least (t.latency + cost_of p.speed least_size + (get_or wires k d).delay) (is t p table row) in omega (arith, most, same))

pub look_stays : (net : Network) (look : ℕ) (wires : List Wire) (k : ℕ) (d : Wire) → k < length wires → IsLeast net (get_or wires k d) None → All (IsWithin net look) (take k wires)
    → All (IsWithin net look) (take (k + 1) wires)
look_stays net look wires k d lt is before = All-more (IsWithin net look) wires k d lt before (λ t p table row. absurd (differ (is t p table row))) where
  differ : {n : ℕ} → None ≡ Some n → ⊥
  differ e = cc

-- ---- the first wire to a port

-- a wire that goes to the port is there
pub first_there : (wires : List Wire) (index : ℕ) (d w : Wire) (found : Option ℕ) → index < length wires → found ≡ position (λ (v : Wire). is_end v.to (get_or wires index d).to) wires
    → slice_get wires index ≡ Some w → found ≡ Some (wire_place wires w)
first_there wires index d w found lt is at =
    is ∙ ap (λ (u : Wire). position (λ (v : Wire). is_end v.to u.to) wires) same
    ∙ ap (λ b. cond b (Some (wire_place wires w)) None) (lt-ltb (wire_place wires w) (length wires) (elim (cases_lt index (wire_place wires w)) [
      | inl past ↦ absurd (differ (sym (fails_before_first (λ (v : Wire). is_end v.to w.to) wires index d past) ∙ ap (λ (u : Wire). is_end u.to w.to) same ∙ is_itself w.to))
      | inr most ↦ omega (arith, most, lt)
    ])) where
      same : get_or wires index d ≡ w
      same = get_or_from_slice_get wires index w d at

      differ : false ≡ true → ⊥
      differ e = cc

pub nowhere : (n : ℕ) {P : Type 0} → None ≡ Some n → P
nowhere n e = absurd cc

pub is_first_place : (n place index : ℕ) → n ≡ place → ((place == index) ≡ true) ↔ (n ≡ index)
is_first_place n place index is = (λ yes. is ∙ eqb-true place index yes, λ same. eq-eqb place index (sym is ∙ same))

-- ---- the first instant at which anything can happen

acts_less : (m n : ℕ) (next : Option ℕ) → m ≤ n → is_before n next ≡ false → is_before m next ≡ false
acts_less m n None le none = refl
acts_less m n (Some at) le none = let from = ltb-false at n none in le-ltb at m (omega (arith, le, from))

pub first_more : (sites : List Site) (s : Site) (first : Option ℕ) → IsFirst sites first → IsFirst (sites ++ s ∷ []) (earlier_of first s.next)
first_more sites s first all = by first s.next refl all where
  more : (n : ℕ) → All (λ (x : Site). is_before n x.next ≡ false) sites → is_before n s.next ≡ false → All (λ (x : Site). is_before n x.next ≡ false) (sites ++ s ∷ [])
  more n before here =
      All-append (λ (x : Site). is_before n x.next ≡ false) sites (s ∷ []) before
      (All-cons (λ (x : Site). is_before n x.next ≡ false) s [] here (All-nil (λ (x : Site). is_before n x.next ≡ false)))

  by : (o next : Option ℕ) → s.next ≡ next → IsFirst sites o → IsFirst (sites ++ s ∷ []) (earlier_of o next)
  by None None is none =
      All-append (λ (x : Site). x.next ≡ None) sites (s ∷ []) none (All-cons (λ (x : Site). x.next ≡ None) s [] is (All-nil (λ (x : Site). x.next ≡ None)))
  by None (Some b) is none =
      more b (All-weaker (λ (x : Site). x.next ≡ None) (λ (x : Site). is_before b x.next ≡ false) (λ x no. ap (is_before b) no) sites none)
      (ap (is_before b) is ∙ le-ltb b b (omega arith))
  by (Some a) None is before = more a before (ap (is_before a) is)
  by (Some a) (Some b) is before =
      more (min a b) (All-weaker (λ (x : Site). is_before a x.next ≡ false) (λ (x : Site). is_before (min a b) x.next ≡ false) (λ x no. acts_less (min a b) a x.next (omega arith) no) sites before)
      (ap (is_before (min a b)) is ∙ le-ltb b (min a b) (omega arith))

pub first_at : (sites : List Site) (k : ℕ) (d : Site) (first next : Option ℕ) → k < length sites → next ≡ (get_or sites k d).next → IsFirst (take k sites) first
    → IsFirst (take (k + 1) sites) (earlier_of first next)
first_at sites k d first next lt is all =
    subst (λ (xs : List Site). IsFirst xs (earlier_of first next)) (sym (take_more sites k d lt))
    (subst (λ (o : Option ℕ). IsFirst (take k sites ++ get_or sites k d ∷ []) (earlier_of first o)) (sym is) (first_more (take k sites) (get_or sites k d) first all))

-- ---- instants

pub sooner : (a b : ℕ) → true ≡ is_lt (nat_cmp a b) → a < b
sooner a b is = by (nat_lt a b) refl (sym is) where
  by : (t : Bool) → nat_lt a b ≡ t → is_lt (cond t Less (cond (a == b) Equal Greater)) ≡ true → a < b
  by true lt less = ltb-true a b lt
  by false ge less = absurd (never (a == b) less) where
    never : (e : Bool) → is_lt (cond e Equal Greater) ≡ true → ⊥
    never true less = cc
    never false less = cc

pub no_sooner : (a b : ℕ) → false ≡ is_lt (nat_cmp a b) → b ≤ a
no_sooner a b is = ge_from_not_lt a b (sym is)

-- ---- lists side by side

pub zip_more : {X Y : Type 0} (R : X → Y → Type 0) (xs : List X) (ys : List Y) (x : X) (y : Y) → AllZip R xs ys → R x y → AllZip R (xs ++ x ∷ []) (ys ++ y ∷ [])
zip_more R [] [] x y zip is = (is, tt)
zip_more R [] (b ∷ ys) x y zip is = absurd zip
zip_more R (a ∷ xs) [] x y zip is = absurd zip
zip_more R (a ∷ xs) (b ∷ ys) x y zip is = (zip.0, zip_more R xs ys x y zip.1 is)
