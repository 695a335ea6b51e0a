-- The ports to which no wire goes: each is there once.
use Rattle.std.proofs.Common.{◌≡◌, ◌<◌, ◌≤◌, ◌+◌, ℕ, zero, suc, Bool, true, false, cond, not, List, [], ◌∷◌, ◌++◌, map, filter, slice_get, Option, Some, None, is_some}
use Rattle.std.proofs.Common.{refl, ap, sym, ◌∙◌, arith, inl, inr, subst}
use Rattle.std.specs.Prelude.{Contains, ◌⊎◌}
use Rattle.std.specs.List.{AllByRecursion}
use Rattle.std.proofs.lemmas.Bool.{false≢true}
use Rattle.std.proofs.lemmas.Option.{same_Some}
use Rattle.afdx_table.specs.declared.rows.PortRow.{PortRow}
use Rattle.afdx_table.specs.Content.{Content}
use Rattle.afdx_table.specs.WellFormed.{Rises as PortsRise, IsWellFormed}
use Rattle.afdx_wiring.specs.declared.layout.End.{End}
use Rattle.afdx_wiring.specs.declared.layout.Wire.{Wire}
use Rattle.afdx_wiring.specs.File.{is_end}
use Rattle.afdx_network_check.specs.Net.{Network, wire_to}
use Rattle.afdx_origins.proofs.Rows.{same_end}
use Rattle.afdx_network.specs.Given.{is_open, ends_from}
use Rattle.afdx_network.specs.Inner.Intake.{end_place}
use Rattle.afdx_network.specs.Inner.Sites.{end_at}
use Rattle.afdx_network.proofs.Found.{contains_head, contains_tail}
use Rattle.afdx_network.proofs.Lists.{all_kept, all_map, all_weaken}
use Rattle.afdx_network.proofs.Rows.{is_itself}

-- ---- what such a port is

pub record IsOpenEnd (net : Network) (n : ℕ) (tables : List Content) (e : End) : Type 0 where
  pub place : ℕ
  pub table : Content
  pub switch_is : e.switch ≡ n + place
  pub table_is : slice_get tables place ≡ Some table
  pub among : Contains (map (λ (p : PortRow). p.id) table.ports) e.port
  pub unwired : wire_to net (end_at e.switch e.port) ≡ None

none_to : (net : Network) (switch port : ℕ) → is_open net switch port ≡ true → wire_to net (end_at switch port) ≡ None
none_to net switch port is = by (wire_to net (end_at switch port)) refl is where
  by : (o : Option Wire) → wire_to net (end_at switch port) ≡ o → not (is_some o) ≡ true → wire_to net (end_at switch port) ≡ None
  by None none passes = none
  by (Some w) some fails = absurd (false≢true fails)

-- what is kept of some numbers is one of them, and passes
kept_at : (p : ℕ → Bool) (ns : List ℕ) (k n : ℕ) → slice_get (filter p ns) k ≡ Some n → (p n ≡ true) × Contains ns n
kept_at p [] k n is = absurd cc
kept_at p (m ∷ ns) k n is = by (p m) refl k is (λ j there. kept_at p ns j n there) where
  by : (b : Bool) → p m ≡ b → (k : ℕ) → slice_get (cond b (m ∷ filter p ns) (filter p ns)) k ≡ Some n → ((j : ℕ) → slice_get (filter p ns) j ≡ Some n → (p n ≡ true) × Contains ns n)
      → (p n ≡ true) × Contains (m ∷ ns) n
  by true passes zero is rest = let same = same_Some m n is in (ap p (sym same) ∙ passes, contains_head ns n m same)
  by true passes (suc k) is rest = let there = rest k is in (there.0, contains_tail ns n m there.1)
  by false fails k is rest = let there = rest k is in (there.0, contains_tail ns n m there.1)

pub mapped : {X Y : Type 0} (f : X → Y) (xs : List X) (k : ℕ) (y : Y) → slice_get (map f xs) k ≡ Some y → (x : X) × (slice_get xs k ≡ Some x) × (f x ≡ y)
mapped f [] k y is = absurd cc
mapped f (x ∷ xs) zero y is = (x, refl, same_Some (f x) y is)
mapped f (x ∷ xs) (suc k) y is = mapped f xs k y is

in_either : {X : Type 0} (xs ys : List X) (k : ℕ) (x : X) → slice_get (xs ++ ys) k ≡ Some x → (slice_get xs k ≡ Some x) ⊎ ((j : ℕ) × (slice_get ys j ≡ Some x))
in_either [] ys k x is = inr (k, is)
in_either (y ∷ xs) ys zero x is = inl is
in_either (y ∷ xs) ys (suc k) x is = in_either xs ys k x is

pub open_there : (net : Network) (n : ℕ) (tables : List Content) (k : ℕ) (e : End) → slice_get (ends_from net n tables) k ≡ Some e → IsOpenEnd net n tables e
open_there net n [] k e is = absurd cc
open_there net n (t ∷ tables) k e is =
    by (in_either (map (λ port. end_at n port) (filter (is_open net n) (map (λ (p : PortRow). p.id) t.ports))) (ends_from net (n + 1) tables) k e is)
    (λ j there. open_there net (n + 1) tables j e there) where
      by : (slice_get (map (λ port. end_at n port) (filter (is_open net n) (map (λ (p : PortRow). p.id) t.ports))) k ≡ Some e) ⊎ ((j : ℕ) × (slice_get (ends_from net (n + 1) tables) j ≡ Some e))
          → ((j : ℕ) → slice_get (ends_from net (n + 1) tables) j ≡ Some e → IsOpenEnd net (n + 1) tables e) → IsOpenEnd net n (t ∷ tables) e
      by (inl here) others =
          let port = mapped (λ port. end_at n port) (filter (is_open net n) (map (λ (p : PortRow). p.id) t.ports)) k e here in
          let kept = kept_at (is_open net n) (map (λ (p : PortRow). p.id) t.ports) k port.0 port.1 in
          let number : e.port ≡ port.0 = sym (ap (λ (x : End). x.port) port.2) in
          let switch : e.switch ≡ n = sym (ap (λ (x : End). x.switch) port.2) in
          record {
            place = 0;
            table = t;
            switch_is = omega (arith, switch);
            table_is = refl;
            among = subst (Contains (map (λ (p : PortRow). p.id) t.ports)) (sym number) kept.1;
            unwired = none_to net e.switch e.port (ap (λ m. is_open net m e.port) switch ∙ ap (is_open net n) number ∙ kept.0);
          }
      by (inr further) others =
          let rest = others further.0 further.1 in
          let switch = rest.switch_is in
          record { place = suc rest.place; table = rest.table; switch_is = omega (arith, switch); table_is = rest.table_is; among = rest.among; unwired = rest.unwired }

-- ---- each is there once

abbrev pub Apart : List End → Type 0
Apart [] = Unit {0}
Apart (e ∷ ends) = AllByRecursion (λ (x : End). e ≡ x → ⊥) ends × Apart ends

apart_append : (xs ys : List End) → Apart xs → Apart ys → AllByRecursion (λ (x : End). AllByRecursion (λ (y : End). x ≡ y → ⊥) ys) xs → Apart (xs ++ ys)
apart_append [] ys first second between = second
apart_append (x ∷ xs) ys first second between = (all_both xs ys first.0 between.0, apart_append xs ys first.1 second between.1) where
  all_both : (items bs : List End) → AllByRecursion (λ (y : End). x ≡ y → ⊥) items → AllByRecursion (λ (y : End). x ≡ y → ⊥) bs → AllByRecursion (λ (y : End). x ≡ y → ⊥) (items ++ bs)
  all_both [] bs one other = other
  all_both (a ∷ items) bs one other = (one.0, all_both items bs one.1 other)

-- numbers that rise
abbrev pub Ascend : List ℕ → Type 0
Ascend [] = Unit {0}
Ascend (n ∷ ns) = AllByRecursion (λ m. n < m) ns × Ascend ns

pub kept_rise : (p : ℕ → Bool) (ports : List PortRow) → PortsRise ports → Ascend (filter p (map (λ (q : PortRow). q.id) ports))
kept_rise p [] rises = tt
kept_rise p (q ∷ ports) rises = by (p q.id) (kept_rise p ports rises.1) where
  by : (b : Bool) → Ascend (filter p (map (λ (x : PortRow). x.id) ports))
      → Ascend (cond b (q.id ∷ filter p (map (λ (x : PortRow). x.id) ports)) (filter p (map (λ (x : PortRow). x.id) ports)))
  by true rest = (all_kept (λ m. q.id < m) p (map (λ (x : PortRow). x.id) ports) (all_map (λ m. q.id < m) (λ (x : PortRow). x.id) ports rises.0), rest)
  by false rest = rest

one_switch : (n : ℕ) (ports : List ℕ) → Ascend ports → Apart (map (λ port. end_at n port) ports)
one_switch n [] rises = tt
one_switch n (m ∷ ports) rises = (
  all_map (λ (x : End). end_at n m ≡ x → ⊥) (λ port. end_at n port) ports
      (all_weaken (λ k. m < k) (λ k. end_at n m ≡ end_at n k → ⊥) ports (λ k less same. let number = ap (λ (x : End). x.port) same in omega (arith, less, number)) rises.0),
  one_switch n ports rises.1,
)

later_switches : (net : Network) (n : ℕ) (tables : List Content) → AllByRecursion (λ (e : End). n ≤ e.switch) (ends_from net n tables)
later_switches net n [] = tt
later_switches net n (t ∷ tables) =
    both
    (all_weaken (λ (e : End). n + 1 ≤ e.switch) (λ (e : End). n ≤ e.switch) (ends_from net (n + 1) tables) (λ e le. omega (arith, le)) (later_switches net (n + 1) tables))
    (filter (is_open net n) (map (λ (p : PortRow). p.id) t.ports)) where
      both : AllByRecursion (λ (e : End). n ≤ e.switch) (ends_from net (n + 1) tables) → (ports : List ℕ)
          → AllByRecursion (λ (e : End). n ≤ e.switch) (map (λ port. end_at n port) ports ++ ends_from net (n + 1) tables)
      both rest [] = rest
      both rest (m ∷ ports) = (omega arith, both rest ports)

pub all_apart : (net : Network) (n : ℕ) (tables : List Content) → AllByRecursion IsWellFormed tables → Apart (ends_from net n tables)
all_apart net n [] formed = tt
all_apart net n (t ∷ tables) formed =
    apart_append (map (λ port. end_at n port) ports) (ends_from net (n + 1) tables) (one_switch n ports (kept_rise (is_open net n) t.ports formed.0.ports_rise)) (all_apart net (n + 1) tables formed.1)
    (all_map (λ (x : End). AllByRecursion (λ (y : End). x ≡ y → ⊥) (ends_from net (n + 1) tables)) (λ port. end_at n port) ports (each ports)) where
      ports : List ℕ
      ports = filter (is_open net n) (map (λ (p : PortRow). p.id) t.ports)

      each : (ms : List ℕ) → AllByRecursion (λ m. AllByRecursion (λ (y : End). end_at n m ≡ y → ⊥) (ends_from net (n + 1) tables)) ms
      each [] = tt
      each (m ∷ ms) = (
        all_weaken (λ (e : End). n + 1 ≤ e.switch) (λ (y : End). end_at n m ≡ y → ⊥) (ends_from net (n + 1) tables)
            (λ y le same. let switch = ap (λ (x : End). x.switch) same in omega (arith, le, switch)) (later_switches net (n + 1) tables),
        each ms,
      )

-- ---- its place

pub first_place : (ends : List End) (k : ℕ) (e : End) → Apart ends → slice_get ends k ≡ Some e → end_place ends e ≡ k
first_place [] k e apart is = absurd cc
first_place (x ∷ ends) zero e apart is = ap (λ b. cond (not b) (1 + end_place ends e) 0) (ap (λ (y : End). is_end y e) (same_Some x e is) ∙ is_itself e)
first_place (x ∷ ends) (suc k) e apart is =
    ap (λ b. cond (not b) (1 + end_place ends e) 0) (differ (is_end x e) refl) ∙ ap (λ n. 1 + n) (first_place ends k e apart.1 is) ∙ one_more where
      one_more : 1 + k ≡ suc k
      one_more = omega arith

      differ : (b : Bool) → is_end x e ≡ b → is_end x e ≡ false
      differ true same = absurd (none ends k apart.0 is (same_end x e same)) where
        none : (es : List End) (j : ℕ) → AllByRecursion (λ (y : End). x ≡ y → ⊥) es → slice_get es j ≡ Some e → x ≡ e → ⊥
        none [] j all at same = absurd cc
        none (y ∷ es) zero all at same = all.0 (same ∙ sym (same_Some y e at))
        none (y ∷ es) (suc j) all at same = none es j all.1 at same
      differ false other = other

-- the port at its own place is it
pub place_has : (ends : List End) (e x : End) (k : ℕ) → end_place ends e ≡ k → slice_get ends k ≡ Some x → x ≡ e
place_has [] e x k place at = absurd cc
place_has (y ∷ ends) e x k place at = by (is_end y e) refl (λ there. place_has ends e x (end_place ends e) refl there) where
  one_more : (n : ℕ) → 1 + n ≡ suc n
  one_more n = omega arith

  by : (b : Bool) → is_end y e ≡ b → (slice_get ends (end_place ends e) ≡ Some x → x ≡ e) → x ≡ e
  by true same rest =
      let here : k ≡ 0 = sym place ∙ ap (λ b. cond (not b) (1 + end_place ends e) 0) same in
      sym (same_Some y x (sym (ap (slice_get (y ∷ ends)) here) ∙ at)) ∙ same_end y e same
  by false other rest =
      let further : k ≡ suc (end_place ends e) = sym place ∙ ap (λ b. cond (not b) (1 + end_place ends e) 0) other ∙ one_more (end_place ends e) in
      rest (sym (ap (slice_get (y ∷ ends)) further) ∙ at)
