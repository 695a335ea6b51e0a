-- The lanes of ports, where one of them is changed.
use Rattle.std.proofs.Common.{◌≡◌, ℕ, zero, suc, ◌==◌, Bool, true, false, cond, List, [], ◌∷◌, map, find, slice_get, Option, Some, None, refl, ap, sym, ◌∙◌, inl, inr}
use Rattle.std.specs.Prelude.{slice_set, option_and_then, ◌⊎◌}
use Rattle.std.specs.Option.{option_map}
use Rattle.std.specs.List.{AllByRecursion}
use Rattle.std.proofs.lemmas.Bool.{eqb-true, ne_eqb, cases_eq}
use Rattle.std.proofs.lemmas.Option.{same_Some}
use Rattle.afdx_paced.specs.Paced.{Lane, lane_at, changed}
use Rattle.afdx_wiring.specs.declared.layout.End.{End}
use Rattle.afdx_network.specs.Inner.Sites.{Site, lane_there}
use Rattle.afdx_network.proofs.Found.{of_all, found_passes}

abbrev pub of_port : ℕ → Lane → Bool
of_port port l = l.port == port

abbrev pub KeepsPort : (Lane → Lane) → Type 0
KeepsPort f = (l : Lane) → (f l).port ≡ l.port

-- ---- in a list of lanes

pub changed_here : (port : ℕ) (f : Lane → Lane) → KeepsPort f → (lanes : List Lane) → find (of_port port) (changed port f lanes) ≡ option_map f (find (of_port port) lanes)
changed_here port f keeps [] = refl
changed_here port f keeps (l ∷ lanes) = by (l.port == port) refl (changed_here port f keeps lanes) where
  by : (b : Bool) → (l.port == port) ≡ b → find (of_port port) (changed port f lanes) ≡ option_map f (find (of_port port) lanes)
      → find (of_port port) (cond b (f l ∷ lanes) (l ∷ changed port f lanes)) ≡ option_map f (cond b (Some l) (find (of_port port) lanes))
  by true is rest = ap (λ c. cond c (Some (f l)) (find (of_port port) lanes)) (ap (λ n. n == port) (keeps l) ∙ is)
  by false is rest = ap (λ c. cond c (Some l) (find (of_port port) (changed port f lanes))) is ∙ rest

pub changed_elsewhere : (port q : ℕ) (f : Lane → Lane) → KeepsPort f → (q ≡ port → ⊥) → (lanes : List Lane) → find (of_port q) (changed port f lanes) ≡ find (of_port q) lanes
changed_elsewhere port q f keeps other [] = refl
changed_elsewhere port q f keeps other (l ∷ lanes) = by (l.port == port) refl (changed_elsewhere port q f keeps other lanes) where
  by : (b : Bool) → (l.port == port) ≡ b → find (of_port q) (changed port f lanes) ≡ find (of_port q) lanes
      → find (of_port q) (cond b (f l ∷ lanes) (l ∷ changed port f lanes)) ≡ cond (l.port == q) (Some l) (find (of_port q) lanes)
  by true is rest =
      let old : (l.port == q) ≡ false = ne_eqb l.port q (λ same. other (sym same ∙ eqb-true l.port port is)) in
      let new : ((f l).port == q) ≡ false = ap (λ n. n == q) (keeps l) ∙ old in
      ap (λ c. cond c (Some (f l)) (find (of_port q) lanes)) new ∙ sym (ap (λ c. cond c (Some l) (find (of_port q) lanes)) old)
  by false is rest = ap (cond (l.port == q) (Some l)) rest

pub all_changed : (P : Lane → Type 0) (port : ℕ) (f : Lane → Lane) (lanes : List Lane) → AllByRecursion P lanes → ((l : Lane) → find (of_port port) lanes ≡ Some l → P (f l))
    → AllByRecursion P (changed port f lanes)
all_changed P port f [] all each = tt
all_changed P port f (l ∷ lanes) all each = by (l.port == port) refl (all_changed P port f lanes all.1) where
  by : (b : Bool) → (l.port == port) ≡ b → (((m : Lane) → find (of_port port) lanes ≡ Some m → P (f m)) → AllByRecursion P (changed port f lanes))
      → AllByRecursion P (cond b (f l ∷ lanes) (l ∷ changed port f lanes))
  by true is rest = (each l (ap (λ c. cond c (Some l) (find (of_port port) lanes)) is), all.1)
  by false is rest = (all.0, rest (λ m found. each m (ap (λ c. cond c (Some l) (find (of_port port) lanes)) is ∙ found)))

-- what a map makes of each lane stays
pub map_changed : {Y : Type 0} (g : Lane → Y) (port : ℕ) (f : Lane → Lane) → ((l : Lane) → g (f l) ≡ g l) → (lanes : List Lane) → map g (changed port f lanes) ≡ map g lanes
map_changed g port f same [] = refl
map_changed {Y = Y} g port f same (l ∷ lanes) = by (l.port == port) (map_changed g port f same lanes) where
  by : (b : Bool) → map g (changed port f lanes) ≡ map g lanes → map g (cond b (f l ∷ lanes) (l ∷ changed port f lanes)) ≡ g l ∷ map g lanes
  by true rest = ap (λ (y : Y). y ∷ map g lanes) (same l)
  by false rest = ap (λ (ys : List Y). g l ∷ ys) rest

pub at_lane : (P : Lane → Type 0) (lanes : List Lane) (port : ℕ) (l : Lane) → AllByRecursion P lanes → find (of_port port) lanes ≡ Some l → P l
at_lane P lanes port l all is = of_all P lanes l all (found_passes (of_port port) lanes l is).1

pub port_is : (lanes : List Lane) (port : ℕ) (l : Lane) → find (of_port port) lanes ≡ Some l → l.port ≡ port
port_is lanes port l is = eqb-true l.port port (found_passes (of_port port) lanes l is).0

-- a lane after the change is one from before it, of which the change keeps this
pub was_there : {Y : Type 0} (g : Lane → Y) (port : ℕ) (f : Lane → Lane) → KeepsPort f → ((l : Lane) → g (f l) ≡ g l) → (lanes : List Lane) (q : ℕ) (l : Lane)
    → find (of_port q) (changed port f lanes) ≡ Some l → (was : Lane) × (find (of_port q) lanes ≡ Some was) × (g l ≡ g was)
was_there {Y = Y} g port f keeps same lanes q l is = elim (cases_eq q port) [
  | inl here ↦ of_here (find (of_port q) lanes) refl (sym (ap (λ n. find (of_port q) (changed n f lanes)) (sym here) ∙ refl) ∙ is) here
  | inr other ↦ (l, sym (changed_elsewhere port q f keeps other lanes) ∙ is, refl)
] where
  of_here : (o : Option Lane) → find (of_port q) lanes ≡ o → find (of_port q) (changed q f lanes) ≡ Some l → q ≡ port → (was : Lane) × (find (of_port q) lanes ≡ Some was) × (g l ≡ g was)
  of_here None none found here = absurd (differ (sym (changed_here q f keeps lanes ∙ ap (option_map f) none) ∙ found)) where
    differ : {m : Lane} → None ≡ Some m → ⊥
    differ e = cc
  of_here (Some was) some found here = (was, some, ap g (sym (same_Some (f was) l (sym (changed_here q f keeps lanes ∙ ap (option_map f) some) ∙ found))) ∙ same was)

-- ---- in a list of sites

pub set_here : {X : Type 0} (xs : List X) (n : ℕ) (old new : X) → slice_get xs n ≡ Some old → slice_get (slice_set xs n new) n ≡ Some new
set_here [] n old new is = absurd cc
set_here (x ∷ xs) zero old new is = refl
set_here (x ∷ xs) (suc n) old new is = set_here xs n old new is

pub set_elsewhere : {X : Type 0} (xs : List X) (n m : ℕ) (new : X) → (m ≡ n → ⊥) → slice_get (slice_set xs n new) m ≡ slice_get xs m
set_elsewhere [] n m new other = refl
set_elsewhere (x ∷ xs) zero zero new other = absurd (other refl)
set_elsewhere (x ∷ xs) zero (suc m) new other = refl
set_elsewhere (x ∷ xs) (suc n) zero new other = refl
set_elsewhere (x ∷ xs) (suc n) (suc m) new other = set_elsewhere xs n m new (λ same. other (ap suc same))

abbrev lane_of_site : ℕ → Site → Option Lane
lane_of_site port s = lane_at s.paced port

-- the lane of an end where one site is another
pub there_set : (sites : List Site) (n : ℕ) (old new : Site) (e : End) → slice_get sites n ≡ Some old → e.switch ≡ n → lane_there (slice_set sites n new) e ≡ lane_at new.paced e.port
there_set sites n old new e at same =
    ap (option_and_then (lane_of_site e.port)) (ap (slice_get (slice_set sites n new)) same ∙ set_here sites n old new at)

pub there_was : (sites : List Site) (n : ℕ) (old : Site) (e : End) → slice_get sites n ≡ Some old → e.switch ≡ n → lane_there sites e ≡ lane_at old.paced e.port
there_was sites n old e at same = ap (option_and_then (lane_of_site e.port)) (ap (slice_get sites) same ∙ at)

-- one lane of one site is another
pub record ChangesAt (old new : List Site) (e : End) (f : Lane → Lane) : Type 0 where
  pub here : lane_there new e ≡ option_map f (lane_there old e)
  pub elsewhere : (d : End) → (d ≡ e → ⊥) → lane_there new d ≡ lane_there old d

pub changes_at : (sites : List Site) (switch port : ℕ) (old new : Site) (f : Lane → Lane) → KeepsPort f → slice_get sites switch ≡ Some old → new.paced.lanes ≡ changed port f old.paced.lanes
    → ChangesAt sites (slice_set sites switch new) (record { switch = switch; port = port }) f
changes_at sites switch port old new f keeps at lanes = record {
  here =
      there_set sites switch old new (record { switch = switch; port = port }) at refl ∙ ap (find (of_port port)) lanes ∙ changed_here port f keeps old.paced.lanes
      ∙ ap (option_map f) (sym (there_was sites switch old (record { switch = switch; port = port }) at refl));
  elsewhere = λ d other. elim (cases_eq d.switch switch) [
    | inl same ↦
        let apart : d.port ≡ port → ⊥ = λ number. other (ap (λ n. end_by n d.port) same ∙ ap (end_by switch) number) in
        there_set sites switch old new d at same ∙ ap (find (of_port d.port)) lanes ∙ changed_elsewhere port d.port f keeps apart old.paced.lanes ∙ sym (there_was sites switch old d at same)
    | inr apart ↦ ap (option_and_then (lane_of_site d.port)) (set_elsewhere sites switch d.switch new apart)
  ];
} where
  end_by : ℕ → ℕ → End
  end_by n p = record { switch = n; port = p }

-- ---- ends

pub cases_end : (d e : End) → (d ≡ e) ⊎ (d ≡ e → ⊥)
cases_end d e = elim (cases_eq d.switch e.switch) [
  | inl same ↦ elim (cases_eq d.port e.port) [
    | inl number ↦ inl (ap (λ n. end_by n d.port) same ∙ ap (end_by e.switch) number)
    | inr other ↦ inr (λ is. other (ap (λ (x : End). x.port) is))
  ]
  | inr other ↦ inr (λ is. other (ap (λ (x : End). x.switch) is))
] where
  end_by : ℕ → ℕ → End
  end_by n p = record { switch = n; port = p }

-- what the change keeps of the lane of any end
pub stays : {Y : Type 0} (g : Lane → Y) (old new : List Site) (e : End) (f : Lane → Lane) → ((l : Lane) → g (f l) ≡ g l) → ChangesAt old new e f
    → (d : End) (l : Lane) → lane_there old d ≡ Some l → (now : Lane) × (lane_there new d ≡ Some now) × (g now ≡ g l)
stays g old new e f same changes d l is = elim (cases_end d e) [
  | inl here ↦ (f l, ap (lane_there new) here ∙ changes.here ∙ ap (option_map f) (sym (ap (lane_there old) here) ∙ is), same l)
  | inr other ↦ (l, changes.elsewhere d other ∙ is, refl)
]
