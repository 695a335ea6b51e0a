-- Of all that arrived, what is of one capture.
use Rattle.std.proofs.Common.{◌≡◌, ◌≢◌, ℕ, ◌+◌, Bool, true, false, cond, List, [], ◌∷◌, ◌++◌, map, filter, flat_map, Option, refl, sym, ap, ◌∙◌}
use Rattle.std.specs.Prelude.{◌==◌, ◌&&◌, if◌then◌else◌, slice_get}
use Rattle.std.specs.List.{AllByRecursion}
use Rattle.std.proofs.lemmas.Bool.{eqb-true, eqb-false}
use Rattle.afdx_pcap.specs.Record.{Record}
use Rattle.afdx_merging.specs.declared.clock.Clock.{Clock}
use Rattle.afdx_merging.specs.Merge.{Arrival, numbered_from, arrival_at, at_place}
use Rattle.afdx_compare.specs.declared.sources.Source.{Source}
use Rattle.afdx_compare.specs.Inner.Laws.{at_clock}

-- ---- lists that are filtered

pub flat_filter : (test : Record → Bool) (rs : List Record) → flat_map (λ r. if test r then r ∷ [] else []) rs ≡ filter test rs
flat_filter test [] = refl
flat_filter test (r ∷ rs) =
    elim (test r) as (λ b. (if b then r ∷ [] else []) ++ flat_map (λ x. if test x then x ∷ [] else []) rs ≡ cond b (r ∷ filter test rs) (filter test rs)) [
      | true ↦ ap (λ (xs : List Record). r ∷ xs) (flat_filter test rs)
      | false ↦ flat_filter test rs
    ]

pub filter_both : (p q : Record → Bool) (rs : List Record) → filter (λ r. p r && q r) rs ≡ filter p (filter q rs)
filter_both p q [] = refl
filter_both p q (r ∷ rs) = one (q r) (p r) refl (filter_both p q rs) where
  one : (b d : Bool) → p r ≡ d → filter (λ x. p x && q x) rs ≡ filter p (filter q rs)
      → cond (d && b) (r ∷ filter (λ x. p x && q x) rs) (filter (λ x. p x && q x) rs) ≡ filter p (cond b (r ∷ filter q rs) (filter q rs))
  one true true is more = ap (λ (xs : List Record). r ∷ xs) more ∙ ap (λ (v : Bool). cond v (r ∷ filter p (filter q rs)) (filter p (filter q rs))) (sym is)
  one true false is more = more ∙ ap (λ (v : Bool). cond v (r ∷ filter p (filter q rs)) (filter p (filter q rs))) (sym is)
  one false true is more = more
  one false false is more = more

-- two tests that agree on each
pub filter_alike : (p q : Record → Bool) (rs : List Record) → AllByRecursion (λ r. p r ≡ q r) rs → filter p rs ≡ filter q rs
filter_alike p q [] all = refl
filter_alike p q (r ∷ rs) all =
    ap (λ (b : Bool). cond b (r ∷ filter p rs) (filter p rs)) all.0
    ∙ ap (λ (xs : List Record). cond (q r) (r ∷ xs) xs) (filter_alike p q rs all.1)

pub filter_none : (p : Record → Bool) (rs : List Record) → AllByRecursion (λ r. p r ≡ false) rs → filter p rs ≡ []
filter_none p [] all = refl
filter_none p (r ∷ rs) all = ap (λ (b : Bool). cond b (r ∷ filter p rs) (filter p rs)) all.0 ∙ filter_none p rs all.1

-- ---- what is of one place

abbrev pub picked : (Option Source → Record → List Record) → List Source → List Arrival → List Record
picked from captures [] = []
picked from captures (a ∷ arrivals) = from (slice_get captures a.place) a.head.frame ++ picked from captures arrivals

abbrev pub frames : List Arrival → List Record
frames arrivals = map (λ a. a.head.frame) arrivals

one_place : (from : Option Source → Record → List Record) (h : Record → List Record) (captures : List Source) (i : ℕ)
    → ((k : ℕ) (r : Record) → k ≢ i → from (slice_get captures k) r ≡ []) → ((r : Record) → from (slice_get captures i) r ≡ h r)
    → (b : Bool) (a : Arrival) (rest : List Record) (more : List Arrival) → (a.place == i) ≡ b → rest ≡ flat_map h (frames more)
    → from (slice_get captures a.place) a.head.frame ++ rest ≡ flat_map h (frames (cond b (a ∷ more) more))
one_place from h captures i other here true a rest more is same =
    ap (λ (k : ℕ). from (slice_get captures k) a.head.frame ++ rest) (eqb-true a.place i is)
    ∙ ap (λ (rs : List Record). rs ++ rest) (here a.head.frame)
    ∙ ap (λ (rs : List Record). h a.head.frame ++ rs) same
one_place from h captures i other here false a rest more is same =
    ap (λ (rs : List Record). rs ++ rest) (other a.place a.head.frame (eqb-false a.place i is)) ∙ same

pub all_place : (from : Option Source → Record → List Record) (h : Record → List Record) (captures : List Source) (i : ℕ)
    → ((k : ℕ) (r : Record) → k ≢ i → from (slice_get captures k) r ≡ []) → ((r : Record) → from (slice_get captures i) r ≡ h r)
    → (arrivals : List Arrival) → picked from captures arrivals ≡ flat_map h (frames (at_place i arrivals))
all_place from h captures i other here [] = refl
all_place from h captures i other here (a ∷ arrivals) =
    one_place from h captures i other here (a.place == i) a (picked from captures arrivals) (at_place i arrivals) refl (all_place from h captures i other here arrivals)

-- the records of a capture by its clock
pub frames_numbered : (place n : ℕ) (c : Clock) (rs : List Record) → frames (map (arrival_at place c) (numbered_from n c rs)) ≡ map (at_clock c) rs
frames_numbered place n c [] = refl
frames_numbered place n c (r ∷ rs) = ap (λ (xs : List Record). at_clock c r ∷ xs) (frames_numbered place (n + 1) c rs)
