-- Captures that are merged by one clock: their records as they are, and when they came.
use Rattle.std.proofs.Common.{◌≡◌, ◌<◌, ◌≤◌, ◌+◌, ◌==◌, ℕ, zero, suc, Bool, true, false, cond, List, [], ◌∷◌, ◌++◌, length, map, slice_get, Option, Some, refl, sym, ap, ◌∙◌, arith, subst}
use Rattle.std.specs.Prelude.{option_to_list}
use Rattle.std.specs.List.{AllByRecursion}
use Rattle.std.specs.Option.{option_map}
use Rattle.std.proofs.lemmas.Bool.{eq-eqb}
use Rattle.std.proofs.lemmas.List.{length-map}
use Rattle.std.proofs.lemmas.Option.{slice_get-map}
use Rattle.afdx_units.specs.Time.{last_second}
use Rattle.afdx_pcap.specs.Record.{Record}
use Rattle.afdx_pcap.proofs.Early.{first_early}
use Rattle.afdx_pairing.specs.Events.{Numbered}
use Rattle.afdx_merging.specs.declared.clock.Clock.{Clock}
use Rattle.afdx_merging.specs.declared.merging.Merging.{Merging}
use Rattle.afdx_merging.specs.Merge.{Arrival, arrival_at, at_place, numbered_from, moved, same_clock}
use Rattle.afdx_merging.specs.Inner.Merging.{HasMerged}

-- ---- records

by_stamp : Record → ℕ → Record
by_stamp r n = record { stamp = n; original = r.original; bytes = r.bytes }

same_stamp : (n : ℕ) → n < last_second → moved same_clock n ≡ n
same_stamp n early = omega (arith, early)

-- the records are as they are
pub numbered_back : (n : ℕ) (rs : List Record) → AllByRecursion (λ (r : Record). r.stamp < last_second) rs → map (λ (m : Numbered). m.frame) (numbered_from n same_clock rs) ≡ rs
unfolding by_stamp
numbered_back n [] early = refl
numbered_back n (r ∷ rs) early =
    ap (λ (q : Record). q ∷ map (λ (m : Numbered). m.frame) (numbered_from (n + 1) same_clock rs)) (ap (by_stamp r) (same_stamp r.stamp early.0))
    ∙ ap (λ (qs : List Record). r ∷ qs) (numbered_back (n + 1) rs early.1)

pub frames_of : (place : ℕ) (c : Clock) (given : List Numbered) → map (λ (a : Arrival). a.head.frame) (map (arrival_at place c) given) ≡ map (λ (m : Numbered). m.frame) given
frames_of place c [] = refl
frames_of place c (m ∷ given) = ap (λ (rs : List Record). m.frame ∷ rs) (frames_of place c given)

-- ---- lists

pub there_at : {X : Type 0} (xs : List X) (k : ℕ) → k < length xs → (x : X) × (slice_get xs k ≡ Some x)
there_at [] k lt = absurd (omega (arith, lt))
there_at (x ∷ xs) zero lt = (x, refl)
there_at (x ∷ xs) (suc k) lt = there_at xs k (omega (arith, lt))

pub all_last : {X : Type 0} (P : X → Type 0) (xs : List X) (x : X) → AllByRecursion P (xs ++ x ∷ []) → P x
all_last P [] x all = all.0
all_last P (y ∷ xs) x all = all_last P xs x all.1

-- what holds of the arrivals of each capture holds of all
pub of_each_place : (P : Arrival → Type 0) (count : ℕ) (came : List Arrival) → AllByRecursion (λ (a : Arrival). a.place < count) came
    → ((k : ℕ) → k < count → AllByRecursion P (at_place k came)) → AllByRecursion P came
of_each_place P count [] within each = tt
of_each_place P count (a ∷ came) within each = (first, of_each_place P count came within.1 rest) where
  first : P a
  first = (subst (λ b. AllByRecursion P (cond b (a ∷ at_place a.place came) (at_place a.place came))) (eq-eqb a.place a.place refl) (each a.place within.0)).0

  rest : (k : ℕ) → k < count → AllByRecursion P (at_place k came)
  rest k lt = by (a.place == k) (each k lt) where
    by : (b : Bool) → AllByRecursion P (cond b (a ∷ at_place k came) (at_place k came)) → AllByRecursion P (at_place k came)
    by true all = all.1
    by false all = all

-- ---- arrivals

-- one by the clock of all captures
pub record IsTimed (a : Arrival) : Type 0 where
  pub due : a.due ≡ a.head.frame.stamp
  pub early : a.head.frame.stamp < last_second

front_early : (n : ℕ) (given more : List Numbered) (rs : List Record) → given ++ more ≡ numbered_from n same_clock rs → AllByRecursion (λ (r : Record). r.stamp < last_second) rs
    → AllByRecursion (λ (m : Numbered). m.frame.stamp < last_second) given
front_early n [] more rs is early = tt
front_early n (m ∷ given) more [] is early = absurd cc
front_early n (m ∷ given) more (r ∷ rs) is early =
    let first = early.0 in (
      subst (λ (k : ℕ). k < last_second) (sym (ap (λ (x : Numbered). x.frame.stamp) (head_is is))) (omega (arith, first)),
      front_early (n + 1) given more rs (tail_is is) early.1,
    ) where
      head_is : {x y : Numbered} {xs ys : List Numbered} → x ∷ xs ≡ y ∷ ys → x ≡ y
      head_is e = cc

      tail_is : {x y : Numbered} {xs ys : List Numbered} → x ∷ xs ≡ y ∷ ys → xs ≡ ys
      tail_is e = cc

timed_at : (place : ℕ) (given : List Numbered) → AllByRecursion (λ (m : Numbered). m.frame.stamp < last_second) given → AllByRecursion IsTimed (map (arrival_at place same_clock) given)
timed_at place [] early = tt
timed_at place (m ∷ given) early = (record { due = omega arith; early = early.0 }, timed_at place given early.1)

-- all that came so far are, of whatever the captures are
pub all_timed : {R X Z : Type 0} (remaining : R → Option (List ℕ)) (xs : List X) (first now : List R) (m : Merging Z) (came : List Arrival)
    → HasMerged remaining (map (λ (x : X). same_clock) xs) first now m came → AllByRecursion IsTimed came
all_timed {R} {X} {Z} remaining xs first now m came merged = of_each_place IsTimed (length (map (λ (x : X). same_clock) xs)) came merged.within each where
  each : (k : ℕ) → k < length (map (λ (x : X). same_clock) xs) → AllByRecursion IsTimed (at_place k came)
  each k lt =
      let count = length-map xs (λ (x : X). same_clock) in
      let f = there_at first k (let long = merged.long in omega (arith, lt, long)) in
      let r = there_at now k (let long = merged.readers in omega (arith, lt, long)) in
      let l = there_at m.lanes.items k (let long = merged.many in omega (arith, lt, long)) in
      let x = there_at xs k (omega (arith, lt, count)) in
      let is = merged.each k same_clock f.0 r.0 l.0 (slice_get-map (λ (y : X). same_clock) xs k ∙ ap (option_map (λ (y : X). same_clock)) x.1) f.1 r.1 l.1 in
      let has = is.read.has in
      subst (AllByRecursion IsTimed) (sym is.are)
      (timed_at k is.given (front_early 1 is.given (option_to_list l.0.head) has.records (has.numbered ∙ ap (λ (c : Clock). numbered_from 1 c has.records) is.clock)
      (first_early l.0.reader.bytes has.records has.taken.first)))
