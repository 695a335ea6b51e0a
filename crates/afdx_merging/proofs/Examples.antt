-- What the definitions give for two captures of two records each.
use Rattle.std.proofs.Common.{◌≡◌, ℕ, zero, suc, List, [], ◌∷◌, map, slice_get, Some, inl, inr, refl, arith, subst}
use Rattle.std.proofs.lemmas.Option.{same_Some}
use Rattle.afdx_pcap.specs.Record.{Record}
use Rattle.afdx_pairing.specs.Events.{Numbered}
use Rattle.afdx_merging.specs.declared.clock.Clock.{Clock}
use Rattle.afdx_merging.specs.Merge.{moved, due_at, numbered_from, Arrival, arrival_at, at_place, AreInOrder, IsMergeOf}

abbrev at : ℕ → Record
at stamp = record { stamp = stamp; original = 60; bytes = [] }

-- the first capture's clock is right, and its records wait for those of others for 10; the second's runs 3 behind
abbrev clocks : List Clock
clocks = record { later = 0; sooner = 0; delay = 10 } ∷ record { later = 3; sooner = 0; delay = 0 } ∷ []

abbrev captures : List (List Record)
captures = (at 5 ∷ at 20 ∷ []) ∷ (at 12 ∷ at 25 ∷ []) ∷ []

abbrev head : ℕ → ℕ → Numbered
head number stamp = record { number = number; frame = at stamp }

abbrev arrival : ℕ → ℕ → Numbered → Arrival
arrival place due n = record { place = place; due = due; head = n }

-- at 15 is one record of each capture: that of the lower place comes first
abbrev merged : List Arrival
merged = arrival 0 15 (head 1 5) ∷ arrival 1 15 (head 1 15) ∷ arrival 1 28 (head 2 28) ∷ arrival 0 30 (head 2 20) ∷ []

of_first : at_place 0 merged ≡ arrival 0 15 (head 1 5) ∷ arrival 0 30 (head 2 20) ∷ []
of_first = refl

two_merge : IsMergeOf clocks captures merged
two_merge = record { many = refl; each = each; within = (omega arith, (omega arith, (omega arith, (omega arith, tt)))); in_order = in_order } where
  each : (place : ℕ) (c : Clock) (rs : List Record) → slice_get clocks place ≡ Some c → slice_get captures place ≡ Some rs → at_place place merged ≡ map (arrival_at place c) (numbered_from 1 c rs)
  each zero c rs is_clock is =
      subst (λ (x : Clock). at_place 0 merged ≡ map (arrival_at 0 x) (numbered_from 1 x rs)) (same_Some (record { later = 0; sooner = 0; delay = 10 }) c is_clock)
      (subst (λ (x : List Record). at_place 0 merged ≡ map (arrival_at 0 (record { later = 0; sooner = 0; delay = 10 })) (numbered_from 1 (record { later = 0; sooner = 0; delay = 10 }) x))
      (same_Some (at 5 ∷ at 20 ∷ []) rs is) refl)
  each (suc zero) c rs is_clock is =
      subst (λ (x : Clock). at_place 1 merged ≡ map (arrival_at 1 x) (numbered_from 1 x rs)) (same_Some (record { later = 3; sooner = 0; delay = 0 }) c is_clock)
      (subst (λ (x : List Record). at_place 1 merged ≡ map (arrival_at 1 (record { later = 3; sooner = 0; delay = 0 })) (numbered_from 1 (record { later = 3; sooner = 0; delay = 0 }) x))
      (same_Some (at 12 ∷ at 25 ∷ []) rs is) refl)
  each (suc (suc place)) c rs is_clock is = absurd cc

  in_order : AreInOrder merged
  in_order = ((inr (refl, omega arith), (inl (omega arith), (inl (omega arith), tt))), ((inl (omega arith), (inl (omega arith), tt)), ((inl (omega arith), tt), (tt, tt))))

-- the other way round they are no merge
tie_by_place : AreInOrder (arrival 1 15 (head 1 15) ∷ arrival 0 15 (head 1 5) ∷ []) → ⊥
tie_by_place order = elim order.0.0 [
  | inl lt ↦ omega (arith, lt)
  | inr same ↦ let le = same.1 in omega (arith, le)
]

-- ---- clocks

-- what would lie before the first instant is there
first_instant : moved (record { later = 2; sooner = 10; delay = 7 }) 5 ≡ 0
first_instant = refl

-- what would lie after the last instant of a stamp is there
latest : moved (record { later = 1000000000; sooner = 0; delay = 0 }) 4294967295500000000 ≡ 4294967295999999999
latest = refl

-- a stamp is put later before it is put sooner
both : moved (record { later = 10; sooner = 8; delay = 100 }) 1 ≡ 3
both = refl

-- the delay orders records, and is no part of their stamps
delayed : due_at (record { later = 10; sooner = 8; delay = 100 }) 3 ≡ 103
delayed = refl
