-- The records of a capture come in the order of their instants.
use Rattle.std.proofs.Common.{◌≡◌, ℕ, ◌+◌, ◌≤◌, List, [], ◌∷◌, ◌++◌, drop, ap, sym, arith, subst}
use Rattle.afdx_pcap.specs.Record.{Record}
use Rattle.afdx_pcap.specs.declared.format.Format.{Format}
use Rattle.afdx_pcap.specs.Capture.{Splits, after}
use Rattle.afdx_pcap.specs.Reading.{Taking, HasTaken, AreFirst}
use Rattle.afdx_pairing.specs.Events.{Numbered}
use Rattle.afdx_merging.specs.declared.clock.Clock.{Clock}
use Rattle.afdx_merging.specs.Merge.{moved, numbered_from}

heads : {x y : Numbered} {xs ys : List Numbered} → x ∷ xs ≡ y ∷ ys → x ≡ y
heads same = cc

tails : {x y : Numbered} {xs ys : List Numbered} → x ∷ xs ≡ y ∷ ys → xs ≡ ys
tails same = cc

moved_rises : (c : Clock) (a b : ℕ) → a ≤ b → moved c a ≤ moved c b
moved_rises c a b le = omega (arith, le)

split_rises : (f : Format) (last : ℕ) (bytes : List ℕ) (rs : List Record) (rest : List ℕ) (n : ℕ) (c : Clock) (given : List Numbered) (a b : Numbered)
    → Splits f last bytes rs rest → given ++ a ∷ b ∷ [] ≡ numbered_from n c rs → a.frame.stamp ≤ b.frame.stamp
split_rises f last bytes [] rest n c [] a b splits same = absurd cc
split_rises f last bytes [] rest n c (g ∷ given) a b splits same = absurd cc
split_rises f last bytes (r ∷ []) rest n c [] a b splits same = absurd (let none = tails same in cc)
split_rises f last bytes (r ∷ s ∷ rs) rest n c [] a b splits same =
    let first : a.frame.stamp ≡ moved c r.stamp = ap (λ (x : Numbered). x.frame.stamp) (heads same) in
    let second : b.frame.stamp ≡ moved c s.stamp = ap (λ (x : Numbered). x.frame.stamp) (heads (tails same)) in
    let rises = moved_rises c r.stamp s.stamp splits.1.0.in_order in
    subst (λ (x : ℕ). x ≤ b.frame.stamp) (sym first) (subst (λ (x : ℕ). moved c r.stamp ≤ x) (sym second) rises)
split_rises f last bytes (r ∷ rs) rest n c (g ∷ given) a b splits same = split_rises f r.stamp (after r bytes) rs rest (n + 1) c given a b splits.1 (tails same)

-- of two that were taken one after the other the second is no sooner
pub taken_rises : (t : Taking) (rs : List Record) (c : Clock) (given : List Numbered) (a b : Numbered) → HasTaken t rs → given ++ a ∷ b ∷ [] ≡ numbered_from 1 c rs → a.frame.stamp ≤ b.frame.stamp
taken_rises t rs c given a b taken same = by rs taken.first same where
  by : (rs : List Record) → AreFirst t.bytes rs → given ++ a ∷ b ∷ [] ≡ numbered_from 1 c rs → a.frame.stamp ≤ b.frame.stamp
  by [] first same = absurd (none given same) where
    none : (given : List Numbered) → given ++ a ∷ b ∷ [] ≡ [] → ⊥
    none [] same = absurd cc
    none (g ∷ given) same = absurd cc
  by (r ∷ rs) first same = split_rises first.1.format 0 (drop 24 t.bytes) (r ∷ rs) first.0 1 c given a b first.1.records same
