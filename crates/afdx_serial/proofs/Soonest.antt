-- Whether frames keep to a line is known by the soonest instants at which they can have come.
use Rattle.std.proofs.Common.{ℕ, ◌+◌, ◌≤◌, List, [], ◌∷◌, ◌++◌, Option, Some, None, refl, ap, arith}
use Rattle.std.specs.Prelude.{All, AllPairs}
use Rattle.std.specs.List.{AllZip}
use Rattle.std.proofs.lemmas.List.Elements.{All-nil, All-cons, All-head}
use Rattle.std.proofs.lemmas.List.Kept.{AllPairs-cons}
use Rattle.afdx_units.specs.declared.line.Speed.{Speed}
use Rattle.afdx_units.specs.Line.{cost_of}
use Rattle.afdx_account.specs.declared.frame.Frame.{Frame}
use Rattle.afdx_serial.specs.Serial.{IsRounded, soonest, last_soonest}
use Rattle.afdx_serial.specs.Laws.{SoonestInstantsDecide}
use Rattle.afdx_serial.proofs.Chain.{pairs_head, pairs_tail, no_pairs}

module _ (rounding : ℕ) (speed : Speed) where
  abbrev Apart : Frame → Frame → Type 0
  Apart f g = f.stamp + cost_of speed g.size ≤ g.stamp

  abbrev Rounded : Frame → Frame → Type 0
  Rounded = IsRounded rounding

  -- a frame as it came
  abbrev came_at : ℕ → Frame → Frame
  came_at instant f = record { stamp = instant; size = f.size }

  -- frames of which each came as soon as it can
  abbrev as_soon : Option ℕ → List Frame → List Frame
  as_soon came [] = []
  as_soon came (f ∷ fs) = came_at (soonest speed came f) f ∷ as_soon (Some (soonest speed came f)) fs

  -- they came one after the other, also after any instant before
  behind : (b s : ℕ) (fs : List Frame) → b ≤ s → All (λ (g : Frame). b + cost_of speed g.size ≤ g.stamp) (as_soon (Some s) fs)
  behind b s [] le = All-nil (λ (g : Frame). b + cost_of speed g.size ≤ g.stamp)
  behind b s (f ∷ fs) le =
      All-cons (λ (g : Frame). b + cost_of speed g.size ≤ g.stamp) (came_at (soonest speed (Some s) f) f) (as_soon (Some (soonest speed (Some s) f)) fs) (omega (arith, le))
      (behind b (soonest speed (Some s) f) fs (omega (arith, le)))

  apart : (came : Option ℕ) (fs : List Frame) → AllPairs Apart (as_soon came fs)
  apart came [] = no_pairs Apart
  apart came (f ∷ fs) =
      AllPairs-cons Apart (came_at (soonest speed came f) f) (as_soon (Some (soonest speed came f)) fs) (behind (soonest speed came f) (soonest speed came f) fs (omega arith))
      (apart (Some (soonest speed came f)) fs)

  -- no choice of instants has one that is sooner: where the one before did not come sooner, this one does not
  no_later : (s : ℕ) (p f c : Frame) → s ≤ p.stamp → Rounded f c → Apart p c → soonest speed (Some s) f ≤ c.stamp
  no_later s p f c le rounded step =
      let size = ap (cost_of speed) rounded.size in
      let soon = rounded.no_sooner in
      omega (arith, le, step, size, soon)

  last : (s : ℕ) (p : Frame) (fs : List Frame) (f : Frame) (cs : List Frame) → s ≤ p.stamp → AllZip Rounded (fs ++ f ∷ []) cs → AllPairs Apart (p ∷ cs)
      → soonest speed (last_soonest speed (Some s) fs) f ≤ f.stamp + rounding
  last s p [] f [] le zip pairs = absurd zip
  last s p [] f (c ∷ cs) le zip pairs =
      let soon = no_later s p f c le zip.0 (All-head (Apart p) c cs (pairs_head Apart p (c ∷ cs) pairs)) in
      let late = zip.0.no_later in
      omega (arith, soon, late)
  last s p (g ∷ fs) f [] le zip pairs = absurd zip
  last s p (g ∷ fs) f (c ∷ cs) le zip pairs =
      last (soonest speed (Some s) g) c fs f cs (no_later s p g c le zip.0 (All-head (Apart p) c cs (pairs_head Apart p (c ∷ cs) pairs))) zip.1 (pairs_tail Apart p (c ∷ cs) pairs)

  first : (fs : List Frame) (f : Frame) (cs : List Frame) → AllZip Rounded (fs ++ f ∷ []) cs → AllPairs Apart cs → soonest speed (last_soonest speed None fs) f ≤ f.stamp + rounding
  first [] f cs zip pairs = omega arith
  first (g ∷ fs) f [] zip pairs = absurd zip
  first (g ∷ fs) f (c ∷ cs) zip pairs = let soon = zip.0.no_sooner in last g.stamp c fs f cs (omega (arith, soon)) zip.1 pairs

  -- so what came as soon as it can is within what stamps may lack, where anything is
  one : (s : ℕ) (f : Frame) → soonest speed (Some s) f ≤ f.stamp + rounding → Rounded f (came_at (soonest speed (Some s) f) f)
  one s f soon = record { size = refl; no_sooner = omega arith; no_later = omega (arith, soon) }

  rounded_after : (s : ℕ) (p : Frame) (fs : List Frame) (f : Frame) (cs : List Frame) → s ≤ p.stamp → AllZip Rounded fs cs → AllPairs Apart (p ∷ cs)
      → soonest speed (last_soonest speed (Some s) fs) f ≤ f.stamp + rounding → AllZip Rounded (fs ++ f ∷ []) (as_soon (Some s) (fs ++ f ∷ []))
  rounded_after s p [] f cs le zip pairs soon = (one s f soon, tt)
  rounded_after s p (g ∷ fs) f [] le zip pairs soon = absurd zip
  rounded_after s p (g ∷ fs) f (c ∷ cs) le zip pairs soon =
      let before = no_later s p g c le zip.0 (All-head (Apart p) c cs (pairs_head Apart p (c ∷ cs) pairs)) in
      let late = zip.0.no_later in
      (one s g (omega (arith, before, late)), rounded_after (soonest speed (Some s) g) c fs f cs before zip.1 (pairs_tail Apart p (c ∷ cs) pairs) soon)

  rounded : (fs : List Frame) (f : Frame) (cs : List Frame) → AllZip Rounded fs cs → AllPairs Apart cs → soonest speed (last_soonest speed None fs) f ≤ f.stamp + rounding
      → AllZip Rounded (fs ++ f ∷ []) (as_soon None (fs ++ f ∷ []))
  rounded [] f cs zip pairs soon = (record { size = refl; no_sooner = omega arith; no_later = omega arith }, tt)
  rounded (g ∷ fs) f [] zip pairs soon = absurd zip
  rounded (g ∷ fs) f (c ∷ cs) zip pairs soon =
      let early = zip.0.no_sooner in
      (record { size = refl; no_sooner = omega arith; no_later = omega arith }, rounded_after g.stamp c fs f cs (omega (arith, early)) zip.1 pairs soon)

pub soonest_decide : SoonestInstantsDecide
soonest_decide rounding speed before f keeps = (
  λ more. first rounding speed before f more.0 more.1 more.2,
  λ soon. (as_soon rounding speed None (before ++ f ∷ []), rounded rounding speed before f keeps.0 keeps.1 keeps.2 soon, apart rounding speed None (before ++ f ∷ [])),
)
