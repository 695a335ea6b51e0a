-- Bursts that are enough for the curves of a port's lines are enough for the lines.
use Rattle.std.proofs.Common.{◌≡◌, ℕ, List, [], ◌∷◌, map, refl, arith}
use Rattle.std.specs.Prelude.{sum_by, Option, Some, None}
use Rattle.std.proofs.lemmas.List.Sums.{sum_by-cons}
use Rattle.afdx_units.specs.declared.line.Speed.{Speed}
use Rattle.afdx_serial.specs.Curves.{Curve, lesser_at, curve_at}
use Rattle.afdx_serial.specs.Serial.{KnownLine}
use Rattle.afdx_isolation.specs.Inner.Flow.{Flow, high_flows, bursts}
use Rattle.afdx_isolation.specs.Inner.Lines.{flows_on, limited, paid_in, all_in, high_in, full, all_at_hand, high_at_hand}
use Rattle.afdx_isolation.specs.Inner.LineCurves.{brought_by, paid_by, all_curve, high_curve, CurvesAreEnough}

limited_is : (known : Option KnownLine) (here : Speed) (at_hand spare window : ℕ) (flows : List Flow)
    → limited known here at_hand spare window (paid_in full flows window) ≡ lesser_at (paid_by flows) (brought_by known here at_hand spare) window
limited_is None here at_hand spare window flows = refl
limited_is (Some there) here at_hand spare window flows = omega arith

sums_are : {X : Type 0} (f : X → ℕ) (curve : X → Curve) (window : ℕ) → ((x : X) → f x ≡ curve_at (curve x) window) → (xs : List X) → sum_by f xs ≡ sum_by (λ c. curve_at c window) (map curve xs)
sums_are f curve window same [] = refl
sums_are f curve window same (x ∷ xs) =
    omega (arith, same x, sums_are f curve window same xs, sum_by-cons f x xs, sum_by-cons (λ c. curve_at c window) (curve x) (map curve xs))

pub curves_are_enough : CurvesAreEnough
curves_are_enough s flows lines burst high_burst all high = record {
  all = λ window. let h = all window in
      let e = sums_are (all_in s flows full (all_at_hand flows) window) (all_curve s flows) window
      (λ line. limited_is line.known s.speed (all_at_hand flows line) (bursts (high_flows (flows_on line flows))) window (flows_on line flows)) lines in
      omega (arith, h, e);
  high = λ window. let h = high window in
      let e = sums_are (high_in s flows full (high_at_hand flows) window) (high_curve s flows) window
      (λ line. limited_is line.known s.speed (high_at_hand flows line) 0 window (high_flows (flows_on line flows))) lines in
      omega (arith, h, e);
}
