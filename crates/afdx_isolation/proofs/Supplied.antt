-- Supplies in numbers: that what waits stays within them after a wait, a start, a rest and an arrival.
use Rattle.std.proofs.Common.{◌≡◌, ℕ, ◌+◌, ◌-◌, ◌*◌, ◌≤◌, List, [], ◌∷◌, ◌++◌, ap, ◌∙◌, subst, arith}
use Rattle.std.specs.Prelude.{max, true}
use Rattle.std.proofs.lemmas.List.Sums.{sum_by-cons, sum_by_push}
use Rattle.std.proofs.Math.Nat.{mul-le-mul_left}
use Rattle.afdx_units.specs.Line.{is_high}
use Rattle.afdx_port.specs.declared.Settings.{Settings}
use Rattle.afdx_port.specs.declared.Item.{Item}
use Rattle.afdx_port.specs.Service.{came}
use Rattle.afdx_port.specs.Inner.Work.{item_cost}
use Rattle.afdx_isolation.specs.Inner.Flow.{Demand}
use Rattle.afdx_isolation.specs.Inner.Potential.{costs, Ahead, HighEnds, LowEnds}
use Rattle.afdx_isolation.specs.Inner.Supply.{Supply, IsWithinSupply, GoesOnTo, IsTakenFrom}
use Rattle.afdx_isolation.proofs.Numbers.{either, ahead_weaker, ahead_push, high_sooner, low_sooner, low_later}

-- time passes
pub supply_waits : (n : ℕ) (s : Settings) (demand : Demand) (now to start : ℕ) (u w : Supply) (first second : List Item) → now ≤ to → GoesOnTo n demand now to u w
    → IsWithinSupply n s demand now start u first second → IsWithinSupply n s demand to start w first second
supply_waits n s demand now to start u w first second le goes h =
    let there : now + (to - now) ≡ to = omega arith in
    record {
      all_work = λ v later. omega (arith, h.all_work v (omega arith), goes.all_falls v later);
      high_work = λ v later. omega (arith, h.high_work v (omega arith), goes.high_falls v later);
      low_ends = subst (λ t. Ahead s (LowEnds n s demand t w.high_level) (start + costs s first) second) there
          (ahead_weaker s (LowEnds n s demand now u.high_level) (LowEnds n s demand (now + (to - now)) w.high_level) 0 (start + costs s first) (start + costs s first) second (omega arith)
          (λ e e' y sooner q. low_later n s demand now (to - now) u.high_level w.high_level e e' y sooner goes.level_grows q) h.low_ends);
      high_ends = h.high_ends;
    }

-- a high item starts
pub supply_high_start : (n : ℕ) (s : Settings) (demand : Demand) (now start start' : ℕ) (u : Supply) (x : Item) (first second : List Item) → start' ≤ start + item_cost s x
    → IsWithinSupply n s demand now start u (x ∷ first) second → IsWithinSupply n s demand now start' u first second
supply_high_start n s demand now start start' u x first second le h =
    let sum = sum_by-cons (item_cost s) x first in
    let one : start' + costs s first ≤ start + costs s (x ∷ first) = omega (arith, sum, le) in
    let two : start' + costs s first + costs s second ≤ start + costs s (x ∷ first) + costs s second = omega arith in
    record {
      all_work = λ v later. omega (arith, h.all_work v later, mul-le-mul_left n two);
      high_work = λ v later. omega (arith, h.high_work v later, mul-le-mul_left n one);
      low_ends = ahead_weaker s (LowEnds n s demand now u.high_level) (LowEnds n s demand now u.high_level) 0 (start + costs s (x ∷ first)) (start' + costs s first) second (omega (arith, one))
          (λ e e' y sooner q. low_sooner n s demand now u.high_level u.high_level 0 e e' y sooner (omega arith) q) h.low_ends;
      high_ends = ahead_weaker s (HighEnds n s demand) (HighEnds n s demand) 0 (start + item_cost s x) start' first (omega (arith, le)) (high_sooner n s demand) h.high_ends.1;
    }

-- a low item starts, before `now`, where the supply is within the burst
pub supply_low_start : (n : ℕ) (s : Settings) (demand : Demand) (now start start' : ℕ) (u : Supply) (x : Item) (second : List Item)
    → start' ≤ start + item_cost s x → start ≤ now → item_cost s x ≤ demand.low_largest → ((v : ℕ) → now ≤ v → n * now + u.high v ≤ n * v + demand.high_burst)
    → IsWithinSupply n s demand now start u [] (x ∷ second) → IsWithinSupply n s demand now start' u [] second
supply_low_start n s demand now start start' u x second le before small covered h =
    let sum = sum_by-cons (item_cost s) x second in
    let two : start' + 0 + costs s second ≤ start + 0 + costs s (x ∷ second) = omega (arith, sum, le) in
    let one : start' + 0 ≤ now + demand.low_largest = omega (arith, le, before, small) in
    record {
      all_work = λ v later. omega (arith, h.all_work v later, mul-le-mul_left n two);
      high_work = λ v later. omega (arith, covered v later, mul-le-mul_left n one);
      low_ends = ahead_weaker s (LowEnds n s demand now u.high_level) (LowEnds n s demand now u.high_level) 0 (start + 0 + item_cost s x) (start' + 0) second (omega (arith, le))
          (λ e e' y sooner q. low_sooner n s demand now u.high_level u.high_level 0 e e' y sooner (omega arith) q) h.low_ends.1;
      high_ends = tt;
    }

-- the line rests where nothing waits
pub supply_rest : (n : ℕ) (s : Settings) (demand : Demand) (now start : ℕ) (u : Supply)
    → ((v : ℕ) → now ≤ v → n * now + u.all v ≤ n * v + demand.burst) → ((v : ℕ) → now ≤ v → n * now + u.high v ≤ n * v + demand.high_burst)
    → IsWithinSupply n s demand now start u [] [] → IsWithinSupply n s demand now (max start now) u [] []
supply_rest n s demand now start u covered high_covered h = record {
  all_work = λ v later. either (λ e. n * (e + 0 + 0) + u.all v ≤ n * v + demand.burst) now start (omega (arith, covered v later)) (h.all_work v later);
  high_work = λ v later. either (λ e. n * (e + 0) + u.high v ≤ n * (v + demand.low_largest) + demand.high_burst) now start (omega (arith, high_covered v later)) (h.high_work v later);
  low_ends = tt;
  high_ends = tt;
}

-- a high item comes
pub supply_high : (n : ℕ) (s : Settings) (demand : Demand) (now start : ℕ) (u w : Supply) (x : Item) (first second : List Item)
    → came s x ≡ now → is_high x.priority ≡ true → IsTakenFrom n s now x u w
    → IsWithinSupply n s demand now start u first second → IsWithinSupply n s demand now start w (first ++ x ∷ []) second
supply_high n s demand now start u w x first second instant is taken h =
    let sum = sum_by_push (item_cost s) first x in
    let more : n * (start + costs s (first ++ x ∷ [])) ≡ n * (start + costs s first) + n * item_cost s x = ap (λ c. n * (start + c)) sum ∙ spread n start (costs s first) (item_cost s x) in
    let more_all : n * (start + costs s (first ++ x ∷ []) + costs s second) ≡ n * (start + costs s first + costs s second) + n * item_cost s x = ap (λ c. n * (start + c + costs s second)) sum
    ∙ spread_all n start (costs s first) (item_cost s x) (costs s second) in
    record {
      all_work = λ v later. omega (arith, h.all_work v later, more_all, taken.all_pays v later);
      high_work = λ v later. omega (arith, h.high_work v later, more, taken.high_pays is v later);
      low_ends = ahead_weaker s (LowEnds n s demand now u.high_level) (LowEnds n s demand now w.high_level) (item_cost s x) (start + costs s first) (start + costs s (first ++ x ∷ [])) second
          (omega (arith, sum))
          (λ e e' y sooner q. low_sooner n s demand now u.high_level w.high_level (item_cost s x) e e' y sooner (taken.level_pays is) q) h.low_ends;
      high_ends = ahead_push s (HighEnds n s demand) start (start + costs s (first ++ x ∷ [])) first x (omega (arith, sum)) h.high_ends
          (ends _ (w.high now) (omega (arith, h.high_work now (omega arith), more, taken.high_pays is now (omega arith))));
    } where
      spread : (n a b c : ℕ) → n * (a + (b + c)) ≡ n * (a + b) + n * c
      spread n a b c = omega arith

      spread_all : (n a b c d : ℕ) → n * (a + (b + c) + d) ≡ n * (a + b + d) + n * c
      spread_all n a b c d = omega arith

      ends : (e l : ℕ) → n * e + l ≤ n * (now + demand.low_largest) + demand.high_burst → n * e ≤ n * (came s x + demand.low_largest) + demand.high_burst
      ends e l h = rw instant (omega (arith, h))

-- a low item comes
pub supply_low : (n : ℕ) (s : Settings) (demand : Demand) (now start : ℕ) (u w : Supply) (x : Item) (first second : List Item)
    → came s x ≡ now → IsTakenFrom n s now x u w
    → IsWithinSupply n s demand now start u first second → IsWithinSupply n s demand now start w first (second ++ x ∷ [])
supply_low n s demand now start u w x first second instant taken h =
    let sum = sum_by_push (item_cost s) second x in
    let more_all : n * (start + costs s first + costs s (second ++ x ∷ [])) ≡ n * (start + costs s first + costs s second) + n * item_cost s x = ap (λ c. n * (start + costs s first + c)) sum
    ∙ spread_all n start (costs s first) (item_cost s x) (costs s second) in
    record {
      all_work = λ v later. omega (arith, h.all_work v later, more_all, taken.all_pays v later);
      high_work = λ v later. omega (arith, h.high_work v later, taken.high_falls v later);
      low_ends = ahead_push s (LowEnds n s demand now w.high_level) (start + costs s first) (start + costs s first + costs s (second ++ x ∷ [])) second x (omega (arith, sum))
          (ahead_weaker s (LowEnds n s demand now u.high_level) (LowEnds n s demand now w.high_level) 0 (start + costs s first) (start + costs s first) second (omega arith)
          (λ e e' y sooner q. low_sooner n s demand now u.high_level w.high_level 0 e e' y sooner (omega (arith, taken.level_falls)) q) h.low_ends)
          (ends _ (w.all now) (omega (arith, h.all_work now (omega arith), more_all, taken.all_pays now (omega arith))) taken.part);
      high_ends = h.high_ends;
    } where
      spread_all : (n a b c d : ℕ) → n * (a + b + (d + c)) ≡ n * (a + b + d) + n * c
      spread_all n a b c d = omega arith

      ends : (e l : ℕ) → n * e + l ≤ n * now + demand.burst → w.high_level ≤ l → n * e + w.high_level + demand.high_rate * came s x ≤ n * came s x + demand.high_rate * now + demand.burst
      ends e l h part = rw instant (omega (arith, h, part))
