-- The fates that are told are allowed.
use Rattle.std.proofs.Common.{◌≡◌, ℕ, ◌+◌, ◌*◌, ◌-◌, ◌≤◌, nat_le, nat_lt, [], ◌∷◌, Bool, true, false, IsTrue, arith, inl, inr}
use Rattle.std.proofs.lemmas.Bool.{cases_Bool, leb-true, leb-false, ltb-true, lt-ltb}
use Rattle.afdx_account.specs.Policing.{Terms}
use Rattle.afdx_levels.specs.Levels.{Levels, slack_of, credited, outlook_of, may_be, after, fate_told}
use Rattle.afdx_levels.specs.Inner.Laws.{ToldIsAllowed, FateMayBe}

either : (t : Terms) (tolerance size : ℕ) (l : Levels) (seen : Bool) → may_be t tolerance size l true ≡ true → may_be t tolerance size l false ≡ true
    → IsTrue (may_be t tolerance size l seen)
either t tolerance size l true may unsure = may
either t tolerance size l false may unsure = unsure

pub fate_may_be : FateMayBe
fate_may_be t tolerance size l seen order =
    let edge = t.price size + 2 * slack_of t tolerance in
    elim (cases_Bool (nat_le (t.price size) l.most)) [
      | inl may ↦ elim (cases_Bool (nat_lt l.least edge)) [
        | inl unsure ↦ rw (may, unsure) (either t tolerance size l seen may unsure)
        | inr must ↦ rw (may, must) may
      ]
      | inr never ↦ (let above = leb-false (t.price size) l.most never in rw never (lt-ltb l.least edge (omega (arith, above, order))))
    ]

stays_in_order : (t : Terms) (tolerance size : ℕ) (l : Levels) (passes : Bool) → t.price size ≤ t.cap → l.least ≤ l.most → IsTrue (may_be t tolerance size l passes)
    → (after t tolerance size passes l).least ≤ (after t tolerance size passes l).most
stays_in_order t tolerance size l true fits order may = let m = leb-true (t.price size) l.most may in omega arith
stays_in_order t tolerance size l false fits order may = let m = ltb-true l.least (t.price size + 2 * slack_of t tolerance) may in omega arith

pub told_is_allowed : ToldIsAllowed
told_is_allowed t tolerance is_seen l [] order fit = tt
told_is_allowed t tolerance is_seen l (f ∷ fs) order fit =
    let now = credited t l f.stamp in
    let passes = fate_told (outlook_of t tolerance f.size now) (is_seen f) in
    let now_order : l.least + t.rate * (f.stamp - l.since) ≤ l.most + t.rate * (f.stamp - l.since) = omega arith in
    let may = fate_may_be t tolerance f.size now (is_seen f) now_order in
    (may, told_is_allowed t tolerance is_seen (after t tolerance f.size passes now) fs (stays_in_order t tolerance f.size now passes fit.0 now_order may) fit.1)
