-- What an account does is allowed of what was recorded, however its stamps are off.
use Rattle.std.proofs.Common.{◌≡◌, ◌⊎◌, ℕ, ◌+◌, ◌*◌, ◌-◌, ◌<◌, ◌≤◌, min, nat_le, List, [], ◌∷◌, true, false, refl, ap, ◌∙◌, arith, inl, inr}
use Rattle.std.specs.List.{AllZip}
use Rattle.std.proofs.Math.Nat.{mul-le-mul_left}
use Rattle.std.proofs.lemmas.Bool.{le-leb, lt-leb, lt-ltb, cases_lt}
use Rattle.afdx_account.specs.declared.frame.Frame.{Frame}
use Rattle.afdx_account.specs.Policing.{Terms}
use Rattle.afdx_account.specs.Level.{InOrder}
use Rattle.afdx_levels.specs.Levels.{Levels, slack_of, at_rest, unknown, credited, after, Allowed}
use Rattle.afdx_levels.specs.Inner.Laws.{fates_from, AllFit, IsNear, NoiseIsAllowedAtRest, NoiseIsAllowed}

-- an account with a level at the instant `came` is within what is known, by how much the instant that was recorded is later; or it is
-- full, and more is known to be possible
pub record IsWithin (t : Terms) (tolerance : ℕ) (l : Levels) (level came : ℕ) : Type 0 where
  pub late : l.since ≤ came + tolerance
  pub early : came ≤ l.since + tolerance
  pub known : ((level ≡ t.cap) × (t.cap + 2 * slack_of t tolerance ≤ l.most))
      ⊎ ((l.least ≤ level + t.rate * ((tolerance + l.since) - came)) × (level + t.rate * ((tolerance + l.since) - came) ≤ l.most))

-- what is credited by either clock, and what the clocks are off by
pub record AreCredits (s gap seen off later : ℕ) : Type 0 where
  pub same : off + seen ≡ later + gap
  pub most : later ≤ 2 * s

credits : (rate tolerance since stamp came seen : ℕ) → since ≤ came + tolerance → came ≤ since + tolerance → came ≤ stamp → since ≤ seen
    → seen ≤ stamp + tolerance → stamp ≤ seen + tolerance
    → AreCredits (rate * tolerance) (rate * (stamp - came)) (rate * (seen - since)) (rate * ((tolerance + since) - came)) (rate * ((tolerance + seen) - stamp))
credits rate tolerance since stamp came seen late early go_on go_on_too next_late next_early =
    let whole : ((tolerance + since) - came) + (seen - since) ≡ ((tolerance + seen) - stamp) + (stamp - came) = omega arith in
    let product : rate * (((tolerance + since) - came) + (seen - since)) ≡ rate * (((tolerance + seen) - stamp) + (stamp - came)) = ap (λ (n : ℕ). rate * n) whole in
    let within : (tolerance + seen) - stamp ≤ 2 * tolerance = omega arith in
    let less = mul-le-mul_left rate within in
    record {
      same = (let e : rate * ((tolerance + since) - came) + rate * (seen - since) ≡ rate * (((tolerance + since) - came) + (seen - since)) = omega arith in
          let d : rate * (((tolerance + seen) - stamp) + (stamp - came)) ≡ rate * ((tolerance + seen) - stamp) + rate * (stamp - came) = omega arith in e ∙ product ∙ d);
      most = omega arith;
    }

-- where a frame of price q is passed, and where it is policed, of an account with this level; x is what the clocks are off by
pub record AreEnds (cap s x now least most : ℕ) : Type 0 where
  pub low : min cap least ≤ now + x
  pub high : now + x ≤ min (cap + 2 * s) most
  pub short : now < cap → least ≤ now + x
  pub small : x ≤ 2 * s

ends : (t : Terms) (tolerance : ℕ) (l : Levels) (level came stamp seen : ℕ) → IsWithin t tolerance l level came → came ≤ stamp → l.since ≤ seen
    → seen ≤ stamp + tolerance → stamp ≤ seen + tolerance
    → AreEnds t.cap (t.rate * tolerance) (t.rate * ((tolerance + seen) - stamp)) (min t.cap (level + t.rate * (stamp - came)))
    (l.least + t.rate * (seen - l.since)) (l.most + t.rate * (seen - l.since))
ends t tolerance l level came stamp seen within go_on go_on_too late early =
    let c = credits t.rate tolerance l.since stamp came seen within.late within.early go_on go_on_too late early in
    let same = c.same in
    let most = c.most in
    elim within.known [
      | inl full ↦ (let is_full = full.0 in let above = full.1 in record { low = omega arith; high = omega arith; short = λ less. absurd (omega (arith, less)); small = most })
      | inr between ↦ (let low = between.0 in let high = between.1 in record { low = omega arith; high = omega arith; short = λ less. omega (arith, less); small = most })
    ]

noise : (t : Terms) (tolerance level from : ℕ) (l : Levels) (came seen : List Frame) → IsWithin t tolerance l level from → InOrder from came → InOrder l.since seen → AllFit t seen
    → AllZip (IsNear tolerance) came seen → Allowed t tolerance l seen (fates_from t level from came)
noise t tolerance level from l [] [] within order seen_order fit near = tt
noise t tolerance level from l [] (g ∷ gs) within order seen_order fit near = absurd near
noise t tolerance level from l (f ∷ fs) [] within order seen_order fit near = absurd near
noise t tolerance level from l (f ∷ fs) (g ∷ gs) within order seen_order fit near =
    let same : f.size ≡ g.size = near.0.size in
    let q = t.price g.size in
    let price : t.price f.size ≡ q = ap t.price same in
    let fits : q ≤ t.cap = fit.0 in
    let late = near.0.late in
    let early = near.0.early in
    let now = min t.cap (level + t.rate * (f.stamp - from)) in
    let x = t.rate * ((tolerance + g.stamp) - f.stamp) in
    let e = ends t tolerance l level from f.stamp g.stamp within order.0 seen_order.0 late early in
    let low = e.low in
    let high = e.high in
    let small = e.small in
    elim (cases_lt now q) [
      | inl less ↦ (let short = e.short (omega (arith, less, fits)) in
          let lacks : nat_le (t.price f.size) now ≡ false = lt-leb _ _ (omega (arith, less, price)) in
          rw lacks (
            lt-ltb (l.least + t.rate * (g.stamp - l.since)) (q + 2 * slack_of t tolerance) (omega (arith, less, short, small)),
            noise t tolerance now f.stamp (after t tolerance g.size false (credited t l g.stamp)) fs gs
                (record { late = late; early = early; known = inr (short, omega (arith, less, high, small)) }) order.1 seen_order.1 fit.1 near.1,
          ))
      | inr more ↦ (let has : nat_le (t.price f.size) now ≡ true = le-leb _ _ (omega (arith, more, price)) in
          rw (has, price) (
            le-leb q (l.most + t.rate * (g.stamp - l.since)) (omega (arith, more, high)),
            noise t tolerance (now - q) f.stamp (after t tolerance g.size true (credited t l g.stamp)) fs gs
                (record { late = late; early = early; known = inr (omega (arith, more, low), omega (arith, more, high)) }) order.1 seen_order.1 fit.1 near.1,
          ))
    ]

pub noise_is_allowed_at_rest : NoiseIsAllowedAtRest
noise_is_allowed_at_rest t tolerance came seen order seen_order fit near =
    noise t tolerance t.cap 0 (at_rest t tolerance) came seen (record { late = omega arith; early = omega arith; known = inl (refl, omega arith) }) order seen_order fit near

pub noise_is_allowed : NoiseIsAllowed
noise_is_allowed t tolerance level since came seen full order seen_order fit near =
    let none : (tolerance + since) - since ≡ tolerance = omega arith in
    let same : t.rate * ((tolerance + since) - since) ≡ t.rate * tolerance = ap (λ (n : ℕ). t.rate * n) none in
    noise t tolerance level since (unknown t tolerance since) came seen
    (record { late = omega arith; early = omega arith; known = inr (omega arith, omega (arith, same, full)) }) order seen_order fit near
