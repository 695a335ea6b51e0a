-- The proofs that the accounts give to the laws of the trait; they are here because an impl can cite nothing else of its crate.
use Rattle.std.proofs.Common.{◌≡◌, ℕ, ◌+◌, ◌*◌, ◌/◌, ◌-◌, ◌≤◌, min, arith, ap, refl, ◌∙◌}
use Rattle.std.proofs.Math.Nat.{mul-le-mul_left}
use Rattle.afdx_units.specs.declared.bag.Bag.{Bag}
use Rattle.afdx_units.specs.declared.bag.Bag.TheVariants.{Ms1, Ms2, Ms4, Ms8, Ms16, Ms32, Ms64, Ms128}
use Rattle.afdx_units.specs.declared.line.Speed.{Speed}
use Rattle.afdx_units.specs.Time.{bag_ms, bag_ns}
use Rattle.afdx_units.specs.Line.{least_size, tick_of, cost_of}
use Rattle.afdx_account.specs.declared.account.Account.{Account}
use Rattle.afdx_account.specs.declared.account.Account.TheVariants.{Byte, Frame}
use Rattle.afdx_account.specs.Policing.{parts, byte_weight, frame_weight}
use Rattle.afdx_account.specs.Level.{credited_level}
use Rattle.afdx_account.specs.Account.{account_terms, account_since, account_level, account_weight, account_greatest}

-- credit may be given in two parts or at once: the level is the same
pub fills : (cap rate level since at later : ℕ) → since ≤ at → at ≤ later
    → min cap (level + rate * (later - since)) ≡ min cap (min cap (level + rate * (at - since)) + rate * (later - at))
fills cap rate level since at later h k =
    let whole : later - since ≡ (at - since) + (later - at) = omega arith in
    let parts : rate * (later - since) ≡ rate * (at - since) + rate * (later - at) = ap (λ (n : ℕ). rate * n) whole ∙ omega arith in
    omega (arith, parts)

-- the gap goes a whole number of times into 128 ms
parts_of_gap : (bag : Bag) → 128 / bag_ms bag * bag_ns bag ≡ 128000000
parts_of_gap Ms1 = refl
parts_of_gap Ms2 = refl
parts_of_gap Ms4 = refl
parts_of_gap Ms8 = refl
parts_of_gap Ms16 = refl
parts_of_gap Ms32 = refl
parts_of_gap Ms64 = refl
parts_of_gap Ms128 = refl

-- a unit's weight by bytes pays for a frame's line time, whatever a byte takes on the line
bytes_pay : (t k b size : ℕ) → k * b ≡ 128000000 → least_size ≤ size → 2048000000 * ((size + 20) * t) ≤ 21 * t * k * (size * b)
bytes_pay t k b size is h =
    let more : t * 64 ≤ t * size = mul-le-mul_left t h in
    let whole : 21 * t * k * (size * b) ≡ 21 * t * size * (k * b) = omega arith in
    let parts : 21 * t * size * (k * b) ≡ 21 * t * size * 128000000 = ap (λ (n : ℕ). 21 * t * size * n) is in
    omega (arith, more, whole, parts)

-- a unit's weight by frames pays for the line time of each frame up to the greatest, whatever a byte takes on the line
frames_pay : (t k b max_size size : ℕ) → k * b ≡ 128000000 → size ≤ max_size → 2048000000 * ((size + 20) * t) ≤ 16 * ((max_size + 20) * t) * k * b
frames_pay t k b max_size size is h =
    let more : t * size ≤ t * max_size = mul-le-mul_left t h in
    let whole : 16 * ((max_size + 20) * t) * k * b ≡ 16 * ((max_size + 20) * t) * (k * b) = omega arith in
    let parts : 16 * ((max_size + 20) * t) * (k * b) ≡ 16 * ((max_size + 20) * t) * 128000000 = ap (λ (n : ℕ). 16 * ((max_size + 20) * t) * n) is in
    omega (arith, more, whole, parts)

-- by bytes, what a frame costs its account pays for its time on a line of this speed
pub pays_for : (bag : Bag) (speed : Speed) (size : ℕ) → least_size ≤ size
    → parts * cost_of speed size ≤ byte_weight bag speed * (size * bag_ns bag)
pays_for bag speed size h = bytes_pay (tick_of speed) (128 / bag_ms bag) (bag_ns bag) size (parts_of_gap bag) h

-- by frames, what a frame up to the link's greatest costs its account pays for its time on a line of this speed
pub frame_pays_for : (bag : Bag) (speed : Speed) (max_size size : ℕ) → size ≤ max_size
    → parts * cost_of speed size ≤ frame_weight max_size bag speed * bag_ns bag
frame_pays_for bag speed max_size size h = frames_pay (tick_of speed) (128 / bag_ms bag) (bag_ns bag) max_size size (parts_of_gap bag) h

-- what is held to a cap is no more than it
pub capped_by : (cap n : ℕ) → min cap n ≤ cap
capped_by cap n = omega arith

-- ---- either account

-- no account holds more than its cap
pub account_capped : (a : Account) (at : ℕ) → account_level a at ≤ (account_terms a).cap
account_capped (Byte a) at = capped_by (a.max_size * (bag_ns a.bag + a.jitter)) (a.level + a.max_size * (at - a.since))
account_capped (Frame a) at = capped_by (bag_ns a.bag + a.jitter) (a.level + 1 * (at - a.since))

-- the level later is the level now, credited for the time in between
pub account_credited : (a : Account) (at later : ℕ) → account_since a ≤ at → at ≤ later
    → account_level a later ≡ credited_level (account_terms a) (account_level a at) (later - at)
account_credited (Byte a) at later h k = fills (a.max_size * (bag_ns a.bag + a.jitter)) a.max_size a.level a.since at later h k
account_credited (Frame a) at later h k = fills (bag_ns a.bag + a.jitter) 1 a.level a.since at later h k

-- what a frame of the link costs its account pays for its time on a line of this speed
pub account_pays : (a : Account) (speed : Speed) (size : ℕ) → least_size ≤ size → size ≤ account_greatest a
    → parts * cost_of speed size ≤ account_weight a speed * (account_terms a).price size
account_pays (Byte a) speed size h k = pays_for a.bag speed size h
account_pays (Frame a) speed size h k = frame_pays_for a.bag speed a.max_size size k
