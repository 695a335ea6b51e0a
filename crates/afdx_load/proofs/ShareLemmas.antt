-- What one link asks for, by the terms of its account.
use Rattle.std.proofs.Common.{◌≡◌, ℕ, ◌+◌, ◌*◌, ◌/◌, ◌^◌, ◌<◌, ◌≤◌, arith}
use Rattle.std.proofs.Math.Nat.{mul-le-mul_left}
use Rattle.afdx_units.specs.declared.bag.Bag.{Bag}
use Rattle.afdx_units.specs.declared.bag.Bag.TheVariants.{Ms1, Ms2, Ms4, Ms8, Ms16, Ms32, Ms64, Ms128}
use Rattle.afdx_units.specs.declared.line.Speed.{Speed}
use Rattle.afdx_units.specs.declared.line.Speed.TheVariants.{Ten, Hundred, Thousand}
use Rattle.afdx_units.specs.declared.police.Police.{Police}
use Rattle.afdx_units.specs.declared.police.Police.TheVariants.{Byte, Frame}
use Rattle.afdx_units.specs.Time.{bag_ms, bag_ns}
use Rattle.afdx_units.specs.Line.{tick_of}
use Rattle.afdx_account.specs.Policing.{terms_by, weight_by}
use Rattle.afdx_table.specs.Link.{Link}
use Rattle.afdx_load.specs.Load.{rate_by, rate_of, burst_of, terms_of, weight_of}

pub times : {a b c d : ℕ} → a ≡ b → c ≡ d → a * c ≡ b * d
times {a = a} {b = b} {c = c} {d = d} h k = cc

-- ---- in the long run

bytes_rate : (t k s : ℕ) → 21 * t * k * s ≡ 21 * t * s * k
bytes_rate t k s = omega arith

frames_rate : (t k s : ℕ) → 16 * ((s + 20) * t) * k * 1 ≡ 16 * t * (s + 20) * k
frames_rate t k s = omega arith

rate_is_by : (police : Police) (speed : Speed) (size : ℕ) (bag : Bag) (jitter : ℕ) → weight_by police size bag speed * (terms_by police size bag jitter).rate ≡ rate_by police speed size bag
rate_is_by Byte speed size bag jitter = bytes_rate (tick_of speed) (128 / bag_ms bag) size
rate_is_by Frame speed size bag jitter = frames_rate (tick_of speed) (128 / bag_ms bag) size

pub rate_is : (speed : Speed) (link : Link) → weight_of speed link * (terms_of link).rate ≡ rate_of speed link
rate_is speed link = rate_is_by link.police speed link.max_size link.bag link.jitter

-- ---- at once

bytes_burst : (t k s b : ℕ) → 21 * t * k * (s * b) ≡ 21 * t * s * k * b
bytes_burst t k s b = omega arith

frames_burst : (t k s b : ℕ) → 16 * ((s + 20) * t) * k * b ≡ 16 * t * (s + 20) * k * b
frames_burst t k s b = omega arith

burst_is_by : (police : Police) (speed : Speed) (size : ℕ) (bag : Bag) (jitter : ℕ) → weight_by police size bag speed * (terms_by police size bag jitter).cap
    ≡ rate_by police speed size bag * (bag_ns bag + jitter)
burst_is_by Byte speed size bag jitter = bytes_burst (tick_of speed) (128 / bag_ms bag) size (bag_ns bag + jitter)
burst_is_by Frame speed size bag jitter = frames_burst (tick_of speed) (128 / bag_ms bag) size (bag_ns bag + jitter)

pub burst_is : (speed : Speed) (link : Link) → weight_of speed link * (terms_of link).cap ≡ burst_of speed link
burst_is speed link = burst_is_by link.police speed link.max_size link.bag link.jitter

-- ---- each asks for something

tick_least : (speed : Speed) → 8 ≤ tick_of speed
tick_least Ten = omega arith
tick_least Hundred = omega arith
tick_least Thousand = omega arith

parts_least : (bag : Bag) → 1 ≤ 128 / bag_ms bag
parts_least Ms1 = omega arith
parts_least Ms2 = omega arith
parts_least Ms4 = omega arith
parts_least Ms8 = omega arith
parts_least Ms16 = omega arith
parts_least Ms32 = omega arith
parts_least Ms64 = omega arith
parts_least Ms128 = omega arith

product_large : (a b m n : ℕ) → m ≤ a → n ≤ b → m * n ≤ a * b
product_large a b m n h k = grind arith

-- whatever a byte takes on the line
rate_large : (c t k size : ℕ) → 8 ≤ t → 1 ≤ k → 1 ≤ size → c * (8 * 1 * 1) ≤ c * t * size * k
rate_large c t k size tick part some =
    let two = product_large t size 8 1 tick some in
    let three = product_large (t * size) k (8 * 1) 1 two part in
    let whole : c * (t * size * k) ≡ c * t * size * k = omega arith in
    omega (arith, whole, mul-le-mul_left c three)

above_by : (police : Police) (speed : Speed) (size : ℕ) (bag : Bag) → 64 ≤ size → 0 < rate_by police speed size bag
above_by Byte speed size bag h = omega (arith, rate_large 21 (tick_of speed) (128 / bag_ms bag) size (tick_least speed) (parts_least bag) (omega (arith, h)))
above_by Frame speed size bag h = omega (arith, rate_large 16 (tick_of speed) (128 / bag_ms bag) (size + 20) (tick_least speed) (parts_least bag) (omega arith))

pub rate_above : (speed : Speed) (link : Link) → 64 ≤ link.max_size → 0 < rate_of speed link
rate_above speed link h = above_by link.police speed link.max_size link.bag h

-- ---- and none asks for much

tick_most : (speed : Speed) → tick_of speed ≤ 800
tick_most Ten = omega arith
tick_most Hundred = omega arith
tick_most Thousand = omega arith

parts_most : (bag : Bag) → 128 / bag_ms bag ≤ 128
parts_most Ms1 = omega arith
parts_most Ms2 = omega arith
parts_most Ms4 = omega arith
parts_most Ms8 = omega arith
parts_most Ms16 = omega arith
parts_most Ms32 = omega arith
parts_most Ms64 = omega arith
parts_most Ms128 = omega arith

product_small : (a b m n : ℕ) → a ≤ m → b ≤ n → a * b ≤ m * n
product_small a b m n h k = product_large m n a b h k

rate_within : (c t k size most : ℕ) → t ≤ 800 → k ≤ 128 → size ≤ most → c * t * size * k ≤ c * (800 * most * 128)
rate_within c t k size most tick part small =
    let two = product_small t size 800 most tick small in
    let three = product_small (t * size) k (800 * most) 128 two part in
    let whole : c * (t * size * k) ≡ c * t * size * k = omega arith in
    omega (arith, whole, mul-le-mul_left c three)

small_by : (police : Police) (speed : Speed) (size : ℕ) (bag : Bag) → size ≤ 1518 → rate_by police speed size bag ≤ 2 ^ 32
small_by Byte speed size bag h = omega (arith, rate_within 21 (tick_of speed) (128 / bag_ms bag) size 1518 (tick_most speed) (parts_most bag) h)
small_by Frame speed size bag h = omega (arith, rate_within 16 (tick_of speed) (128 / bag_ms bag) (size + 20) 1538 (tick_most speed) (parts_most bag) (omega (arith, h)))

pub rate_small : (speed : Speed) (link : Link) → link.max_size ≤ 1518 → rate_of speed link ≤ 2 ^ 32
rate_small speed link h = small_by link.police speed link.max_size link.bag h

bag_small : (bag : Bag) → bag_ns bag ≤ 128000000
bag_small Ms1 = omega arith
bag_small Ms2 = omega arith
bag_small Ms4 = omega arith
bag_small Ms8 = omega arith
bag_small Ms16 = omega arith
bag_small Ms32 = omega arith
bag_small Ms64 = omega arith
bag_small Ms128 = omega arith

pub burst_small : (speed : Speed) (link : Link) → link.max_size ≤ 1518 → link.jitter ≤ 10000000 → burst_of speed link ≤ 2 ^ 60
burst_small speed link h k =
    let most : bag_ns link.bag + link.jitter ≤ 138000000 = omega (arith, bag_small link.bag) in
    omega (arith, product_small (rate_of speed link) (bag_ns link.bag + link.jitter) (2 ^ 32) 138000000 (rate_small speed link h) most)
