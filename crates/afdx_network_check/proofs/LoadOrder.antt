-- Loads grow with the jitters of their links, and so do bounds; a bound is no less than the latency and the line time of the least frame.
use Rattle.std.proofs.Common.{◌≡◌, ℕ, zero, suc, ◌+◌, ◌-◌, ◌*◌, ◌/◌, ◌<◌, ◌≤◌, ◌&&◌, Bool, true, false, cond, nat_lt, max, List, []}
use Rattle.std.proofs.Common.{◌∷◌, length, get_or, Some, None, refl, ap, sym, ◌∙◌, arith, subst}
use Rattle.std.specs.Prelude.{Contains, filter, sum_by, count_by}
use Rattle.std.specs.List.{AllZip}
use Rattle.std.proofs.Math.Nat.{mul-le-mul_left, div-mul-le_self}
use Rattle.std.proofs.lemmas.Nat.{le-div}
use Rattle.std.proofs.lemmas.Bool.Decides.{nat_tests}
use Rattle.std.proofs.lemmas.List.Sums.{sum_by-cons}
use Rattle.std.proofs.lemmas.Option.{cond_some}
use Rattle.afdx_units.specs.declared.bag.Bag.{Bag}
use Rattle.afdx_units.specs.declared.bag.Bag.TheVariants.{Ms1, Ms2, Ms4, Ms8, Ms16, Ms32, Ms64, Ms128}
use Rattle.afdx_units.specs.declared.line.Priority.{Priority}
use Rattle.afdx_units.specs.declared.line.Priority.TheVariants.{High, Low}
use Rattle.afdx_units.specs.declared.line.Speed.{Speed}
use Rattle.afdx_units.specs.declared.line.Speed.TheVariants.{Ten, Hundred, Thousand}
use Rattle.afdx_units.specs.declared.police.Police.{Police}
use Rattle.afdx_units.specs.declared.police.Police.TheVariants.{Byte, Frame}
use Rattle.afdx_units.specs.Line.{tick_of, cost_of}
use Rattle.afdx_units.specs.Time.{bag_ms, bag_ns}
use Rattle.afdx_account.specs.Policing.{parts}
use Rattle.afdx_table.specs.Link.{Link, leads_to}
use Rattle.afdx_load.specs.Load.{Load, is_high_link, is_low_link, routed, rate_by, rate_of, burst_of, time_of, greatest, links_load, load_of}
use Rattle.afdx_load.specs.Bounds.{bounds_of}
use Rattle.afdx_network_check.specs.Net.{bound_in}
use Rattle.afdx_network_check.specs.Needs.{bare_link}

-- ---- links whose jitters grow

pub record Grows (l m : Link) : Type 0 where
  pub same : bare_link m ≡ bare_link l
  pub jitter : l.jitter ≤ m.jitter

-- what doesn't look at jitters is the same
like : {X : Type 0} (f : Link → X) → ((l : Link) → f (bare_link l) ≡ f l) → (l m : Link) → Grows l m → f m ≡ f l
like f blind l m h = sym (blind m) ∙ ap f h.same ∙ blind l

pub filtered : (p : Link → Bool) → ((l : Link) → p (bare_link l) ≡ p l) → (ls ms : List Link) → AllZip Grows ls ms → AllZip Grows (filter p ls) (filter p ms)
filtered p blind [] [] h = tt
filtered p blind [] (m ∷ ms) h = absurd h
filtered p blind (l ∷ ls) [] h = absurd h
filtered p blind (l ∷ ls) (m ∷ ms) h =
    let rest = filtered p blind ls ms h.1 in
    subst (λ (b : Bool). AllZip Grows (filter p (l ∷ ls)) (cond b (m ∷ filter p ms) (filter p ms))) (sym (like p blind l m h.0)) (by rest (p l)) where
      by : AllZip Grows (filter p ls) (filter p ms) → (b : Bool) → AllZip Grows (cond b (l ∷ filter p ls) (filter p ls)) (cond b (m ∷ filter p ms) (filter p ms))
      by rest true = (h.0, rest)
      by rest false = rest

pub sum_same : (f : Link → ℕ) → ((l : Link) → f (bare_link l) ≡ f l) → (ls ms : List Link) → AllZip Grows ls ms → sum_by f ms ≡ sum_by f ls
sum_same f blind [] [] h = refl
sum_same f blind [] (m ∷ ms) h = absurd h
sum_same f blind (l ∷ ls) [] h = absurd h
sum_same f blind (l ∷ ls) (m ∷ ms) h =
    let first = like f blind l m h.0 in
    let rest = sum_same f blind ls ms h.1 in
    omega (arith, first, rest, sum_by-cons f l ls, sum_by-cons f m ms)

pub greatest_same : (f : Link → ℕ) → ((l : Link) → f (bare_link l) ≡ f l) → (ls ms : List Link) → AllZip Grows ls ms → greatest f ms ≡ greatest f ls
greatest_same f blind [] [] h = refl
greatest_same f blind [] (m ∷ ms) h = absurd h
greatest_same f blind (l ∷ ls) [] h = absurd h
greatest_same f blind (l ∷ ls) (m ∷ ms) h = ap (λ (n : ℕ). max n (greatest f ms)) (like f blind l m h.0) ∙ ap (max (f l)) (greatest_same f blind ls ms h.1)

pub sum_grows : (f : Link → ℕ) → ((l m : Link) → Grows l m → f l ≤ f m) → (ls ms : List Link) → AllZip Grows ls ms → sum_by f ls ≤ sum_by f ms
sum_grows f each [] [] h = omega arith
sum_grows f each [] (m ∷ ms) h = absurd h
sum_grows f each (l ∷ ls) [] h = absurd h
sum_grows f each (l ∷ ls) (m ∷ ms) h =
    let first = each l m h.0 in
    let rest = sum_grows f each ls ms h.1 in
    omega (arith, first, rest, sum_by-cons f l ls, sum_by-cons f m ms)

pub burst_grows : (speed : Speed) (l m : Link) → Grows l m → burst_of speed l ≤ burst_of speed m
burst_grows speed l m h =
    let rate : rate_of speed m ≡ rate_of speed l = like (rate_of speed) (λ _. refl) l m h in
    let gap : bag_ns m.bag ≡ bag_ns l.bag = like (λ (k : Link). bag_ns k.bag) (λ _. refl) l m h in
    let jitter = h.jitter in
    let more : bag_ns l.bag + l.jitter ≤ bag_ns m.bag + m.jitter = omega (arith, gap, jitter) in
    subst (λ (n : ℕ). burst_of speed l ≤ n * (bag_ns m.bag + m.jitter)) (sym rate) (mul-le-mul_left (rate_of speed l) more)

-- ---- loads that grow

pub record LoadGrows (a b : Load) : Type 0 where
  pub highs : b.highs ≡ a.highs
  pub lows : b.lows ≡ a.lows
  pub rate : b.rate ≡ a.rate
  pub high_rate : b.high_rate ≡ a.high_rate
  pub burst : a.burst ≤ b.burst
  pub high_burst : a.high_burst ≤ b.high_burst
  pub low_largest : b.low_largest ≡ a.low_largest
  pub latency : b.latency ≡ a.latency

pub load_grows : (latency : ℕ) (speed : Speed) (port : ℕ) (ls ms : List Link) → AllZip Grows ls ms → LoadGrows (load_of latency speed port ls) (load_of latency speed port ms)
unfolding links_load
load_grows latency speed port ls ms h =
    let all = filtered (leads_to port) (λ _. refl) ls ms h in
    let highs = filtered is_high_link (λ _. refl) (routed port ls) (routed port ms) all in
    let lows = filtered is_low_link (λ _. refl) (routed port ls) (routed port ms) all in
    record {
      highs = sum_same (λ (l : Link). cond (is_high_link l) 1 0) (λ _. refl) (routed port ls) (routed port ms) all;
      lows = sum_same (λ (l : Link). cond (is_low_link l) 1 0) (λ _. refl) (routed port ls) (routed port ms) all;
      rate = sum_same (rate_of speed) (λ _. refl) (routed port ls) (routed port ms) all;
      high_rate = sum_same (rate_of speed) (λ _. refl) (filter is_high_link (routed port ls)) (filter is_high_link (routed port ms)) highs;
      burst = sum_grows (burst_of speed) (burst_grows speed) (routed port ls) (routed port ms) all;
      high_burst = sum_grows (burst_of speed) (burst_grows speed) (filter is_high_link (routed port ls)) (filter is_high_link (routed port ms)) highs;
      low_largest = greatest_same (time_of speed) (λ _. refl) (filter is_low_link (routed port ls)) (filter is_low_link (routed port ms)) lows;
      latency = refl;
    }

-- ---- bounds that grow

quotient_grows : (m n k : ℕ) → m ≤ n → 0 < k → m / k ≤ n / k
quotient_grows m n k le some = le-div (m / k) n k some (let down = div-mul-le_self m k in omega (arith, down, le))

pub bound_grows : (a b : Load) → LoadGrows a b → (priority : Priority) (x y : ℕ) → bound_in (bounds_of a) priority ≡ Some x → bound_in (bounds_of b) priority ≡ Some y → x ≤ y
bound_grows a b h High x y x_is y_is =
    let one = cond_some (nat_lt 0 a.highs) ((a.high_burst + parts * a.low_largest) / parts + a.latency) x x_is in
    let two = cond_some (nat_lt 0 b.highs) ((b.high_burst + parts * b.low_largest) / parts + b.latency) y y_is in
    let burst = h.high_burst in
    let largest = h.low_largest in
    let latency = h.latency in
    let first = one.1 in
    let second = two.1 in
    let more : a.high_burst + parts * a.low_largest ≤ b.high_burst + parts * b.low_largest = omega (arith, burst, largest) in
    let quotient = quotient_grows (a.high_burst + parts * a.low_largest) (b.high_burst + parts * b.low_largest) parts more (omega arith) in
    omega (arith, first, second, latency, quotient)
bound_grows a b h Low x y x_is y_is =
    let one = cond_some (nat_lt 0 a.lows && nat_lt a.high_rate parts) (a.burst / (parts - a.high_rate) + a.latency) x x_is in
    let two = cond_some (nat_lt 0 b.lows && nat_lt b.high_rate parts) (b.burst / (parts - b.high_rate) + b.latency) y y_is in
    let burst = h.burst in
    let latency = h.latency in
    let first = one.1 in
    let second : b.burst / (parts - a.high_rate) + b.latency ≡ y = ap (λ (n : ℕ). b.burst / (parts - n) + b.latency) (sym h.high_rate) ∙ two.1 in
    let left : 0 < parts - a.high_rate = leaves (nat_lt 0 a.lows) a.high_rate one.0 in
    let quotient = quotient_grows a.burst b.burst (parts - a.high_rate) burst left in
    omega (arith, first, second, latency, quotient)
  where
    leaves : (some : Bool) (rate : ℕ) → (some && nat_lt rate parts) ≡ true → 0 < parts - rate
    leaves true rate h = let test : nat_lt rate parts ≡ true = h in grind (arith, nat_tests)
    leaves false rate h = absurd cc

-- ---- a bound is there, and no less than a frame takes

pub sum_has : (f : Link → ℕ) (ls : List Link) (l : Link) (k : ℕ) → k < length ls → get_or ls k l ≡ l → f l ≤ sum_by f ls
sum_has f [] l k within at = absurd (omega (arith, within))
sum_has f (m ∷ ls) l zero within at =
    let same : f m ≡ f l = ap f at in
    omega (arith, same, sum_by-cons f m ls)
sum_has f (m ∷ ls) l (suc k) within at =
    let rest = sum_has f ls l k (omega (arith, within)) at in
    omega (arith, rest, sum_by-cons f m ls)

-- what passes a test is kept
pub kept : (p : Link → Bool) (ls : List Link) (l : Link) (k : ℕ) → k < length ls → get_or ls k l ≡ l → p l ≡ true → Contains (filter p ls) l
kept p [] l k within at passes = absurd (omega (arith, within))
kept p (m ∷ ls) l zero within at passes = subst (λ (b : Bool). Contains (cond b (m ∷ filter p ls) (filter p ls)) l) (sym (ap p at ∙ passes)) (0, omega arith, at)
kept p (m ∷ ls) l (suc k) within at passes = by (kept p ls l k (omega (arith, within)) at passes) (p m) where
  by : Contains (filter p ls) l → (b : Bool) → Contains (cond b (m ∷ filter p ls) (filter p ls)) l
  by rest true = (suc rest.0, (let within = rest.1 in omega (arith, within)), rest.2)
  by rest false = rest

-- a gap's share of a line
share : (bag : Bag) → (128 / bag_ms bag) * bag_ns bag ≡ 128000000
share Ms1 = refl
share Ms2 = refl
share Ms4 = refl
share Ms8 = refl
share Ms16 = refl
share Ms32 = refl
share Ms64 = refl
share Ms128 = refl

shared : (m n share gap : ℕ) → share * gap ≡ 128000000 → m ≤ n * 128000000 → m ≤ n * share * gap
shared m n share gap is le =
    let product : n * (share * gap) ≡ n * 128000000 = ap (λ (k : ℕ). n * k) is in
    omega (arith, product, le)

by_bytes : (speed : Speed) (size : ℕ) → 64 ≤ size → parts * cost_of speed 64 ≤ 21 * tick_of speed * size * 128000000
by_bytes Ten size least = omega (arith, least)
by_bytes Hundred size least = omega (arith, least)
by_bytes Thousand size least = omega (arith, least)

by_frames : (speed : Speed) (size : ℕ) → 64 ≤ size → parts * cost_of speed 64 ≤ 16 * tick_of speed * (size + 20) * 128000000
by_frames Ten size least = omega (arith, least)
by_frames Hundred size least = omega (arith, least)
by_frames Thousand size least = omega (arith, least)

rate_pays : (police : Police) (speed : Speed) (size : ℕ) (bag : Bag) → 64 ≤ size → parts * cost_of speed 64 ≤ rate_by police speed size bag * bag_ns bag
rate_pays Byte speed size bag least = shared (parts * cost_of speed 64) (21 * tick_of speed * size) (128 / bag_ms bag) (bag_ns bag) (share bag) (by_bytes speed size least)
rate_pays Frame speed size bag least = shared (parts * cost_of speed 64) (16 * tick_of speed * (size + 20)) (128 / bag_ms bag) (bag_ns bag) (share bag) (by_frames speed size least)

pub burst_pays : (speed : Speed) (l : Link) → 64 ≤ l.max_size → parts * cost_of speed 64 ≤ burst_of speed l
burst_pays speed l least =
    let gap = rate_pays l.police speed l.max_size l.bag least in
    let more : rate_of speed l * bag_ns l.bag ≤ rate_of speed l * (bag_ns l.bag + l.jitter) = mul-le-mul_left (rate_of speed l) (omega arith) in
    omega (arith, gap, more)

pub record Bounded (load : Load) (priority : Priority) (least : ℕ) : Type 0 where
  pub bound : ℕ
  pub bound_is : bound_in (bounds_of load) priority ≡ Some bound
  pub order : least ≤ bound

less_test : (m n : ℕ) → m < n → nat_lt m n ≡ true
less_test m n less = grind (arith, nat_tests)

pub high_is : (load : Load) (least : ℕ) → 0 < load.highs → parts * least ≤ load.high_burst → Bounded load High (load.latency + least)
high_is load least some pays =
    let all : ℕ = load.high_burst + parts * load.low_largest in
    let quotient = le-div least (load.high_burst + parts * load.low_largest) parts (omega arith) (omega (arith, pays)) in
    record {
      bound = all / parts + load.latency;
      bound_is = ap (λ b. cond b (Some ((load.high_burst + parts * load.low_largest) / parts + load.latency)) None) (less_test 0 load.highs some);
      order = omega (arith, quotient);
    }

both : (a b : Bool) → a ≡ true → b ≡ true → (a && b) ≡ true
both true b one two = two
both false b one two = absurd cc

pub low_is : (load : Load) (least : ℕ) → 0 < load.lows → load.high_rate < parts → parts * least ≤ load.burst → Bounded load Low (load.latency + least)
low_is load least some leaves pays =
    let left : least * (parts - load.high_rate) ≤ least * parts = mul-le-mul_left least (omega arith) in
    let quotient = le-div least load.burst (parts - load.high_rate) (omega (arith, leaves)) (omega (arith, left, pays)) in
    record {
      bound = load.burst / (parts - load.high_rate) + load.latency;
      bound_is = ap (λ b. cond b (Some (load.burst / (parts - load.high_rate) + load.latency)) None)
          (both (nat_lt 0 load.lows) (nat_lt load.high_rate parts) (less_test 0 load.lows some) (less_test load.high_rate parts leaves));
      order = omega (arith, quotient);
    }

counted : (p : Link → Bool) (links : List Link) (l : Link) → Contains links l → p l ≡ true → 0 < count_by p links
counted p links l among is =
    let one : ◌≡◌ {A = ℕ} (cond (p l) 1 0) 1 = ap (λ b. cond b 1 0) is in
    let sum = sum_has (λ (k : Link). cond (p k) 1 0) links l among.0 among.1 among.2 in
    omega (arith, one, sum)

pub high : (speed : Speed) (links : List Link) (latency : ℕ) (l : Link) → Contains links l → is_high_link l ≡ true → parts * cost_of speed 64 ≤ burst_of speed l
    → let load : Load = record (links_load speed links) { latency = latency } in (0 < load.highs) × (parts * cost_of speed 64 ≤ load.high_burst)
unfolding links_load
high speed links latency l among is pays =
    let there = kept is_high_link links l among.0 among.1 among.2 is in
    let sum = sum_has (burst_of speed) (filter is_high_link links) l there.0 there.1 there.2 in
    (counted is_high_link links l among is, omega (arith, pays, sum))

pub low : (speed : Speed) (links : List Link) (latency : ℕ) (l : Link) → Contains links l → is_low_link l ≡ true → parts * cost_of speed 64 ≤ burst_of speed l
    → let load : Load = record (links_load speed links) { latency = latency } in (0 < load.lows) × (parts * cost_of speed 64 ≤ load.burst)
unfolding links_load
low speed links latency l among is pays =
    let sum = sum_has (burst_of speed) links l among.0 among.1 among.2 in
    (counted is_low_link links l among is, omega (arith, pays, sum))

-- where the greater load has a bound, the lesser one has one
pub bound_before : (a b : Load) → LoadGrows a b → (priority : Priority) (y : ℕ) → bound_in (bounds_of b) priority ≡ Some y
    → (x : ℕ) × (bound_in (bounds_of a) priority ≡ Some x) × (x ≤ y)
bound_before a b h High y y_is =
    let x : ℕ = (a.high_burst + parts * a.low_largest) / parts + a.latency in
    let test = (cond_some (nat_lt 0 b.highs) ((b.high_burst + parts * b.low_largest) / parts + b.latency) y y_is).0 in
    let is : bound_in (bounds_of a) High ≡ Some ((a.high_burst + parts * a.low_largest) / parts + a.latency)
    = ap (λ c. cond c (Some ((a.high_burst + parts * a.low_largest) / parts + a.latency)) None) (sym (ap (nat_lt 0) h.highs) ∙ test) in
    (x, is, bound_grows a b h High x y is y_is)
bound_before a b h Low y y_is =
    let x : ℕ = a.burst / (parts - a.high_rate) + a.latency in
    let test = (cond_some (nat_lt 0 b.lows && nat_lt b.high_rate parts) (b.burst / (parts - b.high_rate) + b.latency) y y_is).0 in
    let same : (nat_lt 0 b.lows && nat_lt b.high_rate parts) ≡ (nat_lt 0 a.lows && nat_lt a.high_rate parts)
    = ap (λ (n : ℕ). nat_lt 0 n && nat_lt b.high_rate parts) h.lows ∙ ap (λ (n : ℕ). nat_lt 0 a.lows && nat_lt n parts) h.high_rate in
    let is : bound_in (bounds_of a) Low ≡ Some (a.burst / (parts - a.high_rate) + a.latency)
    = ap (λ c. cond c (Some (a.burst / (parts - a.high_rate) + a.latency)) None) (sym same ∙ test) in
    (x, is, bound_grows a b h Low x y is y_is)
