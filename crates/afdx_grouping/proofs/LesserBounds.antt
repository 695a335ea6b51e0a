-- Lesser curves need lesser bursts, and lesser bursts give lesser bounds.
use Rattle.std.proofs.Common.{◌≡◌, ℕ, ◌+◌, ◌-◌, ◌*◌, ◌/◌, ◌<◌, ◌≤◌, ◌&&◌, Bool, true, false, cond, nat_lt, Some, None, List, [], ◌∷◌, map, refl, ap, ◌∙◌, arith}
use Rattle.std.specs.Prelude.{Option, option_map, min, All, sum_by}
use Rattle.std.specs.List.{AllZip}
use Rattle.std.proofs.Math.Nat.{mul-le-mul_left}
use Rattle.std.proofs.lemmas.Bool.Decides.{nat_tests}
use Rattle.std.proofs.lemmas.List.Elements.{All-head, All-tail}
use Rattle.std.proofs.lemmas.List.Sums.{sum_by-cons}
use Rattle.std.proofs.lemmas.Option.{same_Some}
use Rattle.afdx_account.specs.Policing.{parts}
use Rattle.afdx_serial.specs.Curves.{Straight, Curve, lesser_at, curve_at, BurstsAreEnough}
use Rattle.afdx_serial.specs.Serial.{KnownLine}
use Rattle.afdx_table.specs.declared.rows.PortRow.{PortRow}
use Rattle.afdx_table.specs.Content.{Content}
use Rattle.afdx_table.specs.WellFormed.{IsWellFormed}
use Rattle.afdx_load.specs.Load.{Load, load_of}
use Rattle.afdx_load.specs.Bounds.{bounds_of}
use Rattle.afdx_load.specs.declared.delays.Bounds.{Bounds}
use Rattle.afdx_grouping.specs.Burst.{paid_rate, least_burst}
use Rattle.afdx_grouping.specs.Groups.{all_curve, high_curve, group_at, line_at, all_curves, high_curves, lesser_load, lesser_bounds}
use Rattle.afdx_grouping.specs.Scatter.{scattered, later_line, later}
use Rattle.afdx_grouping.specs.Laws.{IsBelow, IsNoMore, AreNoMore}
use Rattle.afdx_grouping.proofs.Scatter.{quotient_less}
use Rattle.afdx_grouping.proofs.Turning.{bursts_least, none_more}
use Rattle.afdx_grouping.proofs.Partition.{paid_once}

below_all : (curves greater : List Curve) → AllZip IsBelow curves greater → (window : ℕ) → sum_by (λ c. curve_at c window) curves ≤ sum_by (λ c. curve_at c window) greater
below_all [] [] h window = omega arith
below_all [] (d ∷ greater) h window = absurd h
below_all (c ∷ curves) [] h window = absurd h
below_all (c ∷ curves) (d ∷ greater) h window =
    adds _ _ _ _ _ _ (sum_by-cons (λ c. curve_at c window) c curves) (sum_by-cons (λ c. curve_at c window) d greater) (h.0 window) (below_all curves greater h.1 window) where
      adds : (a b xs ys sa sb : ℕ) → sa ≡ a + xs → sb ≡ b + ys → a ≤ b → xs ≤ ys → sa ≤ sb
      adds a b xs ys sa sb p q h k = omega (arith, p, q, h, k)

pub curves_need_less : BurstsAreEnough → (n : ℕ) (curves greater : List Curve) → paid_rate curves ≤ n → paid_rate greater ≤ n → AllZip IsBelow curves greater
    → least_burst n curves ≤ least_burst n greater
curves_need_less paid n curves greater slow slow' below =
    (bursts_least paid n curves slow).least (least_burst n greater) (λ window.
    through _ _ _ (below_all curves greater below window) ((bursts_least paid n greater slow').enough window)) where
      through : (a b c : ℕ) → a ≤ b → b ≤ c → a ≤ c
      through a b c h k = omega (arith, h, k)

-- ---- bounds

sooner : (test : Bool) (m n k latency : ℕ) → m ≤ n → (test ≡ true → 0 < k) → IsNoMore (cond test (Some (m / k + latency)) None) (cond test (Some (n / k + latency)) None)
sooner true m n k latency le some y is =
    let same : n / k + latency ≡ y = same_Some (n / k + latency) y is in
    let quotient = quotient_less m n k le (some refl) in
    (m / k + latency, refl, omega (arith, same, quotient))
sooner false m n k latency le some y is = absurd cc

-- the bounds of loads of which one asks for no more at once
sooner_all : (load : Load) (burst most high high_most : ℕ) → burst ≤ most → high ≤ high_most
    → AreNoMore (record load { burst = burst; high_burst = high }) (record load { burst = most; high_burst = high_most })
sooner_all load burst most high high_most all highs = record {
  high = sooner (nat_lt 0 load.highs) (high + parts * load.low_largest) (high_most + parts * load.low_largest) parts load.latency (more _ _ _ highs) (λ _. omega arith);
  low = sooner (nat_lt 0 load.lows && nat_lt load.high_rate parts) burst most (parts - load.high_rate) load.latency all (leaves (nat_lt 0 load.lows) load.high_rate);
} where
  more : (a b k : ℕ) → a ≤ b → a + k ≤ b + k
  more a b k h = omega (arith, h)

  leaves : (some : Bool) (rate : ℕ) → (some && nat_lt rate parts) ≡ true → 0 < parts - rate
  leaves true rate h = let test : nat_lt rate parts ≡ true = h in grind (arith, nat_tests)
  leaves false rate h = absurd cc

through : (a b c : ℕ) → a ≤ b → b ≤ c → a ≤ c
through a b c h k = omega (arith, h, k)

pub bounds_no_more : (scatter : ℕ) (t : Content) (rounding_at : ℕ → Option ℕ) (to : PortRow) → IsWellFormed t
    → AreNoMore (lesser_load scatter rounding_at t to) (scattered scatter (load_of t.latency to.speed to.id t.links))
bounds_no_more scatter t rounding_at to formed =
    let once = paid_once scatter t rounding_at to formed in
    let load : Load = load_of t.latency to.speed to.id t.links in
    sooner_all load _ (load.burst + load.rate * scatter) _ (load.high_burst + load.high_rate * scatter)
    (through _ _ _ (none_more parts (all_curves scatter t rounding_at to)) once.burst)
    (through _ _ _ (none_more parts (high_curves scatter t rounding_at to)) once.high_burst)

-- ---- less scatter

line_later : (d e burst rate window : ℕ) → d ≤ e → burst + rate * d + rate * window ≤ burst + rate * e + rate * window
line_later d e burst rate window le = let step = mul-le-mul_left rate le in omega (arith, step)

later_below : (d e : ℕ) → d ≤ e → (c : Curve) → IsBelow (later d c) (later e c)
later_below d e le c window = by c.brought where
  both : (p q r s : ℕ) → p ≤ r → q ≤ s → min p q ≤ min r s
  both p q r s one two = omega (arith, one, two)

  by : (b : Option Straight) → lesser_at (later_line d c.paid) (option_map (later_line d) b) window ≤ lesser_at (later_line e c.paid) (option_map (later_line e) b) window
  by None = line_later d e c.paid.burst c.paid.rate window le
  by (Some b) = both _ _ _ _ (line_later d e c.paid.burst c.paid.rate window le) (line_later d e b.burst b.rate window le)

all_below : (d e : ℕ) → d ≤ e → (f : PortRow → Curve) (ports : List PortRow) → AllZip IsBelow (map (λ q. later d (f q)) ports) (map (λ q. later e (f q)) ports)
all_below d e le f [] = tt
all_below d e le f (q ∷ ports) = (later_below d e le (f q), all_below d e le f ports)

pub less_scatter : BurstsAreEnough → (scatter more : ℕ) (t : Content) (rounding_at : ℕ → Option ℕ) (to : PortRow) → IsWellFormed t → scatter ≤ more
    → (load_of t.latency to.speed to.id t.links).rate ≤ parts → AreNoMore (lesser_load scatter rounding_at t to) (lesser_load more rounding_at t to)
less_scatter paid scatter more t rounding_at to formed le rate =
    let here = paid_once scatter t rounding_at to formed in
    let there = paid_once more t rounding_at to formed in
    sooner_all (load_of t.latency to.speed to.id t.links) _ _ _ _
    (curves_need_less paid parts (all_curves scatter t rounding_at to) (all_curves more t rounding_at to) (through _ _ _ here.rate rate) (through _ _ _ there.rate rate)
    (all_below scatter more le (λ q. all_curve to.speed (line_at rounding_at q) (group_at t.links q.id to)) t.ports))
    (curves_need_less paid parts (high_curves scatter t rounding_at to) (high_curves more t rounding_at to) (through _ _ _ here.high_rate rate) (through _ _ _ there.high_rate rate)
    (all_below scatter more le (λ q. high_curve to.speed (line_at rounding_at q) (group_at t.links q.id to)) t.ports))

-- ---- the ports that count

-- what is made of a port by what is said of its line
each_line : {X : Type 0} (f : PortRow → Option KnownLine → X) (rounding_at other : ℕ → Option ℕ) (ports : List PortRow) → All (λ p. rounding_at p.id ≡ other p.id) ports
    → map (λ q. f q (line_at rounding_at q)) ports ≡ map (λ q. f q (line_at other q)) ports
each_line f rounding_at other [] same = refl
each_line f rounding_at other (q ∷ ports) same =
    let here : line_at rounding_at q ≡ line_at other q = ap (option_map (λ (rounding : ℕ). let line : KnownLine = record { speed = q.speed; rounding = rounding } in line))
    (All-head (λ p. rounding_at p.id ≡ other p.id) q ports same) in
    let rest = each_line f rounding_at other ports (All-tail (λ p. rounding_at p.id ≡ other p.id) q ports same) in
    ap (λ line. f q line ∷ map (λ r. f r (line_at rounding_at r)) ports) here ∙ ap (λ more. f q (line_at other q) ∷ more) rest

abbrev bounded : Content → PortRow → List Curve → List Curve → Bounds
bounded t to all high =
    let load : Load = record (load_of t.latency to.speed to.id t.links) { burst = least_burst parts all; high_burst = least_burst parts high } in
    bounds_of load

pub only_ports : (scatter : ℕ) (t : Content) (rounding_at other : ℕ → Option ℕ) → All (λ p. rounding_at p.id ≡ other p.id) t.ports → lesser_bounds scatter rounding_at t ≡ lesser_bounds scatter other t
only_ports scatter t rounding_at other same = each t.ports where
  at : (to : PortRow) → bounds_of (lesser_load scatter rounding_at t to) ≡ bounds_of (lesser_load scatter other t to)
  at to =
      ap (λ all. bounded t to all (high_curves scatter t rounding_at to)) (each_line (λ q line. later scatter (all_curve to.speed line (group_at t.links q.id to))) rounding_at other t.ports same)
      ∙ ap (λ high. bounded t to (all_curves scatter t other to) high) (each_line (λ q line. later scatter (high_curve to.speed line (group_at t.links q.id to))) rounding_at other t.ports same)

  each : (ports : List PortRow) → map (λ to. bounds_of (lesser_load scatter rounding_at t to)) ports ≡ map (λ to. bounds_of (lesser_load scatter other t to)) ports
  each [] = refl
  each (to ∷ ports) =
      ap (λ bounds. bounds ∷ map (λ to. bounds_of (lesser_load scatter rounding_at t to)) ports) (at to) ∙ ap (λ more. bounds_of (lesser_load scatter other t to) ∷ more) (each ports)
