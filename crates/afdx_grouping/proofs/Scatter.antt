-- Latencies that differ: curves in longer windows, and tables that are accepted with them.
use Rattle.std.proofs.Common.{◌≡◌, ◌↔◌, ℕ, ◌+◌, ◌-◌, ◌*◌, ◌/◌, ◌<◌, ◌≤◌, ◌&&◌, Bool, true, false, cond, not, nat_lt, Some, None, Option, List, [], ◌∷◌, refl, ap, sym, subst, ◌∙◌, arith}
use Rattle.std.specs.Prelude.{option_map, min, All, IfSome, count_by}
use Rattle.std.specs.Option.{option_or}
use Rattle.std.proofs.Math.Nat.{div-mul-le_self, mul-le-mul_left}
use Rattle.std.proofs.lemmas.Nat.{le-div}
use Rattle.std.proofs.lemmas.Bool.Decides.{nat_tests}
use Rattle.std.proofs.lemmas.List.Elements.{All-nil, All-cons, All-head, All-tail, All-weaker}
use Rattle.std.proofs.lemmas.List.Sums.{sum_by-cons}
use Rattle.afdx_units.specs.declared.line.Speed.{Speed}
use Rattle.afdx_account.specs.Policing.{parts}
use Rattle.afdx_serial.specs.Curves.{Straight, Curve, lesser_at, curve_at}
use Rattle.afdx_table.specs.declared.rows.PortRow.{PortRow}
use Rattle.afdx_table.specs.Link.{Link}
use Rattle.afdx_table.specs.Content.{Content}
use Rattle.afdx_load.specs.Load.{Load, is_high_link, is_low_link, routed, links_load, behind, load_of}
use Rattle.afdx_load.specs.Bounds.{byte_time}
use Rattle.afdx_load.specs.Accepted.{Carries, IsAccepted, fault_at}
use Rattle.afdx_load.specs.Inner.Laws.{CarriesWithoutAFault}
use Rattle.afdx_load.specs.declared.fault.LoadFault.{LoadFault}
use Rattle.afdx_grouping.specs.Scatter.{scattered, later_line, later, IsAcceptedWith, first_scattered_fault}

line_longer : (d burst rate window : ℕ) → burst + rate * d + rate * window ≡ burst + rate * (window + d)
line_longer d burst rate window = omega arith

pub longer_window : (d : ℕ) (c : Curve) (window : ℕ) → curve_at (later d c) window ≡ curve_at c (window + d)
longer_window d c window = by c.brought where
  both : (p q r s : ℕ) → p ≡ r → q ≡ s → min p q ≡ min r s
  both p q r s one two = omega (arith, one, two)

  by : (b : Option Straight) → lesser_at (later_line d c.paid) (option_map (later_line d) b) window ≡ lesser_at c.paid b (window + d)
  by None = line_longer d c.paid.burst c.paid.rate window
  by (Some b) = both _ _ _ _ (line_longer d c.paid.burst c.paid.rate window) (line_longer d b.burst b.rate window)

pub not_scattered : (load : Load) → scattered 0 load ≡ load
not_scattered load =
    let all : load.burst + load.rate * 0 ≡ load.burst = omega arith in
    let high : load.high_burst + load.high_rate * 0 ≡ load.high_burst = omega arith in
    λ i. record load { burst = all i; high_burst = high i }

-- ---- acceptance

carried : (d : ℕ) (row : PortRow) (load : Load) → d ≡ 0 → Carries row load → Carries row (scattered d load)
carried d row load zero h = subst (Carries row) (sym (ap (λ (n : ℕ). scattered n load) zero ∙ not_scattered load)) h

pub none_scatters : (c : Content) → IsAcceptedWith 0 c ↔ IsAccepted c
none_scatters c = (
  All-weaker (λ (row : PortRow). With 0 row) (λ (row : PortRow). Without row) (λ row h some. subst (Carries row) (not_scattered (at row)) (h some)) c.ports,
  All-weaker (λ (row : PortRow). Without row) (λ (row : PortRow). With 0 row) (λ row h some. carried 0 row (at row) refl (h some)) c.ports,
) where
  at : PortRow → Load
  at row = load_of c.latency row.speed row.id c.links

  With : ℕ → PortRow → Type 0
  With d row = 0 < (at row).highs + (at row).lows → Carries row (scattered d (at row))

  Without : PortRow → Type 0
  Without row = 0 < (at row).highs + (at row).lows → Carries row (at row)

pub quotient_less : (m n k : ℕ) → m ≤ n → 0 < k → m / k ≤ n / k
quotient_less m n k le some = le-div (m / k) n k some (let down = div-mul-le_self m k in omega (arith, down, le))

sooner : (test : Bool) (m n k latency most : ℕ) → m ≤ n → (test ≡ true → 0 < k) → IfSome (cond test (Some (n / k + latency)) None) (λ bound. bound ≤ most)
    → IfSome (cond test (Some (m / k + latency)) None) (λ bound. bound ≤ most)
sooner true m n k latency most le some h = let quotient = quotient_less m n k le (some refl) in omega (arith, h, quotient)
sooner false m n k latency most le some h = tt

less_carried : (d e : ℕ) → d ≤ e → (row : PortRow) (load : Load) → Carries row (scattered e load) → Carries row (scattered d load)
less_carried d e le row load h =
    let all = mul-le-mul_left load.rate le in
    let high = mul-le-mul_left load.high_rate le in
    record {
      rate = h.rate;
      buffer = less (load.rate * d) (load.rate * e) load.burst (parts * load.largest) (byte_time row.speed row.buffer) all h.buffer;
      high = sooner (nat_lt 0 load.highs) (load.high_burst + load.high_rate * d + parts * load.low_largest)
          (load.high_burst + load.high_rate * e + parts * load.low_largest) parts load.latency row.max_delay
          (more (load.high_rate * d) (load.high_rate * e) load.high_burst (parts * load.low_largest) high) (λ _. omega arith) h.high;
      low = sooner (nat_lt 0 load.lows && nat_lt load.high_rate parts) (load.burst + load.rate * d) (load.burst + load.rate * e) (parts - load.high_rate) load.latency row.max_delay
          (plus load.burst (load.rate * d) (load.rate * e) all) (leaves (nat_lt 0 load.lows) load.high_rate) h.low;
    } where
      less : (x y b l room : ℕ) → x ≤ y → b + y + l ≤ room → b + x + l ≤ room
      less x y b l room one two = omega (arith, one, two)

      more : (x y b l : ℕ) → x ≤ y → b + x + l ≤ b + y + l
      more x y b l one = omega (arith, one)

      plus : (b x y : ℕ) → x ≤ y → b + x ≤ b + y
      plus b x y one = omega (arith, one)

      leaves : (some : Bool) (rate : ℕ) → (some && nat_lt rate parts) ≡ true → 0 < parts - rate
      leaves true rate h = let test : nat_lt rate parts ≡ true = h in grind (arith, nat_tests)
      leaves false rate h = absurd cc

pub less_accepted : (d e : ℕ) (c : Content) → d ≤ e → IsAcceptedWith e c → IsAcceptedWith d c
less_accepted d e c le accepted =
    All-weaker (λ (row : PortRow). With e row) (λ (row : PortRow). With d row) (λ row h some. less_carried d e le row (at row) (h some)) c.ports accepted where
      at : PortRow → Load
      at row = load_of c.latency row.speed row.id c.links

      With : ℕ → PortRow → Type 0
      With n row = 0 < (at row).highs + (at row).lows → Carries row (scattered n (at row))

-- ---- faults

or_none : (a b : Option LoadFault) → option_or a b ≡ None → (a ≡ None) × (b ≡ None)
or_none None b h = (refl, h)
or_none (Some x) b h = absurd cc

none_or : (a b : Option LoadFault) → a ≡ None → b ≡ None → option_or a b ≡ None
none_or a b h k = rw h k

-- a port without links carries its load
empty_carried : (d latency : ℕ) (speed : Speed) (row : PortRow) → Carries row (scattered d (behind latency (links_load speed [])))
unfolding links_load
empty_carried d latency speed row = record { rate = omega arith; buffer = omega arith; high = tt; low = tt }

one_more : (p : Link → Bool) (l : Link) (ls : List Link) → count_by p (l ∷ ls) ≡ cond (p l) 1 0 + count_by p ls
one_more p l ls = sum_by-cons (λ m. cond (p m) 1 0) l ls

some_counted : (l : Link) (b : Bool) (h k : ℕ) → is_high_link l ≡ b → 0 < cond (is_high_link l) 1 0 + h + (cond (is_low_link l) 1 0 + k)
some_counted l true h k is = let one : ◌≡◌ {A = ℕ} (cond (is_high_link l) 1 0) 1 = ap (λ (b : Bool). cond b 1 0) is in omega (arith, one)
some_counted l false h k is = let one : ◌≡◌ {A = ℕ} (cond (is_low_link l) 1 0) 1 = ap (λ (b : Bool). cond (not b) 1 0) is in omega (arith, one)

links_counted : (speed : Speed) (l : Link) (ls : List Link) → 0 < (links_load speed (l ∷ ls)).highs + (links_load speed (l ∷ ls)).lows
unfolding links_load
links_counted speed l ls = some _ _ _ _ _ _ (one_more is_high_link l ls) (one_more is_low_link l ls) (some_counted l (is_high_link l) (count_by is_high_link ls) (count_by is_low_link ls) refl) where
  some : (x y a b h k : ℕ) → x ≡ a + h → y ≡ b + k → 0 < a + h + (b + k) → 0 < x + y
  some x y a b h k p q r = omega (arith, p, q, r)

with_links : (d latency : ℕ) (speed : Speed) (row : PortRow) (links : List Link)
    → (0 < (links_load speed links).highs + (links_load speed links).lows → Carries row (scattered d (behind latency (links_load speed links))))
    → Carries row (scattered d (behind latency (links_load speed links)))
with_links d latency speed row [] h = empty_carried d latency speed row
with_links d latency speed row (l ∷ ls) h = h (links_counted speed l ls)

abbrev pub CarriesWith : ℕ → ℕ → List Link → PortRow → Type 0
CarriesWith d latency links row = let load = load_of latency row.speed row.id links in 0 < load.highs + load.lows → Carries row (scattered d load)

pub accepted_none : CarriesWithoutAFault → (d latency : ℕ) (links : List Link) (rows : List PortRow) → All (CarriesWith d latency links) rows → first_scattered_fault d latency links rows ≡ None
accepted_none fault d latency links [] h = refl
accepted_none fault d latency links (row ∷ rows) h =
    none_or _ _
    ((fault row (scattered d (load_of latency row.speed row.id links))).0 (with_links d latency row.speed row (routed row.id links) (All-head (CarriesWith d latency links) row rows h)))
    (accepted_none fault d latency links rows (All-tail (CarriesWith d latency links) row rows h))

pub none_accepted : CarriesWithoutAFault → (d latency : ℕ) (links : List Link) (rows : List PortRow) → first_scattered_fault d latency links rows ≡ None → All (CarriesWith d latency links) rows
none_accepted fault d latency links [] h = All-nil (CarriesWith d latency links)
none_accepted fault d latency links (row ∷ rows) h =
    let both = or_none (fault_at row (scattered d (load_of latency row.speed row.id links))) (first_scattered_fault d latency links rows) h in
    All-cons (CarriesWith d latency links) row rows (λ _. (fault row (scattered d (load_of latency row.speed row.id links))).1 both.0) (none_accepted fault d latency links rows both.1)
