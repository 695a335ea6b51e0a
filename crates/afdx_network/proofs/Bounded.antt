-- A port of an accepted table has a bound for each link that leads to it.
use Rattle.std.proofs.Common.{Option, ◌≡◌, ℕ, ◌+◌, ◌-◌, ◌*◌, ◌/◌, ◌<◌, ◌≤◌, nat_lt, Bool, true, not, cond, List}
use Rattle.std.proofs.Common.{count_by, filter, Some, None, refl, ap, arith}
use Rattle.std.specs.Prelude.{Contains}
use Rattle.std.proofs.lemmas.Bool.{and_from, lt-ltb}
use Rattle.std.proofs.lemmas.List.Elements.{All-contains}
use Rattle.std.proofs.lemmas.List.Sums.{length-filter}
use Rattle.afdx_units.specs.declared.line.Priority.{Priority}
use Rattle.afdx_units.specs.declared.line.Priority.TheVariants.{High, Low}
use Rattle.afdx_units.specs.Line.{is_high}
use Rattle.afdx_table.specs.declared.rows.PortRow.{PortRow}
use Rattle.afdx_table.specs.Link.{Link, leads_to}
use Rattle.afdx_table.specs.Content.{Content}
use Rattle.afdx_table.specs.WellFormed.{IsWellFormed}
use Rattle.afdx_load.specs.Load.{Load, is_high_link, is_low_link, routed, links_load, load_of}
use Rattle.afdx_account.specs.Policing.{parts}
use Rattle.afdx_load.specs.Bounds.{high_bound, low_bound}
use Rattle.afdx_load.specs.Accepted.{Carries, IsAccepted}
use Rattle.afdx_load.specs.Inner.Laws.{AcceptedKeepsBounds}
use Rattle.afdx_grouping.specs.Groups.{lesser_load}
use Rattle.afdx_isolation.specs.Table.{bound_of}
use Rattle.afdx_network.proofs.Lists.{all_tested}
use Rattle.afdx_network.proofs.Found.{all_by, of_all}

counted : (q : Link → Bool) (links : List Link) (l : Link) → Contains links l → q l ≡ true → 0 < count_by q links
counted q links l among is =
    let place = (of_all (λ m. q m ≡ true → Contains (filter q links) m) links l (all_tested _ q links (all_by (Contains (filter q links)) (filter q links) (λ m h. h))) among is).1 in
    let same = length-filter q links in
    omega (arith, place, same)

highs : (latency : ℕ) (t : Content) (p : PortRow) (l : Link) → Contains (routed p.id t.links) l → is_high_link l ≡ true → 0 < (load_of latency p.speed p.id t.links).highs
unfolding links_load
highs latency t p l among high = counted is_high_link (routed p.id t.links) l among high

lows : (latency : ℕ) (t : Content) (p : PortRow) (l : Link) → Contains (routed p.id t.links) l → is_low_link l ≡ true → 0 < (load_of latency p.speed p.id t.links).lows
unfolding links_load
lows latency t p l among low = counted is_low_link (routed p.id t.links) l among low

abbrev load_at : Content → PortRow → Load
load_at t p = load_of t.latency p.speed p.id t.links

some_high : (s : Load) → 0 < s.highs → (bound : ℕ) × (high_bound s ≡ Some bound)
some_high s there =
    let bound = (s.high_burst + parts * s.low_largest) / parts + s.latency in
    (bound, ap (λ b. cond b (Some bound) None) (lt-ltb 0 s.highs there))

some_low : (s : Load) → 0 < s.lows → s.high_rate < parts → (bound : ℕ) × (low_bound s ≡ Some bound)
some_low s there part =
    let bound = s.burst / (parts - s.high_rate) + s.latency in
    (bound, ap (λ b. cond b (Some bound) None) (and_from (nat_lt 0 s.lows) (nat_lt s.high_rate parts) (lt-ltb 0 s.lows there) (lt-ltb s.high_rate parts part)))

a_part_is_left : AcceptedKeepsBounds → (t : Content) (p : PortRow) → IsWellFormed t → IsAccepted t → Contains t.ports p → 0 < (load_at t p).lows → (load_at t p).high_rate < parts
a_part_is_left keeps t p formed accepted among there =
    let bounds = All-contains (λ (row : PortRow). let s = load_of t.latency row.speed row.id t.links in
    (0 < s.highs → (s.high_burst + parts * s.low_largest) / parts + t.latency ≤ row.max_delay)
    × (0 < s.lows → (s.high_rate < parts) × (s.burst / (parts - s.high_rate) + t.latency ≤ row.max_delay))) t.ports p (keeps t formed accepted) among in
    (bounds.1 there).0

pub has_bound : AcceptedKeepsBounds → (d : ℕ) (roundings : ℕ → Option ℕ) (t : Content) (p : PortRow) (l : Link) → IsWellFormed t → IsAccepted t → Contains t.ports p → Contains t.links l
    → leads_to p.id l ≡ true
    → (bound : ℕ) × (bound_of (lesser_load d roundings t p) l.priority ≡ Some bound)
has_bound keeps d roundings t p l formed accepted among known leads = by l.priority refl where
  here : Contains (routed p.id t.links) l
  here = of_all (λ m. leads_to p.id m ≡ true → Contains (routed p.id t.links) m) t.links l
      (all_tested _ (leads_to p.id) t.links (all_by (Contains (routed p.id t.links)) (routed p.id t.links) (λ m h. h))) known leads

  by : (priority : Priority) → l.priority ≡ priority → (bound : ℕ) × (bound_of (lesser_load d roundings t p) priority ≡ Some bound)
  by High is = some_high (lesser_load d roundings t p) (highs t.latency t p l here (ap is_high is))
  by Low is =
      let there = lows t.latency t p l here (ap (λ priority. not (is_high priority)) is) in
      some_low (lesser_load d roundings t p) there (a_part_is_left keeps t p formed accepted among there)

-- its links ask for no more than its line
pub rate_within : (t : Content) (p : PortRow) (l : Link) → IsAccepted t → Contains t.ports p → Contains t.links l → leads_to p.id l ≡ true → (load_at t p).rate ≤ parts
rate_within t p l accepted among known leads = by l.priority refl where
  here : Contains (routed p.id t.links) l
  here = of_all (λ m. leads_to p.id m ≡ true → Contains (routed p.id t.links) m) t.links l
      (all_tested _ (leads_to p.id) t.links (all_by (Contains (routed p.id t.links)) (routed p.id t.links) (λ m h. h))) known leads

  carries : 0 < (load_at t p).highs + (load_at t p).lows → (load_at t p).rate ≤ parts
  carries some = (All-contains (λ (row : PortRow). let s = load_of t.latency row.speed row.id t.links in 0 < s.highs + s.lows → Carries row s) t.ports p accepted among some).rate

  by : (priority : Priority) → l.priority ≡ priority → (load_at t p).rate ≤ parts
  by High is = let some = highs t.latency t p l here (ap is_high is) in carries (omega (arith, some))
  by Low is = let some = lows t.latency t p l here (ap (λ priority. not (is_high priority)) is) in carries (omega (arith, some))
