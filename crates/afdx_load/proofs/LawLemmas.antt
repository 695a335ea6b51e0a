-- The laws over loads.
use Rattle.std.proofs.Common.{◌≡◌, ℕ, ◌+◌, ◌-◌, ◌*◌, ◌/◌, ◌<◌, ◌≤◌, Bool, true, false, ◌&&◌, cond, List, [], ◌∷◌, get_or, length, refl, sym, ap, ◌∙◌, arith}
use Rattle.std.specs.Prelude.{◌↔◌, All, filter, sum_by, IfSome}
use Rattle.std.proofs.lemmas.Bool.{lt-ltb}
use Rattle.std.proofs.lemmas.List.Sums.{sum_by-cons, length-filter}
use Rattle.std.proofs.lemmas.List.Filters.{sum_by-filter_both}
use Rattle.std.proofs.lemmas.List.Elements.{All-filter, All-head}
use Rattle.afdx_units.specs.declared.line.Speed.{Speed}
use Rattle.afdx_units.specs.declared.line.Speed.TheVariants.{Ten, Hundred, Thousand}
use Rattle.afdx_table.specs.Link.{Link, leads_to}
use Rattle.afdx_load.specs.Load.{is_high_link, is_low_link, routed, rate_of, burst_of, time_of, Load, links_load, load_of}
use Rattle.afdx_account.specs.Policing.{parts}
use Rattle.afdx_load.specs.Bounds.{high_bound, low_bound}
use Rattle.afdx_load.specs.Accepted.{Carries}
use Rattle.afdx_load.specs.Inner.Laws.{FactorCoversOverhead, AsksWhatItsAccountGives, SumsTakeEachLinkOnce, LongestShowsLinks, HighLinksLeaveAPart, AcceptedMeansNoFault, AcceptedKeepsBounds}
use Rattle.afdx_load.proofs.RowLemmas.{IsLong, all_long}
use Rattle.afdx_load.proofs.ShareLemmas.{rate_is, burst_is, rate_above}
use Rattle.afdx_load.proofs.SumLemmas.{all_counted}
use Rattle.afdx_load.proofs.FaultLemmas.{accepted_none, none_accepted}

pub covers : FactorCoversOverhead
covers Ten = (λ size. (λ h. omega arith, λ h. omega arith), refl)
covers Hundred = (λ size. (λ h. omega arith, λ h. omega arith), refl)
covers Thousand = (λ size. (λ h. omega arith, λ h. omega arith), refl)

pub asks : AsksWhatItsAccountGives
asks speed link = (sym (rate_is speed link), sym (burst_is speed link))

sum-filter : (f : Link → ℕ) (p : Link → Bool) (links : List Link) → sum_by f (filter p links) ≡ sum_by (λ link. cond (p link) (f link) 0) links
sum-filter f p [] = refl
sum-filter f p (link ∷ links) =
    sum-filter_at f p link links (p link) ∙ ap (λ (n : ℕ). cond (p link) (f link) 0 + n) (sum-filter f p links) ∙ sym (sum_by-cons (λ (l : Link). cond (p l) (f l) 0) link links)
  where
    sum-filter_at : (f : Link → ℕ) (p : Link → Bool) (link : Link) (links : List Link) (b : Bool)
        → sum_by f (cond b (link ∷ filter p links) (filter p links)) ≡ cond b (f link) 0 + sum_by f (filter p links)
    sum-filter_at f p link links true = sum_by-cons f link (filter p links)
    sum-filter_at f p link links false = omega arith

filter-filter : (p q : Link → Bool) (links : List Link) → filter q (filter p links) ≡ filter (λ link. p link && q link) links
filter-filter p q [] = refl
filter-filter p q (link ∷ links) = filter_at p q link links (p link) ∙ ap (λ (ls : List Link). cond (p link && q link) (link ∷ ls) ls) (filter-filter p q links)
  where
    filter_at : (p q : Link → Bool) (link : Link) (links : List Link) (b : Bool)
        → filter q (cond b (link ∷ filter p links) (filter p links)) ≡ cond (b && q link) (link ∷ filter q (filter p links)) (filter q (filter p links))
    filter_at p q link links true = refl
    filter_at p q link links false = refl

high-sum : (f : Link → ℕ) (port : ℕ) (links : List Link) → sum_by f (filter is_high_link (routed port links)) ≡ sum_by (λ link. cond (leads_to port link && is_high_link link) (f link) 0) links
high-sum f port links = ap (sum_by f) (filter-filter (leads_to port) is_high_link links) ∙ sum-filter f (λ (l : Link). leads_to port l && is_high_link l) links

pub each_once : SumsTakeEachLinkOnce
unfolding links_load
each_once latency speed port links = (
  sum-filter (rate_of speed) (leads_to port) links,
  sum-filter (burst_of speed) (leads_to port) links,
  high-sum (rate_of speed) port links,
  high-sum (burst_of speed) port links,
)

time_above : (speed : Speed) (link : Link) → 0 < time_of speed link
time_above Ten link = omega arith
time_above Hundred link = omega arith
time_above Thousand link = omega arith

links_shown : (speed : Speed) (links : List Link) → (0 < (links_load speed links).largest) ↔ (0 < (links_load speed links).highs + (links_load speed links).lows)
unfolding links_load
links_shown speed [] = (λ h. h, λ h. h)
links_shown speed (link ∷ links) = (λ _. omega (arith, all_counted speed (link ∷ links)), λ _. omega (arith, time_above speed link))

pub shows_links : LongestShowsLinks
shows_links speed port links = links_shown speed (routed port links)

sum_above : (speed : Speed) (links : List Link) → All IsLong links → 0 < length links → 0 < sum_by (rate_of speed) links
sum_above speed [] long some = absurd (omega arith)
sum_above speed (link ∷ links) long some = omega (arith, sum_by-cons (rate_of speed) link links, rate_above speed link (All-head IsLong link links long))

part_left : (speed : Speed) (links : List Link) → All IsLong links → (links_load speed links).rate ≤ parts → 0 < (links_load speed links).lows → (links_load speed links).high_rate < parts
unfolding links_load
part_left speed links long rate lows =
    let low : 0 < sum_by (rate_of speed) (filter is_low_link links) =
    sum_above speed (filter is_low_link links) (All-filter is_low_link IsLong links long) (omega (arith, length-filter is_low_link links)) in
    omega (arith, low, sum_by-filter_both is_high_link is_low_link (λ _. refl) (rate_of speed) links)

pub leave_a_part : HighLinksLeaveAPart
leave_a_part c speed port well rate lows = part_left speed (routed port c.links) (All-filter (leads_to port) IsLong c.links (all_long c well)) rate lows

pub no_fault : AcceptedMeansNoFault
no_fault c = (accepted_none c.latency c.links c.ports, none_accepted c.latency c.links c.ports)

high_kept : (s : Load) (most : ℕ) → IfSome (high_bound s) (λ bound. bound ≤ most) → 0 < s.highs → (s.high_burst + parts * s.low_largest) / parts + s.latency ≤ most
high_kept s most h highs = rw (lt-ltb 0 s.highs highs) at h

low_kept : (s : Load) (most : ℕ) → IfSome (low_bound s) (λ bound. bound ≤ most) → 0 < s.lows → s.high_rate < parts → s.burst / (parts - s.high_rate) + s.latency ≤ most
low_kept s most h lows rate = rw (lt-ltb 0 s.lows lows, lt-ltb s.high_rate parts rate) at h

pub keeps_bounds : AcceptedKeepsBounds
keeps_bounds c well accepted k d within =
    let row = get_or c.ports k d in
    let s = load_of c.latency row.speed row.id c.links in
    let carries : 0 < s.highs + s.lows → Carries row s = accepted k d within in (
      λ highs. high_kept s row.max_delay (carries (omega arith)).high highs,
      λ lows. let fine : Carries row s = carries (omega arith) in
          let part : s.high_rate < parts = leave_a_part c row.speed row.id well fine.rate lows in
          (part, low_kept s row.max_delay fine.low lows part),
    )
