-- An accepted table has a bound for each link at each of its ports.
use Rattle.std.proofs.Common.{◌≡◌, ℕ, zero, suc, ◌+◌, ◌-◌, ◌*◌, ◌/◌, ◌<◌, ◌≤◌, nat_lt, Bool, true, false, not, cond, List, [], ◌∷◌, filter, Option, Some, None, refl, sym, ap, subst, ◌∙◌, arith}
use Rattle.std.specs.Prelude.{◌&&◌, IfSome, Contains, count_by, slice_get}
use Rattle.std.proofs.lemmas.Bool.{lt-ltb}
use Rattle.std.proofs.lemmas.List.Elements.{All-contains}
use Rattle.std.proofs.lemmas.List.Sums.{sum_by-cons}
use Rattle.std.proofs.lemmas.Option.{same_Some}
use Rattle.afdx_units.specs.declared.line.Priority.{Priority}
use Rattle.afdx_units.specs.declared.line.Priority.TheVariants.{High, Low}
use Rattle.afdx_units.specs.declared.line.Speed.{Speed}
use Rattle.afdx_units.specs.Line.{is_high}
use Rattle.afdx_account.specs.Policing.{parts}
use Rattle.afdx_table.specs.declared.rows.PortRow.{PortRow}
use Rattle.afdx_table.specs.Link.{Link, leads_to}
use Rattle.afdx_table.specs.Content.{Content}
use Rattle.afdx_table.specs.WellFormed.{IsWellFormed}
use Rattle.afdx_load.specs.Load.{Load, is_high_link, is_low_link, routed, links_load, load_of}
use Rattle.afdx_load.specs.Accepted.{Carries}
use Rattle.afdx_load.specs.Inner.Laws.{HighLinksLeaveAPart}
use Rattle.afdx_isolation.specs.Table.{bound_of}
use Rattle.afdx_grouping.specs.Scatter.{scattered, IsAcceptedWith}
use Rattle.afdx_grouping.proofs.Scatter.{CarriesWith}

-- ---- a link that leads to the port is counted there

count_some : (test : Link → Bool) (ls : List Link) (k : ℕ) (l : Link) → slice_get ls k ≡ Some l → test l ≡ true → 0 < count_by test ls
count_some test [] k l at is = absurd (let never = at in cc)
count_some test (x ∷ ls) zero l at is =
    let more : ◌≡◌ {A = ℕ} (count_by test (x ∷ ls)) (cond (test x) 1 0 + count_by test ls) = sum_by-cons (λ m. cond (test m) 1 0) x ls in
    let one : ◌≡◌ {A = ℕ} (cond (test x) 1 0) 1 = ap (λ (b : Bool). cond b 1 0) (ap test (same_Some x l at) ∙ is) in
    omega (arith, more, one)
count_some test (x ∷ ls) (suc k) l at is =
    let more : ◌≡◌ {A = ℕ} (count_by test (x ∷ ls)) (cond (test x) 1 0 + count_by test ls) = sum_by-cons (λ m. cond (test m) 1 0) x ls in
    let rest = count_some test ls k l at is in
    omega (arith, more, rest)

pub filter_there : (test : Link → Bool) (ls : List Link) (k : ℕ) (l : Link) → slice_get ls k ≡ Some l → test l ≡ true → (j : ℕ) × (slice_get (filter test ls) j ≡ Some l)
filter_there test [] k l at is = absurd (let never = at in cc)
filter_there test (x ∷ ls) zero l at is =
    (0, ap (λ (b : Bool). slice_get (cond b (x ∷ filter test ls) (filter test ls)) 0) (ap test (same_Some x l at) ∙ is) ∙ at)
filter_there test (x ∷ ls) (suc k) l at is = by (test x) (filter_there test ls k l at is) where
  by : (b : Bool) → (j : ℕ) × (slice_get (filter test ls) j ≡ Some l) → (j : ℕ) × (slice_get (cond b (x ∷ filter test ls) (filter test ls)) j ≡ Some l)
  by true later = (suc later.0, later.1)
  by false later = later

high_counted : (speed : Speed) (links : List Link) → (links_load speed links).highs ≡ count_by is_high_link links
unfolding links_load
high_counted speed links = refl

low_counted : (speed : Speed) (links : List Link) → (links_load speed links).lows ≡ count_by is_low_link links
unfolding links_load
low_counted speed links = refl

some_high : (speed : Speed) (port : ℕ) (ls : List Link) (k : ℕ) (l : Link) → slice_get ls k ≡ Some l → leads_to port l ≡ true → l.priority ≡ High
    → 0 < (links_load speed (routed port ls)).highs
some_high speed port ls k l at leads high =
    let there = filter_there (leads_to port) ls k l at leads in
    subst (λ (n : ℕ). 0 < n) (sym (high_counted speed (routed port ls))) (count_some is_high_link (routed port ls) there.0 l there.1 (ap (λ (p : Priority). is_high p) high))

some_low : (speed : Speed) (port : ℕ) (ls : List Link) (k : ℕ) (l : Link) → slice_get ls k ≡ Some l → leads_to port l ≡ true → l.priority ≡ Low
    → 0 < (links_load speed (routed port ls)).lows
some_low speed port ls k l at leads low =
    let there = filter_there (leads_to port) ls k l at leads in
    subst (λ (n : ℕ). 0 < n) (sym (low_counted speed (routed port ls))) (count_some is_low_link (routed port ls) there.0 l there.1 (ap (λ (p : Priority). not (is_high p)) low))

-- ---- so its priority has a bound

-- a bound of a load, no more than the greatest delay of the port
pub record IsBounded (load : Load) (priority : Priority) (most : ℕ) : Type 0 where
  pub bound : ℕ
  pub is : bound_of load priority ≡ Some bound
  pub within : bound ≤ most

given : (v : Bool) (bound : ℕ) → v ≡ true → cond v (Some bound) None ≡ Some bound
given v bound is = ap (λ (b : Bool). cond b (Some bound) None) is

given_both : (v w : Bool) (bound : ℕ) → v ≡ true → w ≡ true → cond (v && w) (Some bound) None ≡ Some bound
given_both v w bound one other = ap (λ (b : Bool). cond (b && w) (Some bound) None) one ∙ ap (λ (b : Bool). cond b (Some bound) None) other

high_bounded : (row : PortRow) (load : Load) → Carries row load → 0 < load.highs → IsBounded load High row.max_delay
high_bounded row load carries some =
    let is = given (nat_lt 0 load.highs) ((load.high_burst + parts * load.low_largest) / parts + load.latency) (lt-ltb 0 load.highs some) in
    record { bound = (load.high_burst + parts * load.low_largest) / parts + load.latency; is = is; within = subst (λ (o : Option ℕ). IfSome o (λ b. b ≤ row.max_delay)) is carries.high }

low_bounded : (row : PortRow) (load : Load) → Carries row load → 0 < load.lows → load.high_rate < parts → IsBounded load Low row.max_delay
low_bounded row load carries some part =
    let is = given_both (nat_lt 0 load.lows) (nat_lt load.high_rate parts) (load.burst / (parts - load.high_rate) + load.latency) (lt-ltb 0 load.lows some) (lt-ltb load.high_rate parts part) in
    record { bound = load.burst / (parts - load.high_rate) + load.latency; is = is; within = subst (λ (o : Option ℕ). IfSome o (λ b. b ≤ row.max_delay)) is carries.low }

pub bounded : HighLinksLeaveAPart → (t : Content) (d : ℕ) → IsWellFormed t → IsAcceptedWith d t → (p : PortRow) → Contains t.ports p → (k : ℕ) (l : Link) → slice_get t.links k ≡ Some l
    → leads_to p.id l ≡ true → IsBounded (scattered d (load_of t.latency p.speed p.id t.links)) l.priority p.max_delay
bounded part t d formed accepted p among k l at leads = by l.priority refl where
  carries : 0 < (load_of t.latency p.speed p.id t.links).highs + (load_of t.latency p.speed p.id t.links).lows → Carries p (scattered d (load_of t.latency p.speed p.id t.links))
  carries = All-contains (CarriesWith d t.latency t.links) t.ports p accepted among

  by : (priority : Priority) → l.priority ≡ priority → IsBounded (scattered d (load_of t.latency p.speed p.id t.links)) priority p.max_delay
  by High is =
      let some : 0 < (load_of t.latency p.speed p.id t.links).highs = some_high p.speed p.id t.links k l at leads is in
      high_bounded p (scattered d (load_of t.latency p.speed p.id t.links)) (carries (omega (arith, some))) some
  by Low is =
      let some : 0 < (load_of t.latency p.speed p.id t.links).lows = some_low p.speed p.id t.links k l at leads is in
      let carried = carries (omega (arith, some)) in
      low_bounded p (scattered d (load_of t.latency p.speed p.id t.links)) carried some (part t p.speed p.id formed carried.rate some)
