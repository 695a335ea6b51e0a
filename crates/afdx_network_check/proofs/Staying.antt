-- A lesser bound is there exactly where the whole one is, and no greater: so are sums of them.
use Rattle.std.proofs.Common.{Option, ◌≡◌, ℕ, ◌+◌, ◌-◌, ◌*◌, ◌/◌, ◌≤◌, ◌&&◌, ◌∷◌, [], List, cond, nat_lt, Some, None, option_and_then, refl, ap, sym, ◌∙◌, arith}
use Rattle.std.specs.Prelude.{All}
use Rattle.std.proofs.lemmas.Option.{cond_some, same_Some}
use Rattle.afdx_units.specs.declared.line.Priority.{Priority}
use Rattle.afdx_units.specs.declared.line.Priority.TheVariants.{High, Low}
use Rattle.afdx_account.specs.Policing.{parts}
use Rattle.afdx_table.specs.declared.rows.PortRow.{PortRow}
use Rattle.afdx_table.specs.Content.{Content}
use Rattle.afdx_table.specs.WellFormed.{IsWellFormed}
use Rattle.afdx_load.specs.Load.{Load, load_of}
use Rattle.afdx_load.specs.Bounds.{bounds_of}
use Rattle.afdx_grouping.specs.Groups.{lesser_load}
use Rattle.afdx_grouping.specs.Laws.{BoundsAreNoMore}
use Rattle.afdx_grouping.specs.Scatter.{scattered}
use Rattle.afdx_jitter.specs.declared.delays.Delays.{Delays}
use Rattle.afdx_jitter.specs.Delay.{hop_of, joined, at_once}
use Rattle.afdx_network_check.specs.Net.{Network, Back, rounding_at, least_at, scatter_at, load_at, bound_in, AreDelays, AreDelaysBy}
use Rattle.afdx_network_check.specs.Inner.Staying.{whole_bound_at, WholeJittersAreEnough}
use Rattle.afdx_network_check.proofs.Alike.{all_at}

-- the whole bound beside a lesser one
pub record Above (load : Load) (priority : Priority) (x : ℕ) : Type 0 where
  pub bound : ℕ
  pub bound_is : bound_in (bounds_of load) priority ≡ Some bound
  pub order : x ≤ bound

pub above : BoundsAreNoMore → (d : ℕ) (roundings : ℕ → Option ℕ) (t : Content) (p : PortRow) → IsWellFormed t → (priority : Priority) (x : ℕ)
    → bound_in (bounds_of (lesser_load d roundings t p)) priority ≡ Some x
    → Above (scattered d (load_of t.latency p.speed p.id t.links)) priority x
above law d roundings t p formed High x x_is =
    let load : Load = scattered d (load_of t.latency p.speed p.id t.links) in
    let lesser : Load = lesser_load d roundings t p in
    let test = (cond_some (nat_lt 0 lesser.highs) ((lesser.high_burst + parts * lesser.low_largest) / parts + lesser.latency) x x_is).0 in
    let y : ℕ = (load.high_burst + parts * load.low_largest) / parts + load.latency in
    let y_is : bound_in (bounds_of load) High ≡ Some y = ap (λ b. cond b (Some ((load.high_burst + parts * load.low_largest) / parts + load.latency)) None) test in
    let h = (law d t roundings p formed).high y y_is in
    let same : h.0 ≡ x = same_Some h.0 x (sym h.1 ∙ x_is) in
    let order = h.2 in
    record { bound = y; bound_is = y_is; order = omega (arith, same, order) }
above law d roundings t p formed Low x x_is =
    let load : Load = scattered d (load_of t.latency p.speed p.id t.links) in
    let lesser : Load = lesser_load d roundings t p in
    let test = (cond_some (nat_lt 0 lesser.lows && nat_lt lesser.high_rate parts) (lesser.burst / (parts - lesser.high_rate) + lesser.latency) x x_is).0 in
    let y : ℕ = load.burst / (parts - load.high_rate) + load.latency in
    let y_is : bound_in (bounds_of load) Low ≡ Some y = ap (λ b. cond b (Some (load.burst / (parts - load.high_rate) + load.latency)) None) test in
    let h = (law d t roundings p formed).low y y_is in
    let same : h.0 ≡ x = same_Some h.0 x (sym h.1 ∙ x_is) in
    let order = h.2 in
    record { bound = y; bound_is = y_is; order = omega (arith, same, order) }

-- the delays by whole bounds beside those by lesser ones
record Whole (net : Network) (backs : List Back) (d : Delays) : Type 0 where
  pub delays : Delays
  pub are : AreDelaysBy (whole_bound_at net) net backs delays
  pub least : delays.least ≡ d.least
  pub most : d.most ≤ delays.most

whole : BoundsAreNoMore → (net : Network) → All IsWellFormed net.tables → (backs : List Back) (d : Delays) → AreDelays net backs d → Whole net backs d
whole law net formed [] d are = record {
  delays = at_once;
  are = refl;
  least = ap (λ (e : Delays). e.least) (sym are);
  most = let most : d.most ≡ 0 = ap (λ (e : Delays). e.most) are in omega (arith, most);
}
whole law net formed (b ∷ more) d are =
    let t : Content = are.0 in
    let p : PortRow = are.1 in
    let rest = whole law net formed more are.3 are.7 in
    let table = all_at IsWellFormed net.tables b.row.switch are.0 formed are.4 in
    let there : bound_in (bounds_of (load_at net b.row.switch are.0 are.1)) b.row.link.priority ≡ Some are.2
    = sym (ap (option_and_then (λ (c : Content). bound_in (bounds_of (load_at net b.row.switch c are.1)) b.row.link.priority)) are.4) ∙ are.6 in
    let y = above law (scatter_at net b.row.switch are.0) (rounding_at net b.row.switch) are.0 are.1 table b.row.link.priority are.2 there in
    let y_is : whole_bound_at net b.row are.1 ≡ Some y.bound
    = ap (option_and_then (λ (c : Content). bound_in (bounds_of (scattered (scatter_at net b.row.switch c) (load_of c.latency are.1.speed are.1.id c.links))) b.row.link.priority)) are.4
    ∙ y.bound_is in
    let d_least : d.least ≡ are.3.least + (hop_of are.1.speed (least_at net b.row.switch are.0) are.2 b.wire.delay).least = ap (λ (e : Delays). e.least) are.8 in
    let d_most : d.most ≡ are.3.most + (are.2 + b.wire.delay) = ap (λ (e : Delays). e.most) are.8 in
    let rest_least = rest.least in
    let rest_most = rest.most in
    let order = y.order in
    record {
      delays = joined rest.delays (hop_of are.1.speed (least_at net b.row.switch are.0) y.bound b.wire.delay);
      are = (are.0, are.1, y.bound, rest.delays, are.4, are.5, y_is, rest.are, refl);
      least = omega (arith, d_least, rest_least);
      most = omega (arith, d_most, rest_most, order);
    }

pub whole_jitters : BoundsAreNoMore → WholeJittersAreEnough
whole_jitters law net formed jitters = record {
  enough = λ r backs d among way are.
      let w = whole law net formed backs d are in
      let least = w.least in
      let most = w.most in
      let enough = jitters r backs w.delays among way w.are in
      omega (arith, least, most, enough);
}
