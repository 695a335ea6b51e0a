-- What keeps to a greater least and a lesser bound keeps to a lesser least and a greater bound, and so does what keeps to a lesser scatter.
use Rattle.std.proofs.Common.{◌≡◌, ℕ, ◌+◌, ◌-◌, ◌*◌, ◌/◌, ◌<◌, ◌≤◌, ◌&&◌, Bool, true, false, cond, nat_lt, List, [], ◌∷◌, Some, None, ap, sym, ◌∙◌, arith}
use Rattle.std.specs.List.{AllZip}
use Rattle.std.proofs.Math.Nat.{div-mul-le_self, mul-le-mul_left}
use Rattle.std.proofs.lemmas.Nat.{le-div}
use Rattle.std.proofs.lemmas.Bool.Decides.{nat_tests}
use Rattle.std.proofs.lemmas.Option.{cond_some, same_Some}
use Rattle.afdx_units.specs.declared.line.Priority.{Priority}
use Rattle.afdx_units.specs.declared.line.Priority.TheVariants.{High, Low}
use Rattle.afdx_account.specs.Policing.{parts}
use Rattle.afdx_pcap.specs.Record.{Record}
use Rattle.afdx_table.specs.declared.rows.PortRow.{PortRow}
use Rattle.afdx_table.specs.Link.{Link}
use Rattle.afdx_load.specs.Load.{Load, load_of}
use Rattle.afdx_grouping.specs.Laws.{AreNoMore}
use Rattle.afdx_grouping.specs.Scatter.{scattered, NothingIsScattered}
use Rattle.afdx_isolation.specs.Table.{bound_of}
use Rattle.afdx_session.specs.Headline.{IsInBound, IsIsolatedAt}
use Rattle.afdx_network.specs.Kept.{KeepsBound, IsInBoundOf, IsKeptBy, IsolatedIsKept, LessIsKeptToo}
use Rattle.afdx_network.specs.Way.{KeptStages}

-- ---- bounds

pub weaker : (least more bound wider : ℕ) (p : PortRow) → least ≤ more → bound ≤ wider → (came left : List Record) → AllZip (KeepsBound more p bound) came left
    → AllZip (KeepsBound least p wider) came left
weaker least more bound wider p sooner later [] [] zip = tt
weaker least more bound wider p sooner later [] (f ∷ left) zip = absurd zip
weaker least more bound wider p sooner later (c ∷ came) [] zip = absurd zip
weaker least more bound wider p sooner later (c ∷ came) (f ∷ left) zip =
    let first = zip.0.least_is in
    let last = zip.0.most in
    (record { least_is = omega (arith, first, sooner); most = omega (arith, last, later) }, weaker least more bound wider p sooner later came left zip.1)

-- a bound that is no greater, where the other one is
pub record Sharper (load : Load) (priority : Priority) (bound : ℕ) : Type 0 where
  pub sharp : ℕ
  pub sharp_is : bound_of load priority ≡ Some sharp
  pub order : sharp ≤ bound

pub sharper : (a b : Load) → AreNoMore a b → (priority : Priority) (bound : ℕ) → bound_of b priority ≡ Some bound → Sharper a priority bound
sharper a b h High bound is = let x = h.high bound is in record { sharp = x.0; sharp_is = x.1; order = x.2 }
sharper a b h Low bound is = let x = h.low bound is in record { sharp = x.0; sharp_is = x.1; order = x.2 }

-- ---- more scatter

record Wider (load : Load) (priority : Priority) (bound : ℕ) : Type 0 where
  pub wide : ℕ
  pub wide_is : bound_of load priority ≡ Some wide
  pub order : bound ≤ wide

quotient : (m n k : ℕ) → m ≤ n → 0 < k → m / k ≤ n / k
quotient m n k le some = le-div (m / k) n k some (let down = div-mul-le_self m k in omega (arith, down, le))

part_left : (some : Bool) (rate : ℕ) → (some && nat_lt rate parts) ≡ true → 0 < parts - rate
part_left true rate h = let test : nat_lt rate parts ≡ true = h in grind (arith, nat_tests)
part_left false rate h = absurd cc

wider : (d e : ℕ) → d ≤ e → (load : Load) (priority : Priority) (bound : ℕ) → bound_of (scattered d load) priority ≡ Some bound → Wider (scattered e load) priority bound
wider d e le load High bound is =
    let m : ℕ = load.high_burst + load.high_rate * d + parts * load.low_largest in
    let n : ℕ = load.high_burst + load.high_rate * e + parts * load.low_largest in
    let h = cond_some (nat_lt 0 load.highs) (m / parts + load.latency) bound is in
    let step = mul-le-mul_left load.high_rate le in
    let order = quotient m n parts (omega (arith, step)) (omega arith) in
    let same : m / parts + load.latency ≡ bound = h.1 in
    record {
      wide = n / parts + load.latency;
      wide_is = ap (λ b. cond b (Some (n / parts + load.latency)) None) h.0;
      order = omega (arith, same, order);
    }
wider d e le load Low bound is =
    let m : ℕ = load.burst + load.rate * d in
    let n : ℕ = load.burst + load.rate * e in
    let k : ℕ = parts - load.high_rate in
    let h = cond_some (nat_lt 0 load.lows && nat_lt load.high_rate parts) (m / k + load.latency) bound is in
    let step = mul-le-mul_left load.rate le in
    let order = quotient m n k (omega (arith, step)) (part_left (nat_lt 0 load.lows) load.high_rate h.0) in
    let same : m / k + load.latency ≡ bound = h.1 in
    record {
      wide = n / k + load.latency;
      wide_is = ap (λ b. cond b (Some (n / k + load.latency)) None) h.0;
      order = omega (arith, same, order);
    }

each : {P Q : Record → Record → Type 0} → ((c f : Record) → P c f → Q c f) → (came left : List Record) → AllZip P came left → AllZip Q came left
each so [] [] zip = tt
each so [] (f ∷ left) zip = absurd zip
each so (c ∷ came) [] zip = absurd zip
each so (c ∷ came) (f ∷ left) zip = (so c f zip.0, each so came left zip.1)

pub less_kept : LessIsKeptToo
less_kept least more scatter wide t read p out sooner later kept = record {
  passed = kept.passed;
  none_else = kept.none_else;
  of_links = kept.of_links;
  in_bound = λ l known leads. each (one l) _ _ (kept.in_bound l known leads);
} where
  one : (l : Link) (c f : Record) → IsInBoundOf more scatter t p l c f → IsInBoundOf least wide t p l c f
  one l c f h =
      let w = wider scatter wide later (load_of t.latency p.speed p.id t.links) l.priority h.bound h.bound_is in
      let first = h.keeps.least_is in
      let last = h.keeps.most in
      let order = w.order in
      record { bound = w.wide; bound_is = w.wide_is; keeps = record { least_is = omega (arith, first, sooner); most = omega (arith, last, order) } }

-- ---- our switch

pub isolated_kept : NothingIsScattered → IsolatedIsKept
isolated_kept none t read p out = (there, back) where
  load : Load
  load = load_of t.latency p.speed p.id t.links

  one : (l : Link) (c f : Record) → IsInBound t p l c f → IsInBoundOf t.latency 0 t p l c f
  one l c f h = record { bound = h.bound; bound_is = ap (λ (s : Load). bound_of s l.priority) (none.0 load) ∙ h.bound_is; keeps = record { least_is = h.least; most = h.most } }

  other : (l : Link) (c f : Record) → IsInBoundOf t.latency 0 t p l c f → IsInBound t p l c f
  other l c f h = record { bound = h.bound; bound_is = ap (λ (s : Load). bound_of s l.priority) (sym (none.0 load)) ∙ h.bound_is; least = h.keeps.least_is; most = h.keeps.most }

  there : IsIsolatedAt t read p out → IsKeptBy t.latency 0 t read p out
  there h = record { passed = h.passed; none_else = h.none_else; of_links = h.of_links; in_bound = λ l known leads. each (one l) _ _ (h.in_bound l known leads) }

  back : IsKeptBy t.latency 0 t read p out → IsIsolatedAt t read p out
  back h = record { passed = h.passed; none_else = h.none_else; of_links = h.of_links; in_bound = λ l known leads. each (other l) _ _ (h.in_bound l known leads) }

-- ---- stages of any switch

pub kept_stage : KeptStages
kept_stage n least scatter formed kept p has l known leads bound bound_is = record {
  node = record { well_formed = formed; passed = λ q there. (kept q there).passed };
  known = known;
  has = has;
  leads = leads;
  bounded = each one _ _ ((kept p has).in_bound l known leads);
} where
  one : (c f : Record) → IsInBoundOf least scatter n.table p l c f → KeepsBound least p bound c f
  one c f h =
      let same : h.bound ≡ bound = same_Some h.bound bound (sym h.bound_is ∙ bound_is) in
      let first = h.keeps.least_is in
      let last = h.keeps.most in
      record { least_is = first; most = omega (arith, last, same) }
