-- What a row needs grows with the jitters of a network.
use Rattle.std.proofs.Common.{◌≡◌, ℕ, zero, suc, ◌+◌, ◌-◌, ◌*◌, ◌/◌, ◌%◌, ◌≤◌, ◌<◌, Bool, true, false, cond, nat_le, List, [], ◌∷◌, find, length, slice_get}
use Rattle.std.proofs.Common.{Option, Some, None, is_some, option_map, option_and_then, refl, ap, sym, ◌∙◌, arith, subst}
use Rattle.std.specs.Prelude.{All, min}
use Rattle.std.specs.Option.{option_map_or}
use Rattle.std.proofs.lemmas.Bool.Decides.{nat_tests}
use Rattle.std.proofs.lemmas.Option.{same_Some}
use Rattle.afdx_units.specs.declared.line.Speed.{Speed}
use Rattle.afdx_units.specs.declared.line.Speed.TheVariants.{Ten, Hundred, Thousand}
use Rattle.afdx_units.specs.Line.{cost_of}
use Rattle.afdx_account.specs.Policing.{parts}
use Rattle.afdx_table.specs.Link.{Link, leads_to}
use Rattle.afdx_table.specs.Content.{Content, port_row}
use Rattle.afdx_table.specs.WellFormed.{IsWellFormed}
use Rattle.afdx_table.specs.Inner.Found.{LinksAreFound}
use Rattle.afdx_table.specs.declared.rows.PortRow.{PortRow}
use Rattle.afdx_grouping.specs.Groups.{lesser_load}
use Rattle.afdx_grouping.specs.Laws.{NoMoreIsPaidFor, LesserCurvesNeedLess}
use Rattle.afdx_load.specs.Load.{load_of}
use Rattle.afdx_load.specs.Bounds.{bounds_of}
use Rattle.afdx_jitter.specs.declared.delays.Delays.{Delays}
use Rattle.afdx_jitter.specs.Delay.{hop_of, joined, at_once, IsEnough}
use Rattle.afdx_wiring.specs.declared.layout.End.{End}
use Rattle.afdx_wiring.specs.declared.layout.Wire.{Wire}
use Rattle.afdx_wiring.specs.File.{Layout, is_end}
use Rattle.afdx_network_check.specs.Net.{Network, Row, Back, row_at, port_at, stamp_rounding, rounding_at, stated_least, least_at, scatter_at, load_at, bound_in, IsWayBack, source_of, AreDelays}
use Rattle.afdx_network_check.specs.Order.{most_rows, within_reason, hop_from, hop_on, way_by, way_within}
use Rattle.afdx_network_check.specs.Needs.{DiffersInJitters, KeepsToLines, needed}
use Rattle.afdx_network_check.proofs.Enough.{from_port}
use Rattle.afdx_network_check.proofs.FeedLemmas.{before_is}
use Rattle.afdx_network_check.proofs.LoadOrder.{bound_before}
use Rattle.afdx_network_check.proofs.LesserOrder.{lesser_grows}
use Rattle.afdx_network_check.proofs.Alike.{Pair, paired, same_port, all_at, Below, links_grow}
use Rattle.afdx_network_check.proofs.Reaching.{same_wire, rate_there}

least_few : (stated latency : ℕ) → latency ≤ 100000 → min stated latency ≤ 100000
least_few stated latency few = omega (arith, few)

least_cost : (speed : Speed) → cost_of speed 64 ≤ 67200
least_cost Ten = omega arith
least_cost Hundred = omega arith
least_cost Thousand = omega arith

-- what a hop is where its bound is known
hop_there : (net : Network) (c : Row) (port cable : ℕ) (t : Content) (p : PortRow) (x : ℕ) → slice_get net.tables c.switch ≡ Some t → port_row t port ≡ Some p
    → bound_in (bounds_of (load_at net c.switch t p)) c.link.priority ≡ Some x
    → hop_on net c port cable ≡ option_map (λ (n : ℕ). hop_of p.speed (least_at net c.switch t) n cable) (within_reason x)
hop_there net c port cable t p x t_is p_is x_is =
    ap (option_and_then (hop_from net c port cable)) t_is ∙ ap (from_port net t c cable) p_is
    ∙ ap (λ (o : Option ℕ). option_map (λ (n : ℕ). hop_of p.speed (least_at net c.switch t) n cable) (option_and_then within_reason o)) x_is

-- what a walk back found over at most n rows, beside a way back that takes so long: no more; or nothing, since a bound is past reason
abbrev pub IsWithin : ℕ → Option (ℕ × Delays) → (first : ℕ) → (d after : Delays) → Type 0
IsWithin n None first d after = d.least + 1000000000000 ≤ d.most + n * 200000
IsWithin n (Some far) first d after = (far.0 ≤ first) × (far.1.least ≡ d.least + after.least) × (far.1.most ≤ d.most + after.most)

pub record Compared (n : ℕ) (far : Option (ℕ × Delays)) (first : ℕ) (d after : Delays) : Type 0 where
  pub slack : d.least ≤ d.most + n * 200000
  pub within : IsWithin n far first d after

pub record Growing (net other : Network) : Type 0 where
  pub links : LinksAreFound
  pub once : NoMoreIsPaidFor
  pub less : LesserCurvesNeedLess
  -- a network that keeps to its lines, from which they differ in jitters alone
  pub origin : Network
  pub from_origin : DiffersInJitters origin net
  pub lines : KeepsToLines origin
  pub differs : DiffersInJitters net other
  pub here : All IsWellFormed net.tables
  pub there : All IsWellFormed other.tables
  pub below : Below net other

-- the numbers of a hop in both networks
record Hops (d before : Delays) (speed : Speed) (latency cable x y : ℕ) : Type 0 where
  pub least : d.least ≡ before.least + (latency + cost_of speed 64 + cable)
  pub most : d.most ≡ before.most + (y + cable)
  pub bound : x ≤ y
  pub few : latency ≤ 100000

-- one hop more
further_on : (n : ℕ) (far : Option (ℕ × Delays)) (first : ℕ) (d before after : Delays) (speed : Speed) (latency cable x y : ℕ) → Hops d before speed latency cable x y
    → Compared n far first before (joined (hop_of speed latency x cable) after) → Compared (suc n) far first d after
further_on n far first d before after speed latency cable x y h rest =
    let cost = least_cost speed in
    let least = h.least in
    let most = h.most in
    let bound = h.bound in
    let few = h.few in
    let slack = rest.slack in
    record { slack = omega (arith, cost, least, most, few, slack); within = by far rest.within cost least most bound few } where
      by : (o : Option (ℕ × Delays)) → IsWithin n o first before (joined (hop_of speed latency x cable) after) → cost_of speed 64 ≤ 67200
          → d.least ≡ before.least + (latency + cost_of speed 64 + cable) → d.most ≡ before.most + (y + cable) → x ≤ y → latency ≤ 100000 → IsWithin (suc n) o first d after
      by None w cost least most bound few = omega (arith, w, cost, least, most, few)
      by (Some f) w cost least most bound few =
          let f_least : f.1.least ≡ before.least + ((latency + cost_of speed 64 + cable) + after.least) = w.1 in
          let f_most : f.1.most ≤ before.most + ((x + cable) + after.most) = w.2 in
          (w.0, omega (arith, f_least, least), omega (arith, f_most, most, bound))

-- no way where its bound is past reason
stops : (n : ℕ) (far : Option (ℕ × Delays)) (first first' : ℕ) (d before after after' : Delays) (speed : Speed) (latency cable x y : ℕ) → Hops d before speed latency cable x y
    → nat_le x 1000000000000 ≡ false → Compared n far first' before after' → Compared (suc n) None first d after
stops n far first first' d before after after' speed latency cable x y h past rest =
    let cost = least_cost speed in
    let least = h.least in
    let most = h.most in
    let bound = h.bound in
    let few = h.few in
    let slack = rest.slack in
    let above : 1000000000000 ≤ x = past_it x past in
    record { slack = omega (arith, cost, least, most, few, slack); within = omega (arith, cost, least, most, bound, few, slack, above) } where
      past_it : (x : ℕ) → nat_le x 1000000000000 ≡ false → 1000000000000 ≤ x
      past_it x past = grind (arith, nat_tests)

pub flipped : (net other : Network) (switch id : ℕ) (r s : Row) → row_at net switch id ≡ Some r → Pair net other switch id r s → Pair other net switch id s r
flipped net other switch id r s is pair = record { here = pair.there; there = pair.here; there_is = is; tables = sym pair.tables; links = sym pair.links }

-- the same is said of lines, and of latencies
same_wired : (net other : Network) → DiffersInJitters net other → (here there : ℕ) → there ≡ here → rounding_at other there ≡ rounding_at net here
same_wired net other differs here there place =
    ap (λ (l : Layout). λ (port : ℕ). cond (is_some (find (λ (w : Wire). is_end w.to (record { switch = there; port = port })) l.wires)) (Some 0) (cond l.one_line (Some stamp_rounding) None))
    differs.0 ∙ ap (rounding_at net) place

same_least : (net other : Network) → DiffersInJitters net other → (here there : ℕ) → there ≡ here → (t u : Content) → u.latency ≡ t.latency → least_at other there u ≡ least_at net here t
same_least net other differs here there place t u latency =
    ap (λ (l : Layout). min (option_map_or (λ s. s.least) (slice_get l.switches there) 0) u.latency) differs.0
    ∙ ap (λ (n : ℕ). min (stated_least net n) u.latency) place ∙ ap (λ (n : ℕ). min (stated_least net here) n) latency

same_scatter : (net other : Network) → DiffersInJitters net other → (here there : ℕ) → there ≡ here → (t u : Content) → u.latency ≡ t.latency → scatter_at other there u ≡ scatter_at net here t
same_scatter net other differs here there place t u latency =
    ap (λ (n : ℕ). u.latency - n) (same_least net other differs here there place t u latency) ∙ ap (λ (n : ℕ). n - least_at net here t) latency

kept_rate : (net other : Network) → Growing net other → (e : End) (id : ℕ) (c : Row) (t : Content) → row_at net e.switch id ≡ Some c → slice_get net.tables e.switch ≡ Some t → (p : PortRow)
    → port_at net e ≡ Some p → (load_of t.latency p.speed p.id t.links).rate ≤ parts
kept_rate net other set e id c t c_is t_is p port =
    let back = paired net set.origin (sym set.from_origin.0, sym set.from_origin.1) e.switch id c c_is in
    let pair = flipped net set.origin e.switch id c back.0 c_is back.1 in
    let same : pair.there.table ≡ t = same_Some pair.there.table t (sym pair.there.table_is ∙ t_is) in
    subst (λ (q : Content). (load_of q.latency p.speed p.id q.links).rate ≤ parts) same
    (rate_there set.origin net set.lines e id back.0 c pair p (same_port net set.origin (sym set.from_origin.0, sym set.from_origin.1) e p port))

compare : (net other : Network) → Growing net other → (n switch id : ℕ) (r s : Row) → row_at net switch id ≡ Some r → Pair net other switch id r s → (backs : List Back) (d : Delays)
    → IsWayBack other s backs → AreDelays other backs d → length backs < n → (after : Delays) → Compared n (way_within n net r after) (source_of s backs).link.jitter d after
compare net other set zero switch id r s r_is pair backs d way are few after = absurd (omega (arith, few))
compare net other set (suc n) switch id r s r_is pair [] d way are few after =
    let none = sym (same_wire net other switch id r s set.differs pair) ∙ way in
    let jitter = set.below switch id r s r_is pair.there_is in
    let d_least : d.least ≡ 0 = ap (λ (e : Delays). e.least) are in
    let d_most : d.most ≡ 0 = ap (λ (e : Delays). e.most) are in
    let within : IsWithin (suc n) (Some (r.link.jitter, after)) s.link.jitter d after = (jitter, omega (arith, d_least), omega (arith, d_most)) in
    record {
      slack = omega (arith, d_least, d_most);
      within = subst (λ (o : Option (ℕ × Delays)). IsWithin (suc n) o s.link.jitter d after) (sym (ap (way_by (way_within n net) net r after) none)) within;
    }
compare net other set (suc n) switch id r s r_is pair (b ∷ more) d way are few after =
    over (paired other net (sym set.differs.0, sym set.differs.1) b.wire.from.switch s.link.id b.row way.1)
    (λ c c_is pair_c after'. compare net other set n b.wire.from.switch s.link.id c b.row c_is pair_c more are.3 way.3 are.7 (omega (arith, few)) after') where
      first : ℕ
      first = (source_of b.row more).link.jitter

      Further : Type 0
      Further = (c : Row) → row_at net b.wire.from.switch s.link.id ≡ Some c → Pair net other b.wire.from.switch s.link.id c b.row → (after' : Delays)
          → Compared n (way_within n net c after') first are.3 after'

      -- where the bound in this network is known
      bounded : (c : Row) (t : Content) (x : ℕ)
          → way_within (suc n) net r after ≡ option_and_then (λ (hop : Delays). way_within n net c (joined hop after)) (hop_on net c b.wire.from.port b.wire.delay)
          → hop_on net c b.wire.from.port b.wire.delay ≡ option_map (λ (m : ℕ). hop_of are.1.speed (least_at net c.switch t) m b.wire.delay) (within_reason x)
          → Hops d are.3 are.1.speed (least_at net c.switch t) b.wire.delay x are.2 → ((after' : Delays) → Compared n (way_within n net c after') first are.3 after')
          → Compared (suc n) (way_within (suc n) net r after) first d after
      bounded c t x way_is hop_is hops further = by (nat_le x 1000000000000) refl where
        by : (reason : Bool) → nat_le x 1000000000000 ≡ reason → Compared (suc n) (way_within (suc n) net r after) first d after
        by true reason =
            let hop : Delays = hop_of are.1.speed (least_at net c.switch t) x b.wire.delay in
            let here : hop_on net c b.wire.from.port b.wire.delay ≡ Some (hop_of are.1.speed (least_at net c.switch t) x b.wire.delay)
            = hop_is ∙ ap (λ (q : Bool). option_map (λ (m : ℕ). hop_of are.1.speed (least_at net c.switch t) m b.wire.delay) (cond q (Some x) None)) reason in
            let whole = way_is ∙ ap (option_and_then (λ (h : Delays). way_within n net c (joined h after))) here in
            subst (λ (o : Option (ℕ × Delays)). Compared (suc n) o first d after) (sym whole)
            (further_on n (way_within n net c (joined hop after)) first d are.3 after are.1.speed (least_at net c.switch t) b.wire.delay x are.2 hops (further (joined hop after)))
        by false reason =
            let here : hop_on net c b.wire.from.port b.wire.delay ≡ None
            = hop_is ∙ ap (λ (q : Bool). option_map (λ (m : ℕ). hop_of are.1.speed (least_at net c.switch t) m b.wire.delay) (cond q (Some x) None)) reason in
            let whole = way_is ∙ ap (option_and_then (λ (h : Delays). way_within n net c (joined h after))) here in
            subst (λ (o : Option (ℕ × Delays)). Compared (suc n) o first d after) (sym whole)
            (stops n (way_within n net c after) first first d are.3 after after are.1.speed (least_at net c.switch t) b.wire.delay x are.2 hops reason (further after))

      over : ((c : Row) × Pair other net b.wire.from.switch s.link.id b.row c) → Further → Compared (suc n) (way_within (suc n) net r after) first d after
      over found further =
          let c : Row = found.0 in
          let pair_c = flipped other net b.wire.from.switch s.link.id b.row found.0 way.1 found.1 in
          let t : Content = pair_c.here.table in
          let u : Content = pair_c.there.table in
          let number : s.link.id ≡ r.link.id = ap (λ (l : Link). l.id) pair.links in
          let wire = sym (same_wire net other switch id r s set.differs pair) ∙ way.0 in
          let leads : leads_to b.wire.from.port found.0.link ≡ true = sym (ap (leads_to b.wire.from.port) pair_c.links) ∙ way.2 in
          let before = before_is net r.link.id b.wire found.0 (subst (λ (k : ℕ). row_at net b.wire.from.switch k ≡ Some found.0) number found.1.there_is) leads in
          let way_is : way_within (suc n) net r after ≡ option_and_then (λ (hop : Delays). way_within n net found.0 (joined hop after)) (hop_on net found.0 b.wire.from.port b.wire.delay)
          = ap (way_by (way_within n net) net r after) wire
          ∙ ap (option_and_then (λ (q : Row). option_and_then (λ (hop : Delays). way_within n net q (joined hop after)) (hop_on net q b.wire.from.port b.wire.delay))) before in
          let u_is : slice_get other.tables b.row.switch ≡ Some pair_c.there.table = ap (slice_get other.tables) pair_c.there.switch_is ∙ pair_c.there.table_is in
          let t_is : slice_get net.tables found.0.switch ≡ Some pair_c.here.table = ap (slice_get net.tables) pair_c.here.switch_is ∙ pair_c.here.table_is in
          let same_u : are.0 ≡ pair_c.there.table = same_Some are.0 pair_c.there.table (sym are.4 ∙ u_is) in
          let latency : pair_c.there.table.latency ≡ pair_c.here.table.latency = ap (λ (q : Content). q.latency) pair_c.tables in
          let priority : b.row.link.priority ≡ found.0.link.priority = ap (λ (l : Link). l.priority) pair_c.links in
          let place : b.row.switch ≡ found.0.switch = pair_c.there.switch_is ∙ sym pair_c.here.switch_is in
          let wired = same_wired net other set.differs found.0.switch b.row.switch place in
          let scatter = same_scatter net other set.differs found.0.switch b.row.switch place pair_c.here.table pair_c.there.table latency in
          let y_there : bound_in (bounds_of (load_at other b.row.switch pair_c.there.table are.1)) b.row.link.priority ≡ Some are.2
          = sym (ap (option_and_then (λ (q : Content). bound_in (bounds_of (load_at other b.row.switch q are.1)) b.row.link.priority)) u_is) ∙ are.6 in
          let y_is : bound_in (bounds_of (lesser_load (scatter_at net found.0.switch pair_c.here.table) (rounding_at net found.0.switch) pair_c.there.table are.1)) found.0.link.priority ≡ Some are.2
          = sym (ap (λ (roundings : ℕ → Option ℕ). bound_in (bounds_of (lesser_load (scatter_at net found.0.switch pair_c.here.table) roundings pair_c.there.table are.1)) found.0.link.priority) wired)
          ∙ sym (ap (λ (e : ℕ). bound_in (bounds_of (lesser_load e (rounding_at other b.row.switch) pair_c.there.table are.1)) found.0.link.priority) scatter)
          ∙ sym (ap (bound_in (bounds_of (load_at other b.row.switch pair_c.there.table are.1))) priority) ∙ y_there in
          let t_formed = all_at IsWellFormed net.tables b.wire.from.switch pair_c.here.table set.here pair_c.here.table_is in
          let u_formed = all_at IsWellFormed other.tables b.wire.from.switch pair_c.there.table set.there pair_c.there.table_is in
          let grow = links_grow set.links net other set.below b.wire.from.switch pair_c.here.table pair_c.there.table pair_c.here.table_is pair_c.there.table_is t_formed u_formed pair_c.tables in
          let port = same_port other net (sym set.differs.0, sym set.differs.1) b.wire.from are.1 are.5 in
          let rate = kept_rate net other set b.wire.from s.link.id found.0 pair_c.here.table found.1.there_is pair_c.here.table_is are.1 port in
          let ports : pair_c.there.table.ports ≡ pair_c.here.table.ports = ap (λ (q : Content). q.ports) pair_c.tables in
          let x = bound_before (load_at net found.0.switch pair_c.here.table are.1)
          (lesser_load (scatter_at net found.0.switch pair_c.here.table) (rounding_at net found.0.switch) pair_c.there.table are.1)
          (lesser_grows set.once set.less (scatter_at net found.0.switch pair_c.here.table) (rounding_at net found.0.switch)
          pair_c.here.table pair_c.there.table are.1 t_formed u_formed ports latency grow rate)
          found.0.link.priority are.2 y_is in
          let port_is : port_row pair_c.here.table b.wire.from.port ≡ Some are.1
          = sym (ap (option_and_then (λ (q : Content). port_row q b.wire.from.port)) pair_c.here.table_is) ∙ port in
          let hop_is = hop_there net found.0 b.wire.from.port b.wire.delay pair_c.here.table are.1 x.0 t_is port_is x.1 in
          let few_ns = least_few (stated_least net found.0.switch) pair_c.here.table.latency t_formed.latency_most in
          let u_least : least_at other b.row.switch are.0 ≡ least_at net found.0.switch pair_c.here.table
          = same_least net other set.differs found.0.switch b.row.switch place pair_c.here.table are.0 (ap (λ (q : Content). q.latency) same_u ∙ latency) in
          let d_least : d.least ≡ are.3.least + (least_at other b.row.switch are.0 + cost_of are.1.speed 64 + b.wire.delay) = ap (λ (e : Delays). e.least) are.8 in
          let hops : Hops d are.3 are.1.speed (least_at net found.0.switch pair_c.here.table) b.wire.delay x.0 are.2
          = record { least = d_least ∙ ap (λ (e : ℕ). are.3.least + (e + cost_of are.1.speed 64 + b.wire.delay)) u_least; most = ap (λ (e : Delays). e.most) are.8; bound = x.2; few = few_ns } in
          bounded found.0 pair_c.here.table x.0 way_is hop_is hops (further found.0 found.1.there_is pair_c)

-- ---- what is needed

needed_within : (far : Option (ℕ × Delays)) (first : ℕ) (d : Delays) (later : ℕ) → IsWithin 64 far first d at_once → IsEnough d first later → later % 1000 ≡ 0 → later ≤ 10000000
    → needed far * 1000 ≤ later
needed_within None first d later within enough whole few = absurd (omega (arith, within, enough, few))
needed_within (Some far) first d later within enough whole few =
    let jitter = within.0 in
    let least : far.1.least ≡ d.least + 0 = within.1 in
    let most : far.1.most ≤ d.most + 0 = within.2 in
    let more : far.0 + far.1.most - far.1.least ≤ later = omega (arith, jitter, least, most, enough) in
    rounded (far.0 + far.1.most - far.1.least) later more whole where
      rounded : (m n : ℕ) → m ≤ n → n % 1000 ≡ 0 → (m + 999) / 1000 * 1000 ≤ n
      rounded m n le whole = omega (arith, le, whole)

pub need_grows : (net other : Network) → Growing net other → (switch id : ℕ) (r s : Row) → row_at net switch id ≡ Some r → Pair net other switch id r s → (backs : List Back) (d : Delays)
    → IsWayBack other s backs → AreDelays other backs d → length backs < 64 → IsEnough d (source_of s backs).link.jitter s.link.jitter → s.link.jitter % 1000 ≡ 0 → s.link.jitter ≤ 10000000
    → needed (way_within most_rows net r at_once) * 1000 ≤ s.link.jitter
need_grows net other set switch id r s r_is pair backs d way are few enough whole limit =
    let h = compare net other set most_rows switch id r s r_is pair backs d way are few at_once in
    needed_within (way_within most_rows net r at_once) (source_of s backs).link.jitter d s.link.jitter h.within enough whole limit
