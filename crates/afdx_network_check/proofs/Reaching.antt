-- The way back from a row whose source is found, in a network that differs in its jitters alone: it is there, and takes some time.
use Rattle.std.proofs.Common.{◌≡◌, ℕ, zero, suc, ◌+◌, ◌≤◌, ◌<◌, ◌==◌, Bool, true, false, cond, List, [], ◌∷◌, map, find, length, slice_get}
use Rattle.std.proofs.Common.{Option, Some, None, option_and_then, refl, ap, sym, ◌∙◌, arith, subst}
use Rattle.std.specs.Prelude.{All, Contains, min}
use Rattle.std.specs.List.{AllZip}
use Rattle.std.proofs.lemmas.Bool.{eqb-true}
use Rattle.std.proofs.lemmas.List.Elements.{All-contains}
use Rattle.std.proofs.lemmas.Option.{same_Some}
use Rattle.afdx_units.specs.declared.line.Speed.{Speed}
use Rattle.afdx_units.specs.Line.{cost_of}
use Rattle.afdx_account.specs.Policing.{parts}
use Rattle.afdx_table.specs.Link.{Link, leads_to}
use Rattle.afdx_table.specs.Content.{Content, port_row}
use Rattle.afdx_table.specs.WellFormed.{IsWellFormed}
use Rattle.afdx_table.specs.Inner.Found.{LinksAreFound}
use Rattle.afdx_table.specs.declared.rows.PortRow.{PortRow}
use Rattle.afdx_load.specs.Load.{load_of}
use Rattle.afdx_load.specs.Bounds.{bounds_of}
use Rattle.afdx_load.specs.Inner.Laws.{HighLinksLeaveAPart}
use Rattle.afdx_jitter.specs.declared.delays.Delays.{Delays}
use Rattle.afdx_jitter.specs.Delay.{hop_of, joined, at_once}
use Rattle.afdx_wiring.specs.declared.layout.End.{End}
use Rattle.afdx_wiring.specs.declared.layout.Wire.{Wire}
use Rattle.afdx_wiring.specs.File.{Layout, is_end}
use Rattle.afdx_network_check.specs.Net.{Network, Row, Back, row_at, ingress, wire_to, port_at, rounding_at, stated_least, least_at, scatter_at, load_at}
use Rattle.afdx_network_check.specs.Net.{bound_in, bound_at, IsSource, IsWayBack, source_of, AreDelays}
use Rattle.afdx_network_check.specs.Rules.{Joins}
use Rattle.afdx_network_check.specs.Order.{row_before, source_by, source_within}
use Rattle.afdx_network_check.specs.Needs.{bare_link, DiffersInJitters, KeepsToLines}
use Rattle.afdx_network_check.proofs.FeedLemmas.{before_says}
use Rattle.afdx_network_check.proofs.LoadOrder.{Grows, load_grows}
use Rattle.afdx_network_check.proofs.LesserOrder.{lesser_bounded}
use Rattle.afdx_network_check.proofs.Alike.{Pair, paired, same_port, all_at}

-- what is found passes the test, and is there
pub found_passes : {X : Type 0} (p : X → Bool) (xs : List X) (x : X) → find p xs ≡ Some x → (p x ≡ true) × Contains xs x
found_passes p [] x is = absurd cc
found_passes p (y ∷ ys) x is = by (found_passes p ys x) (p y) refl is where
  by : (find p ys ≡ Some x → (p x ≡ true) × Contains ys x) → (b : Bool) → p y ≡ b → cond b (Some y) (find p ys) ≡ Some x → (p x ≡ true) × Contains (y ∷ ys) x
  by rest true passes is = let same = same_Some y x is in (subst (λ z. p z ≡ true) same passes, (0, omega arith, same))
  by rest false fails is =
      let there = rest is in
      let within = there.1.1 in
      (there.0, (suc there.1.0, omega (arith, within), there.1.2))

-- ---- the rates of a network that differs in jitters alone

without : (ls : List Link) → AllZip Grows (map bare_link ls) ls
without [] = tt
without (l ∷ ls) = (record { same = refl; jitter = omega arith }, without ls)

same_rate : (latency : ℕ) (speed : Speed) (port : ℕ) (ls ms : List Link) → map bare_link ms ≡ map bare_link ls → (load_of latency speed port ms).rate ≡ (load_of latency speed port ls).rate
same_rate latency speed port ls ms same =
    (load_grows latency speed port (map bare_link ms) ms (without ms)).rate
    ∙ ap (λ (ks : List Link). (load_of latency speed port ks).rate) same
    ∙ sym (load_grows latency speed port (map bare_link ls) ls (without ls)).rate

-- the rate at a port of a switch, where the first network keeps to its lines
pub rate_there : (net other : Network) → KeepsToLines net → (e : End) (id : ℕ) (b c : Row) (pair : Pair net other e.switch id b c) (p : PortRow) → port_at net e ≡ Some p
    → (load_of pair.there.table.latency p.speed p.id pair.there.table.links).rate ≤ parts
rate_there net other lines e id b c pair p port_is =
    let in_t : port_row pair.here.table e.port ≡ Some p = sym (ap (option_and_then (λ (t : Content). port_row t e.port)) pair.here.table_is) ∙ port_is in
    let among = found_passes (λ (q : PortRow). q.id == e.port) pair.here.table.ports p in_t in
    let line = all_at (λ (t : Content). All (λ q. (load_of t.latency q.speed q.id t.links).rate ≤ parts) t.ports) net.tables e.switch pair.here.table lines pair.here.table_is in
    let rate : (load_of pair.here.table.latency p.speed p.id pair.here.table.links).rate ≤ parts
    = All-contains (λ (q : PortRow). (load_of pair.here.table.latency q.speed q.id pair.here.table.links).rate ≤ parts) pair.here.table.ports p line among.1 in
    let same = same_rate pair.there.table.latency p.speed p.id pair.here.table.links pair.there.table.links (ap (λ (t : Content). t.links) pair.tables) in
    subst (λ (n : ℕ). n ≤ parts) (sym same) rate

-- ---- the networks

pub record Setting (net other : Network) : Type 0 where
  pub links : LinksAreFound
  pub leaves : HighLinksLeaveAPart
  pub differs : DiffersInJitters net other
  pub there : All IsWellFormed other.tables
  pub lines : KeepsToLines net
  pub joins : All (Joins net) net.layout.wires

-- the same port, and wire
pub same_end : (net other : Network) (switch id : ℕ) (r s : Row) → Pair net other switch id r s → ingress s ≡ ingress r
same_end net other switch id r s pair =
    let port : s.link.from ≡ r.link.from = ap (λ (l : Link). l.from) pair.links in
    let place : s.switch ≡ r.switch = pair.there.switch_is ∙ sym pair.here.switch_is in
    let first : End → End = λ e. e in
    ap (λ (n : ℕ). let e : End = record { switch = n; port = s.link.from } in e) place ∙ ap (λ (n : ℕ). let e : End = record { switch = r.switch; port = n } in e) port

pub same_wire : (net other : Network) (switch id : ℕ) (r s : Row) → DiffersInJitters net other → Pair net other switch id r s → wire_to other (ingress s) ≡ wire_to net (ingress r)
same_wire net other switch id r s differs pair =
    ap (λ (l : Layout). find (λ (w : Wire). is_end w.to (ingress s)) l.wires) differs.0 ∙ ap (wire_to net) (same_end net other switch id r s pair)

-- ---- the way back

pub record Reached (n : ℕ) (net other : Network) (s origin : Row) : Type 0 where
  pub backs : List Back
  pub delays : Delays
  pub few : length backs < n
  pub back : IsWayBack other s backs
  pub are : AreDelays other backs delays
  pub order : delays.least ≤ delays.most
  pub switch : ℕ
  pub id : ℕ
  pub origin_is : row_at net switch id ≡ Some origin
  pub pair : Pair net other switch id origin (source_of s backs)
  pub fed : IsSource net origin

-- from a row over a wire
record Crossed (other : Network) (b : Row) (w : Wire) : Type 0 where
  pub table : Content
  pub port : PortRow
  pub bound : ℕ
  pub table_is : slice_get other.tables b.switch ≡ Some table
  pub port_is : port_at other w.from ≡ Some port
  pub bound_is : bound_at other b port ≡ Some bound
  pub order : least_at other b.switch table + cost_of port.speed 64 ≤ bound

crossed : (net other : Network) → Setting net other → (w : Wire) (id : ℕ) (b c : Row) → Contains net.layout.wires w → Pair net other w.from.switch id b c → leads_to w.from.port b.link ≡ true
    → Crossed other c w
crossed net other set w id b c wired pair leads =
    let joined = All-contains (Joins net) net.layout.wires w set.joins wired in
    let p : PortRow = joined.start in
    let port_is = same_port net other set.differs w.from p joined.start_is in
    let in_u : port_row pair.there.table w.from.port ≡ Some p = sym (ap (option_and_then (λ (t : Content). port_row t w.from.port)) pair.there.table_is) ∙ port_is in
    let passes = found_passes (λ (q : PortRow). q.id == w.from.port) pair.there.table.ports p in_u in
    let number : p.id ≡ w.from.port = eqb-true p.id w.from.port passes.0 in
    let leads_there : leads_to w.from.port c.link ≡ true = ap (leads_to w.from.port) pair.links ∙ leads in
    let leads_on : leads_to p.id c.link ≡ true = subst (λ (n : ℕ). leads_to n c.link ≡ true) (sym number) leads_there in
    let formed = all_at IsWellFormed other.tables w.from.switch pair.there.table set.there pair.there.table_is in
    let rate = rate_there net other set.lines w.from id b c pair p joined.start_is in
    let member = set.links.is_row pair.there.table id c.link pair.there.link_is in
    let h = lesser_bounded set.leaves (scatter_at other c.switch pair.there.table) (rounding_at other c.switch) pair.there.table p c.link formed member.1 leads_on rate in
    let table_is : slice_get other.tables c.switch ≡ Some pair.there.table = ap (slice_get other.tables) pair.there.switch_is ∙ pair.there.table_is in
    record {
      table = pair.there.table;
      port = p;
      bound = h.bound;
      table_is = table_is;
      port_is = port_is;
      bound_is = ap (option_and_then (λ (t : Content). bound_in (bounds_of (load_at other c.switch t p)) c.link.priority)) table_is ∙ h.bound_is;
      order = no_more (stated_least other c.switch) pair.there.table.latency (cost_of p.speed 64) h.bound h.order;
    } where
      no_more : (stated latency cost bound : ℕ) → latency + cost ≤ bound → min stated latency + cost ≤ bound
      no_more stated latency cost bound h = omega (arith, h)

pub reach : (net other : Network) → Setting net other → (n switch id : ℕ) (r s origin : Row) → row_at net switch id ≡ Some r → Pair net other switch id r s
    → source_within n net r ≡ Some origin → Reached n net other s origin
reach net other set zero switch id r s origin r_is pair h = absurd cc
reach net other set (suc n) switch id r s origin r_is pair h =
    by (λ w_switch w_id b c b_is pair_b ends. reach net other set n w_switch w_id b c origin b_is pair_b ends) (wire_to net (ingress r)) refl h where
      number : s.link.id ≡ r.link.id
      number = ap (λ (l : Link). l.id) pair.links

      Further : Type 0
      Further = (w_switch w_id : ℕ) (b c : Row) → row_at net w_switch w_id ≡ Some b → Pair net other w_switch w_id b c → source_within n net b ≡ Some origin → Reached n net other c origin

      over : (w : Wire) (b c : Row) → wire_to net (ingress r) ≡ Some w → row_at net w.from.switch r.link.id ≡ Some b → leads_to w.from.port b.link ≡ true
          → Pair net other w.from.switch r.link.id b c → Reached n net other c origin → Reached (suc n) net other s origin
      over w b c w_is b_is leads pair_b rest =
          let member = found_passes (λ (v : Wire). is_end v.to (ingress r)) net.layout.wires w w_is in
          let cross = crossed net other set w r.link.id b c member.1 pair_b leads in
          let few = rest.few in
          let order = rest.order in
          let step = cross.order in
          let d : Delays = joined rest.delays (hop_of cross.port.speed (least_at other c.switch cross.table) cross.bound w.delay) in
          record {
            backs = record { wire = w; row = c } ∷ rest.backs;
            delays = d;
            few = omega (arith, few);
            back = (
              same_wire net other switch id r s set.differs pair ∙ w_is,
              subst (λ (k : ℕ). row_at other w.from.switch k ≡ Some c) (sym number) pair_b.there_is,
              ap (leads_to w.from.port) pair_b.links ∙ leads,
              rest.back,
            );
            are = (cross.table, cross.port, cross.bound, rest.delays, cross.table_is, cross.port_is, cross.bound_is, rest.are, refl);
            order = omega (arith, order, step);
            switch = rest.switch;
            id = rest.id;
            origin_is = rest.origin_is;
            pair = rest.pair;
            fed = rest.fed;
          }

      before : Further → (w : Wire) → wire_to net (ingress r) ≡ Some w → (o : Option Row) → row_before net r.link.id w ≡ o → option_and_then (source_within n net) o ≡ Some origin
          → Reached (suc n) net other s origin
      before further w w_is None b_is ends = absurd cc
      before further w w_is (Some b) b_is ends =
          let said = before_says net r.link.id w b b_is in
          let c = paired net other set.differs w.from.switch r.link.id b said.row_is in
          over w b c.0 w_is said.row_is said.leads c.1 (further w.from.switch r.link.id b c.0 said.row_is c.1 ends)

      by : Further → (o : Option Wire) → wire_to net (ingress r) ≡ o → source_by (source_within n net) net r o ≡ Some origin → Reached (suc n) net other s origin
      by further None w_is ends =
          let same : r ≡ origin = same_Some r origin ends in
          record {
            backs = [];
            delays = at_once;
            few = omega arith;
            back = same_wire net other switch id r s set.differs pair ∙ w_is;
            are = refl;
            order = omega arith;
            switch = switch;
            id = id;
            origin_is = r_is ∙ ap (λ (q : Row). Some q) same;
            pair = subst (λ (q : Row). Pair net other switch id q s) same pair;
            fed = subst (IsSource net) same w_is;
          }
      by further (Some w) w_is ends = before further w w_is (row_before net r.link.id w) refl ends
