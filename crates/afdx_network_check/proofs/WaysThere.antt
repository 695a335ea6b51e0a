-- Where the loads are accepted, each row has a bound at each port that it leads to; and each exit is that of a row.
use Rattle.std.proofs.Common.{◌≡◌, ℕ, zero, suc, ◌+◌, ◌<◌, ◌≤◌, ◌*◌, ◌==◌, ◌||◌, Bool, true, false, not, cond, nat_le, List, [], ◌∷◌, length, map, find, get_or, slice_get}
use Rattle.std.proofs.Common.{Option, Some, None, option_map, option_and_then, is_some, Ok, Err, refl, ap, sym, ◌∙◌, subst, inl, inr, arith}
use Rattle.std.specs.Prelude.{Result, All, Contains, IsSome, IfSome, IfErr, flat_map}
use Rattle.std.specs.List.{AllByRecursion, list_any}
use Rattle.std.specs.List.Sorted.{IsPermutation}
use Rattle.std.proofs.lemmas.Bool.{eqb-true}
use Rattle.std.proofs.lemmas.Bool.Decides.{nat_tests}
use Rattle.std.proofs.lemmas.List.Elements.{All-nil, All-append, All-map, All-filter, All-contains, All-from_recursion, Contains-get_or}
use Rattle.std.proofs.lemmas.List.Sorted.{All-permutation}
use Rattle.afdx_units.specs.declared.line.Priority.{Priority}
use Rattle.afdx_units.specs.declared.line.Priority.TheVariants.{High, Low}
use Rattle.afdx_units.specs.Line.{cost_of, is_high}
use Rattle.afdx_account.specs.Policing.{parts}
use Rattle.afdx_table.specs.declared.rows.PortRow.{PortRow}
use Rattle.afdx_table.specs.Link.{Link, leads_to}
use Rattle.afdx_table.specs.Content.{Content, port_row}
use Rattle.afdx_table.specs.Ports.{has_port}
use Rattle.afdx_table.specs.WellFormed.{IsPort, IsLink, IsWellFormed}
use Rattle.afdx_table.specs.Inner.Found.{LinksAreFound}
use Rattle.afdx_load.specs.Load.{Load, routed, burst_of, load_of}
use Rattle.afdx_load.specs.Bounds.{high_bound, low_bound, bounds_of}
use Rattle.afdx_load.specs.Accepted.{Carries}
use Rattle.afdx_load.specs.Inner.Laws.{HighLinksLeaveAPart}
use Rattle.afdx_grouping.specs.Groups.{lesser_load}
use Rattle.afdx_grouping.specs.Laws.{BoundsAreNoMore}
use Rattle.afdx_grouping.specs.Scatter.{scattered, IsAcceptedWith}
use Rattle.afdx_jitter.specs.declared.delays.Delays.{Delays}
use Rattle.afdx_jitter.specs.Delay.{hop_of}
use Rattle.afdx_wiring.specs.declared.fault.NetworkFault.{NetworkFault}
use Rattle.afdx_wiring.specs.declared.fault.NetworkFault.TheVariants as fault
use Rattle.afdx_network_check.specs.declared.exit.Exit.{Exit}
use Rattle.afdx_network_check.specs.Net.{Network, Row, rows_of, row_at, rounding_at, least_at, scatter_at, load_at, bound_in}
use Rattle.afdx_network_check.specs.Order.{Answer, has_source, within_reason, hop_from, hop_on, misfit}
use Rattle.afdx_network_check.specs.Rules.{FitSwitches}
use Rattle.afdx_network_check.specs.Ways.{leads_out, line_of, exits_at, exits_of, IsWayFault}
use Rattle.afdx_network_check.specs.Inner.Walks.{HopsAreThere, HasRow}
use Rattle.afdx_network_check.proofs.Alike.{found, known, all_at, contains_tail}
use Rattle.afdx_network_check.proofs.Chains.{fine}
use Rattle.afdx_network_check.proofs.Enough.{from_port}
use Rattle.afdx_network_check.proofs.FeedLemmas.{before_says, before_is}
use Rattle.afdx_network_check.proofs.Fits.{each_has_source}
use Rattle.afdx_network_check.proofs.LesserOrder.{lesser_bounded}
use Rattle.afdx_network_check.proofs.LoadOrder.{kept, burst_pays, high, low}
use Rattle.afdx_network_check.proofs.Staying.{above}
use Rattle.afdx_network_check.proofs.WayLemmas.{exit_in}

-- ---- ports

-- the port of a number
record HasPort (ports : List PortRow) (id : ℕ) : Type 0 where
  pub port : PortRow
  pub port_is : find (λ p. p.id == id) ports ≡ Some port
  pub number : port.id ≡ id
  pub among : Contains ports port

port_there : (ports : List PortRow) (id : ℕ) → has_port ports id ≡ true → HasPort ports id
port_there [] id has = absurd cc
port_there (q ∷ ports) id has = by (port_there ports id) (q.id == id) refl has where
  by : (has_port ports id ≡ true → HasPort ports id) → (b : Bool) → (q.id == id) ≡ b → (b || has_port ports id) ≡ true → HasPort (q ∷ ports) id
  by further true is has = record {
    port = q;
    port_is = ap (λ b. cond b (Some q) (find (λ p. p.id == id) ports)) is;
    number = eqb-true q.id id is;
    among = (0, omega arith, refl);
  }
  by further false is has =
      let rest = further has in
      record {
        port = rest.port;
        port_is = ap (λ b. cond b (Some q) (find (λ p. p.id == id) ports)) is ∙ rest.port_is;
        number = rest.number;
        among = contains_tail ports rest.port q rest.among;
      }

-- a link leads to ports of its table
target_there : (ports : List PortRow) (to : List ℕ) (port : ℕ) → AllByRecursion (λ p. has_port ports p ≡ true) to → list_any (λ p. p == port) to ≡ true → has_port ports port ≡ true
target_there ports [] port all leads = absurd cc
target_there ports (q ∷ to) port all leads = by (target_there ports to port all.1) (q == port) refl leads where
  by : (list_any (λ p. p == port) to ≡ true → has_port ports port ≡ true) → (b : Bool) → (q == port) ≡ b → (b || list_any (λ p. p == port) to) ≡ true → has_port ports port ≡ true
  by further true is leads = subst (λ (n : ℕ). has_port ports n ≡ true) (eqb-true q port is) all.0
  by further false is leads = further leads

-- ---- a bound is there, and within reason

record Within (load : Load) (priority : Priority) : Type 0 where
  pub bound : ℕ
  pub bound_is : bound_in (bounds_of load) priority ≡ Some bound
  pub most : bound ≤ 500000000

at_some : (o : Option ℕ) (n m : ℕ) → o ≡ Some n → IfSome o (λ b. b ≤ m) → n ≤ m
at_some o n m is all = subst (λ (q : Option ℕ). IfSome q (λ b. b ≤ m)) is all

carried : (p : PortRow) (load : Load) → Carries p load → (priority : Priority) (n : ℕ) → bound_in (bounds_of load) priority ≡ Some n → n ≤ p.max_delay
carried p load h High n is = at_some (high_bound load) n p.max_delay is h.high
carried p load h Low n is = at_some (low_bound load) n p.max_delay is h.low

-- some link leads to the port
some : (t : Content) (p : PortRow) (l : Link) → IsLink t.ports l → Contains t.links l → leads_to p.id l ≡ true
    → 0 < (load_of t.latency p.speed p.id t.links).highs + (load_of t.latency p.speed p.id t.links).lows
some t p l is_link among leads =
    let there = kept (leads_to p.id) t.links l among.0 among.1 among.2 leads in
    by l.priority refl there (burst_pays p.speed l is_link.size_least) where
      by : (priority : Priority) → l.priority ≡ priority → Contains (routed p.id t.links) l → parts * cost_of p.speed 64 ≤ burst_of p.speed l
          → 0 < (load_of t.latency p.speed p.id t.links).highs + (load_of t.latency p.speed p.id t.links).lows
      by High is there pays = let h = (high p.speed (routed p.id t.links) t.latency l there (ap is_high is) pays).0 in omega (arith, h)
      by Low is there pays = let h = (low p.speed (routed p.id t.links) t.latency l there (ap (λ q. not (is_high q)) is) pays).0 in omega (arith, h)

bounded : HighLinksLeaveAPart → BoundsAreNoMore → (d : ℕ) (roundings : ℕ → Option ℕ) (t : Content) (p : PortRow) (l : Link) → IsWellFormed t → Contains t.ports p → Contains t.links l
    → leads_to p.id l ≡ true → IsAcceptedWith d t → Within (lesser_load d roundings t p) l.priority
bounded leaves less d roundings t p l formed port among leads accepted =
    let is_link : IsLink t.ports l = All-contains (IsLink t.ports) t.links l (All-from_recursion (IsLink t.ports) t.links formed.links) among in
    let is_port : IsPort p = All-contains IsPort t.ports p (All-from_recursion IsPort t.ports formed.ports) port in
    let carries : Carries p (scattered d (load_of t.latency p.speed p.id t.links))
    = All-contains (λ q. 0 < (load_of t.latency q.speed q.id t.links).highs + (load_of t.latency q.speed q.id t.links).lows → Carries q (scattered d (load_of t.latency q.speed q.id t.links)))
    t.ports p accepted port (some t p l is_link among leads) in
    let lesser = lesser_bounded leaves d roundings t p l formed among leads carries.rate in
    let whole = above less d roundings t p formed l.priority lesser.bound lesser.bound_is in
    let most = carried p (scattered d (load_of t.latency p.speed p.id t.links)) carries l.priority whole.bound whole.bound_is in
    let order = whole.order in
    let delay = is_port.delay_most in
    record { bound = lesser.bound; bound_is = lesser.bound_is; most = omega (arith, most, order, delay) }

reasonable : (n : ℕ) → n ≤ 500000000 → within_reason n ≡ Some n
reasonable n few = ap (λ b. cond b (Some n) None) (test n few) where
  test : (n : ℕ) → n ≤ 500000000 → nat_le n 1000000000000 ≡ true
  test n few = grind (arith, nat_tests)

-- ---- each hop is there

hop_there : (net : Network) (r : Row) (port cable : ℕ) (t : Content) (p : PortRow) → slice_get net.tables r.switch ≡ Some t → port_row t port ≡ Some p
    → Within (load_at net r.switch t p) r.link.priority → IsSome (hop_on net r port cable)
hop_there net r port cable t p t_is p_is within =
    let bound : bound_in (bounds_of (load_at net r.switch t p)) r.link.priority ≡ Some within.bound = within.bound_is in
    let is : hop_on net r port cable ≡ Some (hop_of p.speed (least_at net r.switch t) within.bound cable)
    = ap (option_and_then (hop_from net r port cable)) t_is
    ∙ ap (from_port net t r cable) p_is
    ∙ ap (λ (o : Option ℕ). option_map (λ (n : ℕ). hop_of p.speed (least_at net r.switch t) n cable) (option_and_then within_reason o)) bound
    ∙ ap (option_map (λ (n : ℕ). hop_of p.speed (least_at net r.switch t) n cable)) (reasonable within.bound within.most) in
    ap (λ (o : Option Delays). is_some o) is

pub hops_are_there : LinksAreFound → HighLinksLeaveAPart → BoundsAreNoMore → (net : Network) → All IsWellFormed net.tables → FitSwitches net → HopsAreThere net
hops_are_there links leaves less net formed fit id line r is =
    let before = before_says net id line r is in
    let h = found net line.from.switch id r before.row_is in
    let there : slice_get net.tables r.switch ≡ Some h.table = subst (λ (n : ℕ). slice_get net.tables n ≡ Some h.table) (sym h.switch_is) h.table_is in
    let table = all_at IsWellFormed net.tables r.switch h.table formed there in
    let among : Contains h.table.links r.link = (links.is_row h.table id r.link h.link_is).1 in
    let is_link : IsLink h.table.ports r.link = All-contains (IsLink h.table.ports) h.table.links r.link (All-from_recursion (IsLink h.table.ports) h.table.links table.links) among in
    let port = port_there h.table.ports line.from.port (target_there h.table.ports r.link.to line.from.port is_link.targets.are_ports before.leads) in
    let leads : leads_to port.port.id r.link ≡ true = subst (λ (n : ℕ). leads_to n r.link ≡ true) (sym port.number) before.leads in
    hop_there net r line.from.port line.delay h.table port.port there port.port_is
    (bounded leaves less (scatter_at net r.switch h.table) (rounding_at net r.switch) h.table port.port r.link table port.among among leads (fit r.switch h.table there).accepted)

-- ---- each exit is that of a row

leads : (to : List ℕ) (port k : ℕ) → k < length to → get_or to k port ≡ port → list_any (λ p. p == port) to ≡ true
leads [] port k within at = absurd (omega (arith, within))
leads (q ∷ to) port zero within at = ap (λ b. b || list_any (λ p. p == port) to) (equal q port at) where
  equal : (m n : ℕ) → m ≡ n → (m == n) ≡ true
  equal m n is = grind (arith, nat_tests)
leads (q ∷ to) port (suc k) within at = by (leads to port k (omega (arith, within)) at) (q == port) where
  by : list_any (λ p. p == port) to ≡ true → (b : Bool) → (b || list_any (λ p. p == port) to) ≡ true
  by rest true = refl
  by rest false = rest

row_of_exit : (net : Network) (r : Row) (port : ℕ) → Contains (rows_of net) r → row_at net r.switch r.link.id ≡ Some r → Contains r.link.to port → HasRow net (exit_in r port)
row_of_exit net r port among is one = record {
  row = r;
  known = among;
  switch = refl;
  number = refl;
  leads = before_is net r.link.id (line_of (exit_in r port)) r is (leads r.link.to port one.0 one.1 one.2);
}

flat : (P : Exit → Type 0) (f : Row → List Exit) (rs : List Row) → ((r : Row) → Contains rs r → All P (f r)) → All P (flat_map f rs)
flat P f [] each = All-nil P
flat P f (r ∷ rs) each = All-append P (f r) (flat_map f rs) (each r (0, omega arith, refl)) (flat P f rs (λ q among. each q (contains_tail rs q r among)))

pub exits_have_rows : LinksAreFound → (net : Network) → All IsWellFormed net.tables → (exits : List Exit) → IsPermutation (exits_of net) exits → All (HasRow net) exits
exits_have_rows links net formed exits same =
    All-permutation (HasRow net) (exits_of net) exits same
    (flat (HasRow net) (exits_at net) (rows_of net)
    (λ r among. All-filter (leads_out net) (HasRow net) (map (exit_in r) r.link.to)
    (All-map (HasRow net) (exit_in r) r.link.to (λ k d within. row_of_exit net r (get_or r.link.to k d) among (known links net formed r among) (Contains-get_or r.link.to k d within)))))

-- ---- where ways are not found

-- what is kept is not refused
not_refused : (answer : Answer) (f : NetworkFault) → answer ≡ fine → answer ≡ Err f → ⊥
not_refused answer f kept is = cc

-- where the tables fit together none is
pub only_memory : (net : Network) (f : NetworkFault) → misfit net ≡ Ok tt → IsWayFault net f → f ≡ fault.Memory
only_memory net f fits (inl is) = is
only_memory net f fits (inr (r, among, is)) =
    absurd (not_refused (has_source net r) f (All-contains (λ q. has_source net q ≡ Ok tt) (rows_of net) r (each_has_source net fits) among) is)

pub if_err : {X : Type 0} (net : Network) (r : Result X NetworkFault) → misfit net ≡ Ok tt → IfErr r (IsWayFault net) → IfErr r (λ f. f ≡ fault.Memory)
if_err net (Ok x) fits given = tt
if_err net (Err f) fits given = only_memory net f fits given
