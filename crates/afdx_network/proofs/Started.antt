-- The switches before the first window: nothing came in, and nothing left.
use Rattle.std.proofs.Common.{◌≡◌, ◌<◌, ◌+◌, ◌==◌, ℕ, zero, suc, Bool, true, false, cond, not, List, [], ◌∷◌, ◌++◌, length, map, filter, find, get_or, slice_get}
use Rattle.std.proofs.Common.{◌||◌, Option, Some, None, Ok, is_some, refl, ap, sym, ◌∙◌, arith, subst}
use Rattle.std.specs.Prelude.{All, Contains, option_and_then}
use Rattle.std.specs.List.{AllByRecursion}
use Rattle.std.proofs.lemmas.Bool.{eq-eqb, false≢true}
use Rattle.std.proofs.lemmas.Option.{slice_get_within}
use Rattle.std.proofs.lemmas.List.Elements.{All-contains_itself, All-weaker}
use Rattle.afdx_pcap.specs.Record.{Record}
use Rattle.afdx_pcap.specs.Text.{capture_text}
use Rattle.afdx_table.specs.declared.rows.PortRow.{PortRow}
use Rattle.afdx_table.specs.Content.{Content, port_row}
use Rattle.afdx_table.specs.WellFormed.{IsWellFormed}
use Rattle.afdx_core.specs.Rows.{feed_of}
use Rattle.afdx_core.specs.Merge.{Arrival, arrivals_of, by_stamp}
use Rattle.afdx_session.specs.Texts.{Text}
use Rattle.afdx_session.specs.Output.{written}
use Rattle.afdx_session.specs.Streams.{sent_up_to}
use Rattle.afdx_paced.specs.Paced.{Lane, Paced, captures_of, arrivals, fresh_lane, fresh_paced, lane_at, out_up_to, IsNext}
use Rattle.afdx_wiring.specs.declared.fault.At.TheVariants as place
use Rattle.afdx_wiring.specs.declared.fault.NetworkFault.TheVariants as fault
use Rattle.afdx_wiring.specs.declared.layout.End.{End}
use Rattle.afdx_wiring.specs.declared.layout.Wire.{Wire}
use Rattle.afdx_wiring.specs.Refusal.{◌>>=◌, unless}
use Rattle.afdx_network_check.specs.Net.{Network}
use Rattle.afdx_network_check.specs.Order.{is_port, has_ports, by_wires, lost_port}
use Rattle.afdx_network.specs.Inner.Sites.{Site, left_texts, IsRunning, HasSent, HasCome, carried, IsCarried, IsFresh}
use Rattle.afdx_network.proofs.Found.{contains_head, contains_tail, of_all}
use Rattle.afdx_network.proofs.Carrying.{carried_none}
use Rattle.afdx_network.proofs.Lanes.{of_port, at_lane}

-- ---- both ends of a wire are ports

pub record HasEnds (tables : List Content) (w : Wire) : Type 0 where
  pub from_is : is_port tables w.from ≡ true
  pub to_is : is_port tables w.to ≡ true

ends_there : (tables : List Content) (n : ℕ) (ws : List Wire) → by_wires (has_ports tables) n ws ≡ Ok tt → AllByRecursion (HasEnds tables) ws
ends_there tables n [] ok = tt
ends_there tables n (w ∷ ws) ok = by (is_port tables w.from) refl (is_port tables w.to) refl (ends_there tables (n + 1) ws) ok where
  by : (a : Bool) → is_port tables w.from ≡ a → (b : Bool) → is_port tables w.to ≡ b → (by_wires (has_ports tables) (n + 1) ws ≡ Ok tt → AllByRecursion (HasEnds tables) ws)
      → (unless (not a || not b) (fault.NoSuchPort (place.Wire (n + 1))) >>= (λ _. by_wires (has_ports tables) (n + 1) ws)) ≡ Ok tt → AllByRecursion (HasEnds tables) (w ∷ ws)
  by true from true to rest ok = (record { from_is = from; to_is = to }, rest ok)
  by true from false to rest ok = absurd cc
  by false from true to rest ok = absurd cc
  by false from false to rest ok = absurd cc

pub all_ends : (tables : List Content) (ws : List Wire) → lost_port tables ws ≡ Ok tt → AllByRecursion (HasEnds tables) ws
unfolding lost_port
all_ends tables ws ok = ends_there tables 0 ws ok

pub record PortThere (net : Network) (e : End) : Type 0 where
  pub table : Content
  pub port : PortRow
  pub table_is : slice_get net.tables e.switch ≡ Some table
  pub row_is : port_row table e.port ≡ Some port

pub port_there : (net : Network) (e : End) → is_port net.tables e ≡ true → PortThere net e
port_there net e is = by (slice_get net.tables e.switch) refl is where
  row : (t : Content) → slice_get net.tables e.switch ≡ Some t → (o : Option PortRow) → port_row t e.port ≡ o → is_some o ≡ true → PortThere net e
  row t at None found none = absurd (false≢true none)
  row t at (Some p) found some = record { table = t; port = p; table_is = at; row_is = found }

  by : (o : Option Content) → slice_get net.tables e.switch ≡ o → is_some (option_and_then (λ t. port_row t e.port) o) ≡ true → PortThere net e
  by None at none = absurd (false≢true none)
  by (Some t) at some = row t at (port_row t e.port) refl some

-- a port has a lane
pub lane_of_row : (ports : List PortRow) (lanes : List Lane) (port : ℕ) (p : PortRow) → map (λ (l : Lane). l.port) lanes ≡ map (λ (q : PortRow). q.id) ports
    → find (λ (q : PortRow). q.id == port) ports ≡ Some p → (l : Lane) × (find (of_port port) lanes ≡ Some l)
lane_of_row [] lanes port p same is = absurd cc
lane_of_row (q ∷ ports) [] port p same is = absurd cc
lane_of_row (q ∷ ports) (l ∷ lanes) port p same is = by (q.id == port) refl (λ others. lane_of_row ports lanes port p others) where
  number : l.port ≡ q.id
  number = cc

  others : map (λ (m : Lane). m.port) lanes ≡ map (λ (x : PortRow). x.id) ports
  others = cc

  by : (b : Bool) → (q.id == port) ≡ b
      → (map (λ (m : Lane). m.port) lanes ≡ map (λ (x : PortRow). x.id) ports → find (λ (x : PortRow). x.id == port) ports ≡ Some p → (m : Lane) × (find (of_port port) lanes ≡ Some m))
      → (m : Lane) × (cond (l.port == port) (Some l) (find (of_port port) lanes) ≡ Some m)
  by true passes further = (l, ap (λ b. cond b (Some l) (find (of_port port) lanes)) (ap (λ n. n == port) number ∙ passes))
  by false fails further =
      let past = ap (λ b. cond b (Some q) (find (λ (x : PortRow). x.id == port) ports)) fails in
      let rest = further others (sym past ∙ is) in
      (rest.0, ap (λ b. cond b (Some l) (find (of_port port) lanes)) (ap (λ n. n == port) number ∙ fails) ∙ rest.1)

pub row_of : (ports : List PortRow) (n : ℕ) → Contains (map (λ (p : PortRow). p.id) ports) n → (p : PortRow) × (find (λ (q : PortRow). q.id == n) ports ≡ Some p)
row_of [] n among = let within = among.1 in absurd (omega (arith, within))
row_of (q ∷ ports) n among = by (q.id == n) refl (λ other. row_of ports n (later other among.0 among.1 among.2)) where
  later : (q.id ≡ n → ⊥) → (k : ℕ) → k < length (map (λ (p : PortRow). p.id) (q ∷ ports)) → get_or (map (λ (p : PortRow). p.id) (q ∷ ports)) k n ≡ n → Contains (map (λ (p : PortRow). p.id) ports) n
  later other zero within is = absurd (other is)
  later other (suc k) within is = (k, omega (arith, within), is)

  by : (b : Bool) → (q.id == n) ≡ b → ((q.id ≡ n → ⊥) → (p : PortRow) × (find (λ (x : PortRow). x.id == n) ports ≡ Some p))
      → (p : PortRow) × (cond (q.id == n) (Some q) (find (λ (x : PortRow). x.id == n) ports) ≡ Some p)
  by true is rest = (q, ap (λ b. cond b (Some q) (find (λ (x : PortRow). x.id == n) ports)) is)
  by false is rest =
      let found = rest (λ same. false≢true (sym is ∙ eq-eqb q.id n same)) in
      (found.0, ap (λ b. cond b (Some q) (find (λ (x : PortRow). x.id == n) ports)) is ∙ found.1)

-- ---- nothing came in

fresh_arrivals : (ports : List PortRow) → arrivals_of (captures_of (map fresh_lane ports)) ≡ []
fresh_arrivals [] = refl
fresh_arrivals (p ∷ ports) = fresh_arrivals ports

fresh_sent : (t : Content) (n : ℕ) (p : PortRow) → sent_up_to t [] (Some n) p ≡ []
unfolding sent_up_to feed_of
fresh_sent t n p = refl

fresh_ports : (ports : List PortRow) → map (λ (l : Lane). l.port) (map fresh_lane ports) ≡ map (λ (p : PortRow). p.id) ports
fresh_ports [] = refl
fresh_ports (p ∷ ports) = ap (λ (ns : List ℕ). p.id ∷ ns) (fresh_ports ports)

fresh_texts : (ports : List PortRow) → map (λ (p : PortRow). (p.id, capture_text [])) ports ≡ left_texts (map fresh_lane ports)
fresh_texts [] = refl
fresh_texts (p ∷ ports) = ap (λ (xs : List Text). (p.id, capture_text []) ∷ xs) (fresh_texts ports)

fresh_none : (ports : List PortRow) → AllByRecursion (λ (l : Lane). l.left ≡ []) (map fresh_lane ports)
fresh_none [] = tt
fresh_none (p ∷ ports) = (refl, fresh_none ports)

pub fresh_came : (ports : List PortRow) → AllByRecursion (λ (l : Lane). l.came ≡ []) (map fresh_lane ports)
fresh_came [] = tt
fresh_came (p ∷ ports) = (refl, fresh_came ports)

fresh_out : (keeps : Bool) (t : Content) (n : ℕ) (p : PortRow) → out_up_to (fresh_paced keeps t) (Some n) p ≡ []
fresh_out keeps t n p =
    let none : arrivals (fresh_paced keeps t) ≡ [] = ap by_stamp (fresh_arrivals t.ports) in
    ap (λ (xs : List Arrival). map (written xs) (sent_up_to t xs (Some n) p)) none ∙ ap (map (written [])) (fresh_sent t n p)

fresh_is : (keeps : Bool) (t : Content) (s : Site) → IsFresh keeps t s
    → s ≡ record { paced = fresh_paced keeps t; left = map (λ (p : PortRow). (p.id, capture_text [])) t.ports; gone = map (λ (p : PortRow). []) t.ports; next = s.next }
fresh_is keeps t s is =
    let made : Paced → List Text → List (List ℕ) → Site = λ v left gone. record { paced = v; left = left; gone = gone; next = s.next } in
    ap (λ (v : Paced). made v s.left s.gone) is.paced ∙ ap (λ (left : List Text). made (fresh_paced keeps t) left s.gone) is.left
    ∙ ap (made (fresh_paced keeps t) (map (λ (p : PortRow). (p.id, capture_text [])) t.ports)) is.gone

-- a switch that has gone nowhere
pub record IsAtStart (t : Content) (s : Site) : Type 0 where
  pub running : IsRunning s
  pub table : s.paced.table ≡ t
  pub reached : s.paced.reached ≡ 0
  pub sent : HasSent (Some 0) s
  pub left : AllByRecursion (λ (l : Lane). l.left ≡ []) s.paced.lanes
  pub came : AllByRecursion (λ (l : Lane). l.came ≡ []) s.paced.lanes

pub start_fresh : (keeps : Bool) (t : Content) (s : Site) → IsWellFormed t → IsFresh keeps t s → IsAtStart t s
start_fresh keeps t s formed is = subst (IsAtStart t) (sym (fresh_is keeps t s is)) (record {
  running = record {
    formed = formed;
    going = refl;
    ports = fresh_ports t.ports;
    left = fresh_texts t.ports;
    next = subst (λ (v : Paced). IsNext v s.next) is.paced is.next;
    prefix = λ port p l row found.
        let none = at_lane (λ (m : Lane). m.left ≡ []) (map fresh_lane t.ports) port l (fresh_none t.ports) found in
        (out_up_to (fresh_paced keeps t) (Some 0) p, ap (λ (rs : List Record). rs ++ out_up_to (fresh_paced keeps t) (Some 0) p) (sym none));
  };
  table = refl;
  reached = refl;
  sent = λ port p l row found. let none = ap length (fresh_out keeps t 0 p) in omega (arith, none);
  left = fresh_none t.ports;
  came = fresh_came t.ports;
})

pub start_come : (t : Content) (s : Site) → IsAtStart t s → HasCome 0 s
start_come t s is = record { reached = let at = is.reached in omega (arith, at); sent = is.sent }

-- ---- numbers of ports

pub filter_has : (p : ℕ → Bool) (ns : List ℕ) (n : ℕ) → p n ≡ true → Contains ns n → Contains (filter p ns) n
filter_has p [] n passes among = let within = among.1 in absurd (omega (arith, within))
filter_has p (m ∷ ns) n passes among = at among.0 among.1 among.2 (λ has. filter_has p ns n passes has) where
  at : (k : ℕ) → k < length (m ∷ ns) → get_or (m ∷ ns) k n ≡ n → (Contains ns n → Contains (filter p ns) n) → Contains (filter p (m ∷ ns)) n
  at zero within is further = subst (λ b. Contains (cond b (m ∷ filter p ns) (filter p ns)) n) (sym (ap p is ∙ passes)) (contains_head (filter p ns) n m is)
  at (suc k) within is further = by (p m) (further (k, omega (arith, within), is)) where
    by : (b : Bool) → Contains (filter p ns) n → Contains (cond b (m ∷ filter p ns) (filter p ns)) n
    by true rest = contains_tail (filter p ns) n m rest
    by false rest = rest

pub text_of : (own : List Text) (port : ℕ) → Contains (map (λ (text : Text). text.0) own) port → (bytes : List ℕ) × Contains own (port, bytes)
text_of [] port among = let within = among.1 in absurd (omega (arith, within))
text_of (x ∷ own) port among = at among.0 among.1 among.2 (λ has. text_of own port has) where
  at : (k : ℕ) → k < length (map (λ (text : Text). text.0) (x ∷ own)) → get_or (map (λ (text : Text). text.0) (x ∷ own)) k port ≡ port
      → (Contains (map (λ (text : Text). text.0) own) port → (bytes : List ℕ) × Contains own (port, bytes)) → (bytes : List ℕ) × Contains (x ∷ own) (port, bytes)
  at zero within is further = (x.1, contains_head own (port, x.1) x (ap (λ n. (n, x.1)) is))
  at (suc k) within is further = let rest = further (k, omega (arith, within), is) in (rest.0, contains_tail own (port, rest.0) x rest.1)

pub ports_among : (ports : List PortRow) (lanes : List Lane) → map (λ (l : Lane). l.port) lanes ≡ map (λ (p : PortRow). p.id) ports
    → AllByRecursion (λ (l : Lane). Contains (map (λ (p : PortRow). p.id) ports) l.port) lanes
ports_among ports lanes same = subst (λ (ns : List ℕ). AllByRecursion (λ (l : Lane). Contains ns l.port) lanes) same (own lanes) where
  wider : (n : ℕ) (ns : List ℕ) (ls : List Lane) → AllByRecursion (λ (l : Lane). Contains ns l.port) ls → AllByRecursion (λ (l : Lane). Contains (n ∷ ns) l.port) ls
  wider n ns [] all = tt
  wider n ns (l ∷ ls) all = (contains_tail ns l.port n all.0, wider n ns ls all.1)

  own : (ls : List Lane) → AllByRecursion (λ (l : Lane). Contains (map (λ (m : Lane). m.port) ls) l.port) ls
  own [] = tt
  own (l ∷ ls) = (contains_head (map (λ (m : Lane). m.port) ls) l.port l.port refl, wider l.port (map (λ (m : Lane). m.port) ls) ls (own ls))

pub each_lane : (P Q R : Lane → Type 0) (lanes : List Lane) → ((l : Lane) → P l → Q l → R l) → AllByRecursion P lanes → AllByRecursion Q lanes → AllByRecursion R lanes
each_lane P Q R [] h one other = tt
each_lane P Q R (l ∷ lanes) h one other = (h l one.0 other.0, each_lane P Q R lanes h one.1 other.1)

-- ---- all switches

at_place : {X : Type 0} (xs : List X) (k : ℕ) → k < length xs → (x : X) × (slice_get xs k ≡ Some x)
at_place [] k lt = absurd (omega (arith, lt))
at_place (x ∷ xs) zero lt = (x, refl)
at_place (x ∷ xs) (suc k) lt = at_place xs k (omega (arith, lt))

-- both ends of each wire are there, and nothing has gone over it
pub none_carried : (net : Network) (sites : List Site) → lost_port net.tables net.layout.wires ≡ Ok tt → length sites ≡ length net.tables
    → ((n : ℕ) (t : Content) (s : Site) → slice_get net.tables n ≡ Some t → slice_get sites n ≡ Some s → IsAtStart t s) → All (IsCarried sites) net.layout.wires
none_carried net sites ends all each =
    All-weaker (λ w. Contains net.layout.wires w) (IsCarried sites) (λ w among. nothing_over w among) net.layout.wires (All-contains_itself net.layout.wires) where
      there : (e : End) → is_port net.tables e ≡ true → (t : Content) × (s : Site) × (l : Lane) × (slice_get net.tables e.switch ≡ Some t) × (slice_get sites e.switch ≡ Some s)
          × (lane_at s.paced e.port ≡ Some l)
      there e is =
          let p = port_there net e is in
          let site = at_place sites e.switch (let lt = slice_get_within net.tables e.switch p.table p.table_is in omega (arith, lt, all)) in
          let started = each e.switch p.table site.0 p.table_is site.1 in
          let lane = lane_of_row site.0.paced.table.ports site.0.paced.lanes e.port p.port started.running.ports (ap (λ (c : Content). port_row c e.port) started.table ∙ p.row_is) in
          (p.table, site.0, lane.0, p.table_is, site.1, lane.1)

      nothing_over : (w : Wire) → Contains net.layout.wires w → IsCarried sites w
      nothing_over w among =
          let both = of_all (HasEnds net.tables) net.layout.wires w (all_ends net.tables net.layout.wires ends) among in
          let from = there w.from both.from_is in
          let to = there w.to both.to_is in
          let none = at_lane (λ (l : Lane). l.left ≡ []) from.1.paced.lanes w.from.port from.2 (each w.from.switch from.0 from.1 from.3 from.4).left from.5 in
          let silent = at_lane (λ (l : Lane). l.came ≡ []) to.1.paced.lanes w.to.port to.2 (each w.to.switch to.0 to.1 to.3 to.4).came to.5 in
          record {
            start = from.2;
            there = to.2;
            start_is = ap (option_and_then (λ (s : Site). lane_at s.paced w.from.port)) from.4 ∙ from.5;
            there_is = ap (option_and_then (λ (s : Site). lane_at s.paced w.to.port)) to.4 ∙ to.5;
            same = silent ∙ sym (carried_none w) ∙ ap (carried w) (sym none);
          }
