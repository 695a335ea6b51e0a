-- Wires whose ends agree, and the rows behind them.
use Rattle.std.proofs.Common.{◌≡◌, ◌==◌, Bool, true, false, List, [], ◌∷◌, filter, cond, slice_get, Option, Some, None, option_map, option_and_then, Ok, Err, not, refl, ap, sym, ◌∙◌}
use Rattle.std.proofs.Common.{arith, subst}
use Rattle.std.specs.Prelude.{Contains}
use Rattle.std.specs.List.{AllByRecursion}
use Rattle.std.specs.Str.{bytes_eq}
use Rattle.std.proofs.lemmas.List.Elements.{All-from_recursion, recursion_from_All, All-weaker, All-contains}
use Rattle.std.proofs.lemmas.Slice.Eq.{bytes_eq-Decides}
use Rattle.std.proofs.lemmas.Bool.{eqb-true, and_parts}
use Rattle.std.proofs.lemmas.Option.{same_Some}
use Rattle.afdx_units.specs.declared.bag.Bag.{Bag}
use Rattle.afdx_units.specs.declared.bag.Bag.TheVariants.{Ms1, Ms2, Ms4, Ms8, Ms16, Ms32, Ms64, Ms128}
use Rattle.afdx_units.specs.declared.line.Speed.{Speed}
use Rattle.afdx_units.specs.declared.line.Speed.TheVariants.{Ten, Hundred, Thousand}
use Rattle.afdx_units.specs.declared.police.Police.{Police}
use Rattle.afdx_units.specs.declared.police.Police.TheVariants.{Byte, Frame}
use Rattle.afdx_units.specs.Time.{bag_ms}
use Rattle.afdx_table.specs.declared.rows.PortRow.{PortRow}
use Rattle.afdx_table.specs.Link.{Link, leads_to}
use Rattle.afdx_table.specs.Content.{Content, link_row}
use Rattle.afdx_table.specs.Names.{bag_of}
use Rattle.afdx_wiring.specs.declared.fault.At.{At}
use Rattle.afdx_wiring.specs.declared.fault.NetworkFault.TheVariants as fault
use Rattle.afdx_wiring.specs.declared.layout.Wire.{Wire}
use Rattle.afdx_network_check.specs.declared.shared.Shared.{Shared}
use Rattle.afdx_network_check.specs.declared.shared.Shared.TheVariants as shared
use Rattle.afdx_wiring.specs.Refusal.{◌>>=◌, or_refuse, unless}
use Rattle.afdx_wiring.specs.File.{is_end}
use Rattle.afdx_network_check.specs.Net.{Network, Row, port_at, row_in, rows_of, rows_on, IsRowOf}
use Rattle.afdx_network_check.specs.Rules.{Joins, GoesOn}
use Rattle.afdx_network_check.specs.Order.{Answer, first_of, same_constant, same_rate, same_speed, joined_at, same_police, same_terms, agrees, goes_on, all_go_on, shares}
use Rattle.afdx_network_check.proofs.Chains.{fine, first_kept, rest_kept, unless_not, all_kept, all_rows}

-- ---- constants and speeds

speeds : (a b : Speed) → same_rate a b ≡ true → a ≡ b
speeds Ten Ten h = refl
speeds Hundred Hundred h = refl
speeds Thousand Thousand h = refl
speeds Ten Hundred h = absurd cc
speeds Ten Thousand h = absurd cc
speeds Hundred Ten h = absurd cc
speeds Hundred Thousand h = absurd cc
speeds Thousand Ten h = absurd cc
speeds Thousand Hundred h = absurd cc

record Tables (here there : Option Content) : Type 0 where
  pub first : Content
  pub second : Content
  pub first_is : here ≡ Some first
  pub second_is : there ≡ Some second
  pub constant : second.constant ≡ first.constant

tables : (at : At) (here there : Option Content) → same_constant at here there ≡ Ok tt → Tables here there
tables at (Some a) (Some b) h =
    record { first = a; second = b; first_is = refl; second_is = refl; constant = (bytes_eq-Decides b.constant a.constant).0 (unless_not (bytes_eq b.constant a.constant) (fault.Constant at) h) }
tables at (Some a) None h = absurd cc
tables at None there h = absurd cc

record Ports (start goal : Option PortRow) : Type 0 where
  pub first : PortRow
  pub second : PortRow
  pub first_is : start ≡ Some first
  pub second_is : goal ≡ Some second
  pub speed : second.speed ≡ first.speed

ports : (at : At) (start goal : Option PortRow) → same_speed at start goal ≡ Ok tt → Ports start goal
ports at (Some p) (Some q) h =
    record { first = p; second = q; first_is = refl; second_is = refl; speed = speeds q.speed p.speed (unless_not (same_rate q.speed p.speed) (fault.Speed at) h) }
ports at (Some p) None h = absurd cc
ports at None goal h = absurd cc

pub joins : (net : Network) (at : At) (w : Wire) → joined_at net at w ≡ Ok tt → Joins net w
joins net at w h =
    let constants : Answer = same_constant at (slice_get net.tables w.from.switch) (slice_get net.tables w.to.switch) in
    let rest : Unit {0} → Answer = λ _. same_speed at (port_at net w.from) (port_at net w.to) in
    let t = tables at (slice_get net.tables w.from.switch) (slice_get net.tables w.to.switch) (first_kept constants rest tt h) in
    let p = ports at (port_at net w.from) (port_at net w.to) (rest_kept constants rest tt h) in
    record {
      here = t.first;
      there = t.second;
      start = p.first;
      goal = p.second;
      here_is = t.first_is;
      there_is = t.second_is;
      start_is = p.first_is;
      goal_is = p.second_is;
      constant = t.constant;
      speed = p.speed;
    }

-- ---- rows

bag_found : (a : Bag) → bag_of (bag_ms a) ≡ Some a
unfolding bag_of
bag_found Ms1 = refl
bag_found Ms2 = refl
bag_found Ms4 = refl
bag_found Ms8 = refl
bag_found Ms16 = refl
bag_found Ms32 = refl
bag_found Ms64 = refl
bag_found Ms128 = refl

bags : (a b : Bag) → bag_ms a ≡ bag_ms b → a ≡ b
bags a b h = same_Some _ _ (sym (bag_found a) ∙ ap bag_of h ∙ bag_found b)

polices : (a b : Police) → same_police a b ≡ true → a ≡ b
polices Byte Byte h = refl
polices Frame Frame h = refl
polices Byte Frame h = absurd cc
polices Frame Byte h = absurd cc

-- the row behind a wire, of which each rule was kept
record Behind (there : Content) (w : Wire) (l : Link) : Type 0 where
  pub next : Link
  pub next_is : link_row there l.id ≡ Some next
  pub from_port : next.from ≡ w.to.port
  pub size : next.max_size ≡ l.max_size
  pub bag : next.bag ≡ l.bag
  pub police : next.police ≡ l.police

same_link : (at : At) (w : Wire) (l next : Link) → agrees shared.Port at w l next ≡ Ok tt → next.from ≡ w.to.port
same_link at w l next h = by (next.from == w.to.port) refl h where
  by : (b : Bool) → (next.from == w.to.port) ≡ b → cond b fine (Err (fault.From at l.id)) ≡ fine → next.from ≡ w.to.port
  by true is kept = eqb-true next.from w.to.port is
  by false is kept = absurd cc

record AreTerms (l next : Link) : Type 0 where
  pub size : next.max_size ≡ l.max_size
  pub bag : next.bag ≡ l.bag
  pub police : next.police ≡ l.police

terms : (at : At) (l next : Link) → same_terms at l next ≡ Ok tt → AreTerms l next
unfolding same_terms
terms at l next h =
    let size : Answer = unless (not (next.max_size == l.max_size)) (fault.Size at l.id) in
    let bag : Answer = unless (not (bag_ms next.bag == bag_ms l.bag)) (fault.Bag at l.id) in
    let police : Answer = unless (not (same_police next.police l.police)) (fault.Police at l.id) in
    let after_size : Unit {0} → Answer = λ _. bag >>= λ _. police in
    let after_bag : Unit {0} → Answer = λ _. police in
    let rest = rest_kept size after_size tt h in
    record {
      size = eqb-true next.max_size l.max_size (unless_not (next.max_size == l.max_size) (fault.Size at l.id) (first_kept size after_size tt h));
      bag = bags next.bag l.bag (eqb-true (bag_ms next.bag) (bag_ms l.bag) (unless_not (bag_ms next.bag == bag_ms l.bag) (fault.Bag at l.id) (first_kept bag after_bag tt rest)));
      police = polices next.police l.police (unless_not (same_police next.police l.police) (fault.Police at l.id) (rest_kept bag after_bag tt rest));
    }

-- what one rule says of the row that is found
agreed : (what : Shared) (at : At) (w : Wire) (l : Link) (o : Option Link) (next : Link) → o ≡ Some next
    → (or_refuse (fault.NoRow at l.id) o >>= agrees what at w l) ≡ Ok tt → agrees what at w l next ≡ Ok tt
agreed what at w l (Some m) next is h = ap (agrees what at w l) (same_Some _ _ (sym is)) ∙ h
agreed what at w l None next is h = absurd cc

there_is : (what : Shared) (at : At) (w : Wire) (l : Link) (o : Option Link) → (or_refuse (fault.NoRow at l.id) o >>= agrees what at w l) ≡ Ok tt → (next : Link) × (o ≡ Some next)
there_is what at w l (Some next) h = (next, refl)
there_is what at w l None h = absurd cc

asked : (what : Shared) (at : At) (there : Content) (w : Wire) (l : Link) → leads_to w.from.port l ≡ true → goes_on what at there w l ≡ Ok tt
    → (or_refuse (fault.NoRow at l.id) (link_row there l.id) >>= agrees what at w l) ≡ Ok tt
asked what at there w l leads h =
    sym (ap (λ b. cond b (or_refuse (fault.NoRow at l.id) (link_row there l.id) >>= agrees what at w l) fine) leads) ∙ h

behind : (number port term : At) (there : Content) (w : Wire) (l : Link) → leads_to w.from.port l ≡ true
    → goes_on shared.Number number there w l ≡ Ok tt → goes_on shared.Port port there w l ≡ Ok tt → goes_on shared.Terms term there w l ≡ Ok tt → Behind there w l
behind number port term there w l leads n p t =
    let found = there_is shared.Number number w l (link_row there l.id) (asked shared.Number number there w l leads n) in
    let same = terms term l found.0 (agreed shared.Terms term w l (link_row there l.id) found.0 found.1 (asked shared.Terms term there w l leads t)) in
    record {
      next = found.0;
      next_is = found.1;
      from_port = same_link port w l found.0 (agreed shared.Port port w l (link_row there l.id) found.0 found.1 (asked shared.Port port there w l leads p));
      size = same.size;
      bag = same.bag;
      police = same.police;
    }

-- one rule kept on a wire, said of the rows of its first table
on_wire : (what : Shared) (at : At) (w : Wire) (h t : Option Content) (here there : Content) → h ≡ Some here → t ≡ Some there → all_go_on what at w h t ≡ Ok tt
    → AllByRecursion (λ l. goes_on what at there w l ≡ Ok tt) here.links
on_wire what at w (Some a) (Some b) here there h_is t_is kept =
    all_kept (goes_on what at there w) here.links
    (ap (λ (c : Content). first_of (goes_on what at there w) c.links) (same_Some _ _ (sym h_is)) ∙ ap (λ (c : Content). first_of (goes_on what at c w) a.links) (same_Some _ _ (sym t_is)) ∙ kept)
on_wire what at w (Some a) None here there h_is t_is kept = absurd cc
on_wire what at w None t here there h_is t_is kept = absurd cc

-- ---- the rows on a wire

all_filter : {X : Type 0} (P : X → Type 0) (p : X → Bool) (xs : List X) → AllByRecursion (λ x. p x ≡ true → P x) xs → AllByRecursion P (filter p xs)
all_filter P p [] all = tt
all_filter P p (x ∷ xs) all = by (p x) refl (all_filter P p xs all.1) where
  by : (b : Bool) → p x ≡ b → AllByRecursion P (filter p xs) → AllByRecursion P (cond b (x ∷ filter p xs) (filter p xs))
  by true is rest = (all.0 is, rest)
  by false is rest = rest

-- a rule that is kept on a wire
abbrev pub SharesAt : Network → Shared → Wire → Type 0
SharesAt net what w = (at : At) × (shares net what at w ≡ Ok tt)

each_link : (net : Network) (what : Shared) (w : Wire) (j : Joins net w) (kept : SharesAt net what w) (l : Link) → Contains j.here.links l → goes_on what kept.0 j.there w l ≡ Ok tt
each_link net what w j kept l among =
    All-contains (λ (m : Link). goes_on what kept.0 j.there w m ≡ Ok tt) j.here.links l
    (All-from_recursion (λ (m : Link). goes_on what kept.0 j.there w m ≡ Ok tt) j.here.links
    (on_wire what kept.0 w (slice_get net.tables w.from.switch) (slice_get net.tables w.to.switch) j.here j.there j.here_is j.there_is kept.1))
    among

goes : (net : Network) (w : Wire) (j : Joins net w) (r : Row) (b : Behind j.there w r.link) → GoesOn net w r
goes net w j r b = record {
  next = row_in w.to.switch b.next;
  next_is =
      ap (option_and_then (λ (c : Content). option_map (row_in w.to.switch) (link_row c r.link.id))) j.there_is
      ∙ ap (option_map (row_in w.to.switch)) b.next_is;
  from_port = b.from_port;
  size = b.size;
  bag = b.bag;
  police = b.police;
}

-- the table that a row is of is the first one of the wire
same_table : (net : Network) (w : Wire) (j : Joins net w) (r : Row) (s : IsRowOf 0 net.tables r) → r.switch ≡ w.from.switch → s.table ≡ j.here
same_table net w j r s at =
    let placed = s.switch in
    let place : s.place ≡ w.from.switch = omega (arith, at, placed) in
    same_Some _ _ (sym s.table_is ∙ ap (slice_get net.tables) place ∙ j.here_is)

-- where the rules on rows were kept on a wire that joins, each row on it goes on
pub all_go : (net : Network) (w : Wire) → Joins net w → SharesAt net shared.Number w → SharesAt net shared.Port w → SharesAt net shared.Terms w → AllByRecursion (GoesOn net w) (rows_on net w)
all_go net w j n p t =
    all_filter (GoesOn net w) (λ (r : Row). leads_to w.from.port r.link) _
    (all_filter (λ (r : Row). leads_to w.from.port r.link ≡ true → GoesOn net w r) (λ (r : Row). is_end (record { switch = r.switch; port = w.from.port }) w.from) (rows_of net)
    (recursion_from_All _ (rows_of net) (All-weaker (IsRowOf 0 net.tables) _ each (rows_of net) (all_rows 0 net.tables)))) where
      each : (r : Row) → IsRowOf 0 net.tables r → is_end (record { switch = r.switch; port = w.from.port }) w.from ≡ true → leads_to w.from.port r.link ≡ true → GoesOn net w r
      each r s at leads =
          let parts = and_parts (r.switch == w.from.switch) (w.from.port == w.from.port) at in
          let table = same_table net w j r s (eqb-true r.switch w.from.switch parts.0) in
          let among = subst (λ (c : Content). Contains c.links r.link) table s.known in
          goes net w j r (behind n.0 p.0 t.0 j.there w r.link leads (each_link net shared.Number w j n r.link among) (each_link net shared.Port w j p r.link among)
          (each_link net shared.Terms w j t r.link among))
