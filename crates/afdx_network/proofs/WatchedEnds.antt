-- No port of a network sent two copies that ended at one instant, so the delays of a link at a port are reported in one way.
use Rattle.std.proofs.Common.{◌≡◌, ◌+◌, ◌-◌, ◌<◌, ◌≤◌, ◌==◌, ◌||◌, ℕ, zero, suc, Bool, true, false, cond, List, [], ◌∷◌, map, filter, find, get_or, slice_get, Option, Some, None}
use Rattle.std.proofs.Common.{is_some, refl, ap, sym, ◌∙◌, subst, arith, inl, inr}
use Rattle.std.specs.Prelude.{All, Contains, option_and_then}
use Rattle.std.specs.Option.{option_map}
use Rattle.std.specs.List.{AllByRecursion, AllZip, list_any}
use Rattle.std.proofs.lemmas.Bool.{cases_lt, eqb-true, false≢true}
use Rattle.std.proofs.lemmas.List.{length-map}
use Rattle.std.proofs.lemmas.Option.{same_Some, slice_get-map, slice_get_within, get_or_from_slice_get}
use Rattle.afdx_account.specs.declared.frame.Frame.{Frame}
use Rattle.afdx_table.specs.declared.rows.PortRow.{PortRow}
use Rattle.afdx_table.specs.Content.{Content, port_row}
use Rattle.afdx_table.specs.Ports.{has_port}
use Rattle.afdx_table.specs.WellFormed.{IsLink, IsWellFormed}
use Rattle.afdx_table.specs.Inner.Found.{LinksAreFound}
use Rattle.afdx_filter.specs.Frame.{frame_of}
use Rattle.afdx_port.specs.declared.Sent.{Sent}
use Rattle.afdx_measure.specs.Delays.{summary_of}
use Rattle.afdx_core.specs.Merge.{Arrival, merged}
use Rattle.afdx_core.specs.State.{State}
use Rattle.afdx_count.specs.Tally.{Tally}
use Rattle.afdx_session.specs.Texts.{Text}
use Rattle.afdx_session.specs.Output.{sent_by, written, output_of}
use Rattle.afdx_session.specs.Outcome.{Results}
use Rattle.afdx_session.specs.Lined.{OutputsKeepToLines}
use Rattle.afdx_wiring.specs.declared.layout.End.{End}
use Rattle.afdx_wiring.specs.declared.layout.Wire.{Wire}
use Rattle.afdx_wiring.specs.File.{is_end}
use Rattle.afdx_network_check.specs.Net.{Network, Row, port_at}
use Rattle.afdx_network_check.specs.Order.{row_before}
use Rattle.afdx_network_check.proofs.FeedLemmas.{before_says}
use Rattle.afdx_origins.specs.declared.departure.Departure.{Departure}
use Rattle.afdx_origins.specs.Origins.{sent_from, of_link, Hop, CameOver, IsDelay}
use Rattle.afdx_origins.specs.Laws.{EndApart, OriginIsOne}
use Rattle.afdx_origins.proofs.Rows.{same_end}
use Rattle.afdx_network.specs.Watched.{IsEnded, AreEnded, PortsEndApart, WatchedRunsEndApart, WatchedDelaysAreOne}
use Rattle.afdx_network.specs.Inner.Sites.{end_at}
use Rattle.afdx_network.proofs.Earlier.{costs}
use Rattle.afdx_network.proofs.Found.{all_at, of_all}
use Rattle.afdx_network.proofs.Lengths.{found_row}
use Rattle.afdx_network.proofs.WatchedBounds.{port_of, sent_is}

-- ---- a switch that has ended

record EndedAt (t : Content) (switches : List (Tally × State)) (n : ℕ) : Type 0 where
  pub texts : List Text
  pub left : Results
  pub both : Tally × State
  pub both_is : slice_get switches n ≡ Some both
  pub ended : IsEnded t texts left both

ended_at : (tables : List Content) (came : List (List Text)) (left : List Results) (switches : List (Tally × State)) → AreEnded tables came left switches
    → (n : ℕ) (t : Content) → slice_get tables n ≡ Some t → EndedAt t switches n
ended_at [] [] [] [] are n t is = absurd cc
ended_at [] [] [] (both ∷ switches) are n t is = absurd are
ended_at [] [] (r ∷ left) switches are n t is = absurd are
ended_at [] (texts ∷ came) left switches are n t is = absurd are
ended_at (u ∷ tables) [] left switches are n t is = absurd are
ended_at (u ∷ tables) (texts ∷ came) [] switches are n t is = absurd are
ended_at (u ∷ tables) (texts ∷ came) (r ∷ left) [] are n t is = absurd are
ended_at (u ∷ tables) (texts ∷ came) (r ∷ left) (both ∷ switches) are zero t is =
    record { texts = texts; left = r; both = both; both_is = refl; ended = subst (λ (c : Content). IsEnded c texts r both) (same_Some u t is) are.0 }
ended_at (u ∷ tables) (texts ∷ came) (r ∷ left) (both ∷ switches) are (suc n) t is =
    let rest = ended_at tables came left switches are.1 n t is in
    record { texts = rest.texts; left = rest.left; both = rest.both; both_is = rest.both_is; ended = rest.ended }

-- ---- the copies that a port sends

past : (cost one other : ℕ) → 0 < cost → one + cost ≤ other → one < other
past cost one other some le = omega (arith, some, le)

module _ (lines : OutputsKeepToLines) (t : Content) (arrivals : List Arrival) (p : PortRow) where
  frame_at : (k : ℕ) (x : Sent) (d : Frame) → slice_get (sent_by t arrivals p) k ≡ Some x → get_or (map frame_of (output_of t arrivals p)) k d ≡ frame_of (written arrivals x)
  frame_at k x d is =
      get_or_from_slice_get (map frame_of (output_of t arrivals p)) k (frame_of (written arrivals x)) d
      (slice_get-map frame_of (output_of t arrivals p) k
      ∙ ap (option_map frame_of) (slice_get-map (written arrivals) (sent_by t arrivals p) k ∙ ap (option_map (written arrivals)) is))

  ends_later : (j k : ℕ) (x y : Sent) → slice_get (sent_by t arrivals p) j ≡ Some x → slice_get (sent_by t arrivals p) k ≡ Some y → j < k → x.end < y.end
  ends_later j k x y one other lt =
      let d = frame_of (written arrivals y) in
      let within = slice_get_within (sent_by t arrivals p) k y other in
      let long = length-map (sent_by t arrivals p) (written arrivals) in
      let longer = length-map (output_of t arrivals p) frame_of in
      let apart = lines t arrivals p j k d lt (omega (arith, within, long, longer)) in
      let cost = costs p.speed (get_or (map frame_of (output_of t arrivals p)) k d).size in
      subst (λ n. n < y.end) (ap (λ (f : Frame). f.stamp) (frame_at j x d one))
      (subst (λ n. (get_or (map frame_of (output_of t arrivals p)) j d).stamp < n) (ap (λ (f : Frame). f.stamp) (frame_at k y d other)) (past _ _ _ cost apart))

  one_place : (j k : ℕ) (x y : Sent) → slice_get (sent_by t arrivals p) j ≡ Some x → slice_get (sent_by t arrivals p) k ≡ Some y → x.end ≡ y.end → j ≡ k
  one_place j k x y one other same = elim (cases_lt j k) [
    | inl lt ↦ let later = ends_later j k x y one other lt in absurd (omega (arith, later, same))
    | inr le ↦ elim (cases_lt k j) [
      | inl lt ↦ let later = ends_later k j y x other one lt in absurd (omega (arith, later, same))
      | inr ge ↦ omega (arith, le, ge)
    ]
  ]

-- the table of a switch that has a port
table_there : (net : Network) (e : End) (p : PortRow) → port_at net e ≡ Some p → (t : Content) × (slice_get net.tables e.switch ≡ Some t) × (port_row t e.port ≡ Some p)
table_there net e p is = by (slice_get net.tables e.switch) refl is where
  by : (o : Option Content) → slice_get net.tables e.switch ≡ o → option_and_then (λ (t : Content). port_row t e.port) o ≡ Some p
      → (t : Content) × (slice_get net.tables e.switch ≡ Some t) × (port_row t e.port ≡ Some p)
  by None none is = absurd cc
  by (Some t) some is = (t, some, is)

pub copies_end_apart : OutputsKeepToLines → WatchedRunsEndApart
copies_end_apart lines net came left switches o ended sent e p j k x y port one other same =
    let there = table_there net e p port in
    let at = ended_at net.tables came left switches ended e.switch there.0 there.1 in
    let row = port_of there.0 e.port p there.2 in
    let all : sent_from o.sent e ≡ sent_by there.0 (merged at.ended.outcome.read) p
    = ap (λ n. sent_from o.sent (end_at e.switch n)) (sym row.number_is)
    ∙ sent.each e.switch at.both p at.both_is (ap (λ (t : Content). port_row t p.id) at.ended.table ∙ ap (port_row there.0) row.number_is ∙ row.row)
    ∙ sent_is there.0 (merged at.ended.outcome.read) at.both.1.run p at.ended.table at.ended.rows at.ended.all in
    one_place lines there.0 (merged at.ended.outcome.read) p j k x y
    (ap (λ (xs : List Sent). slice_get xs j) (sym all) ∙ one) (ap (λ (xs : List Sent). slice_get xs k) (sym all) ∙ other) same

-- ---- what ports of the network sent

abbrev of_ports : Network → List Departure → List Departure
of_ports net sent = filter (λ (d : Departure). is_some (port_at net d.from)) sent

abbrev from_end : End → List Departure → List Departure
from_end e sent = filter (λ (d : Departure). is_end d.from e) sent

at_port : (net : Network) (e : End) (p : PortRow) → port_at net e ≡ Some p → (sent : List Departure) → sent_from (of_ports net sent) e ≡ sent_from sent e
at_port net e p is [] = refl
at_port net e p is (d ∷ sent) = by (is_end d.from e) refl (is_some (port_at net d.from)) refl (at_port net e p is sent) where
  by : (b : Bool) → is_end d.from e ≡ b → (c : Bool) → is_some (port_at net d.from) ≡ c → sent_from (of_ports net sent) e ≡ sent_from sent e
      → sent_from (cond c (d ∷ of_ports net sent) (of_ports net sent)) e ≡ map (λ (x : Departure). x.copy) (cond b (d ∷ from_end e sent) (from_end e sent))
  by true here true there rest =
      ap (λ b. map (λ (x : Departure). x.copy) (cond b (d ∷ from_end e (of_ports net sent)) (from_end e (of_ports net sent)))) here ∙ ap (λ (xs : List Sent). d.copy ∷ xs) rest
  by true here false none rest = absurd (false≢true (sym none ∙ ap (λ (f : End). is_some (port_at net f)) (same_end d.from e here) ∙ ap is_some is))
  by false other true there rest =
      ap (λ b. map (λ (x : Departure). x.copy) (cond b (d ∷ from_end e (of_ports net sent)) (from_end e (of_ports net sent)))) other ∙ rest
  by false other false none rest = rest

no_port : (net : Network) (e : End) → port_at net e ≡ None → (sent : List Departure) → sent_from (of_ports net sent) e ≡ []
no_port net e none [] = refl
no_port net e none (d ∷ sent) = by (is_end d.from e) refl (is_some (port_at net d.from)) refl (no_port net e none sent) where
  by : (b : Bool) → is_end d.from e ≡ b → (c : Bool) → is_some (port_at net d.from) ≡ c → sent_from (of_ports net sent) e ≡ []
      → sent_from (cond c (d ∷ of_ports net sent) (of_ports net sent)) e ≡ []
  by true here true there rest = absurd (false≢true (sym (ap is_some none) ∙ sym (ap (λ (f : End). is_some (port_at net f)) (same_end d.from e here)) ∙ there))
  by false other true there rest =
      ap (λ b. map (λ (x : Departure). x.copy) (cond b (d ∷ from_end e (of_ports net sent)) (from_end e (of_ports net sent)))) other ∙ rest
  by b ends false not rest = rest

all_apart : (net : Network) (sent : List Departure) → PortsEndApart net sent → EndApart (of_ports net sent)
all_apart net sent apart e j k x y one other same = by (port_at net e) refl where
  nothing : slice_get [] j ≡ Some x → ⊥
  nothing is = absurd cc

  by : (o : Option PortRow) → port_at net e ≡ o → j ≡ k
  by None none = absurd (nothing (ap (λ (xs : List Sent). slice_get xs j) (sym (no_port net e none sent)) ∙ one))
  by (Some p) some =
      let same_copies = sym (at_port net e p some sent) in
      apart e p j k x y some (ap (λ (xs : List Sent). slice_get xs j) same_copies ∙ one) (ap (λ (xs : List Sent). slice_get xs k) same_copies ∙ other) same

-- ---- wires begin at ports

-- one of the ports that a link leads to is a port
reached : (ports : List PortRow) (port : ℕ) → has_port ports port ≡ true → (p : PortRow) × (find (λ (q : PortRow). q.id == port) ports ≡ Some p)
reached [] port has = absurd cc
reached (q ∷ ports) port has = by (q.id == port) refl has (reached ports port) where
  by : (b : Bool) → (q.id == port) ≡ b → (b || has_port ports port) ≡ true → (has_port ports port ≡ true → (p : PortRow) × (find (λ (x : PortRow). x.id == port) ports ≡ Some p))
      → (p : PortRow) × (find (λ (x : PortRow). x.id == port) (q ∷ ports) ≡ Some p)
  by true here has further = (q, ap (λ b. cond b (Some q) (find (λ (x : PortRow). x.id == port) ports)) here)
  by false other has further = let rest = further has in (rest.0, ap (λ b. cond b (Some q) (find (λ (x : PortRow). x.id == port) ports)) other ∙ rest.1)

led_to : (ports : List PortRow) (to : List ℕ) (port : ℕ) → AllByRecursion (λ n. has_port ports n ≡ true) to → list_any (λ n. n == port) to ≡ true → has_port ports port ≡ true
led_to ports [] port all leads = absurd cc
led_to ports (n ∷ to) port all leads = by (n == port) refl leads (led_to ports to port all.1) where
  by : (b : Bool) → (n == port) ≡ b → (b || list_any (λ m. m == port) to) ≡ true → (list_any (λ m. m == port) to ≡ true → has_port ports port ≡ true) → has_port ports port ≡ true
  by true here leads further = subst (λ m. has_port ports m ≡ true) (eqb-true n port here) all.0
  by false other leads further = further leads

port_behind : LinksAreFound → (net : Network) → All IsWellFormed net.tables → (link : ℕ) (w : Wire) (r : Row) → row_before net link w ≡ Some r → (p : PortRow) × (port_at net w.from ≡ Some p)
port_behind links net formed link w r is =
    let before = before_says net link w r is in
    let found = found_row links net w.from.switch link r before.row_is in
    let own = of_all (IsLink found.table.ports) found.table.links r.link (all_at IsWellFormed net.tables w.from.switch found.table formed found.table_is).links found.known in
    let port = reached found.table.ports w.from.port (led_to found.table.ports r.link.to w.from.port own.targets.are_ports before.leads) in
    (port.0, ap (option_and_then (λ (t : Content). port_row t w.from.port)) found.table_is ∙ port.1)

-- ---- delays

module _ (links : LinksAreFound) (origin : OriginIsOne) (net : Network) (formed : All IsWellFormed net.tables) (sent : List Departure) (apart : PortsEndApart net sent) where
  over_ports : (r : Row) (x : Sent) (hops : List Hop) (first : ℕ) → CameOver net sent r x hops first → CameOver net (of_ports net sent) r x hops first
  over_ports r x [] first came = came
  over_ports r x (h ∷ hops) first came =
      let port = port_behind links net formed r.link.id h.wire h.row came.1 in (
        came.0,
        came.1,
        subst (λ (xs : List Sent). Contains (of_link r.link.id xs) h.copy) (sym (at_port net h.wire.from port.0 port.1 sent)) came.2,
        came.3,
        over_ports h.row h.copy hops first came.4,
      )

  one_delay : (link : ℕ) (e : End) (x : Sent) (m n : ℕ) → IsDelay net sent link e x m → IsDelay net sent link e x n → m ≡ n
  one_delay link e x m n one other =
      let row : one.row ≡ other.row = same_Some one.row other.row (sym one.row_is ∙ other.row_is) in
      let came : CameOver net sent other.row x one.came.0 one.first = subst (λ (r : Row). CameOver net sent r x one.came.0 one.first) row one.came.1 in
      let first : one.first ≡ other.first
      = origin net (of_ports net sent) (all_apart net sent apart) other.row x one.first other.first (one.came.0, over_ports other.row x one.came.0 one.first came)
      (other.came.0, over_ports other.row x other.came.0 other.first other.came.1) in
      one.delay_is ∙ ap (λ at. x.end - at) first ∙ sym other.delay_is

same_zip : {X Y : Type 0} (R : X → Y → Type 0) → ((x : X) (y z : Y) → R x y → R x z → y ≡ z) → (xs : List X) (ys zs : List Y) → AllZip R xs ys → AllZip R xs zs → ys ≡ zs
same_zip R one [] [] [] first second = refl
same_zip R one [] [] (z ∷ zs) first second = absurd second
same_zip R one [] (y ∷ ys) zs first second = absurd first
same_zip R one (x ∷ xs) [] zs first second = absurd first
same_zip R one (x ∷ xs) (y ∷ ys) [] first second = absurd second
same_zip {Y = Y} R one (x ∷ xs) (y ∷ ys) (z ∷ zs) first second =
    ap (λ (head : Y). head ∷ ys) (one x y z first.0 second.0) ∙ ap (λ (rest : List Y). z ∷ rest) (same_zip R one xs ys zs first.1 second.1)

pub delays_are_one : LinksAreFound → OriginIsOne → WatchedRunsEndApart → WatchedDelaysAreOne
delays_are_one links origin ends net came left switches o of_file ended sent link e d other one two =
    let apart = ends net came left switches o ended sent in
    let same = same_zip (IsDelay net o.sent link e) (one_delay links origin net of_file.well_formed o.sent apart link e) (of_link link (sent_from o.sent e)) one.0 two.0 one.1 two.1 in
    one.2 ∙ ap summary_of same ∙ sym two.2
