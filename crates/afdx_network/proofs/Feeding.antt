-- The next record that is given comes in at its switch.
use Rattle.std.proofs.Common.{◌≡◌, ◌<◌, ◌≤◌, ◌+◌, ◌*◌, ◌==◌, ℕ, min, Bool, true, false, cond, List, [], ◌∷◌, ◌++◌, length, map, filter, slice_get, not, is_some}
use Rattle.std.proofs.Common.{Option, Some, None, refl, ap, sym, ◌∙◌, arith, inl, inr, subst}
use Rattle.std.specs.Prelude.{All, Contains, slice_set}
use Rattle.std.specs.List.{AllByRecursion}
use Rattle.std.proofs.lemmas.Bool.{eqb-true, eq-eqb, ne_eqb, cases_eq}
use Rattle.std.proofs.lemmas.List.{length-set, map-append}
use Rattle.std.proofs.lemmas.List.Elements.{All-contains, All-contains_itself, All-set, All-weaker}
use Rattle.std.proofs.lemmas.Option.{same_Some, slice_get_within, get_or_from_slice_get}
use Rattle.afdx_units.specs.Time.{second, last_second, earlier_of}
use Rattle.afdx_pcap.specs.Record.{Record, IsWithinLimit}
use Rattle.afdx_pcap.specs.Text.{AreReadable}
use Rattle.afdx_pcap.specs.Fault.{last_stamp}
use Rattle.afdx_pcap.specs.Capture.{IsCapture}
use Rattle.afdx_table.specs.declared.rows.PortRow.{PortRow}
use Rattle.afdx_table.specs.Content.{Content}
use Rattle.afdx_table.specs.WellFormed.{Rises as PortsRise, IsWellFormed}
use Rattle.afdx_merging.specs.Merge.{Arrival, at_place}
use Rattle.afdx_merging.proofs.Timed.{there_at}
use Rattle.afdx_session.specs.Texts.{Text}
use Rattle.afdx_paced.specs.Paced.{Lane, lane_at, changed, came_in, put_refusal}
use Rattle.afdx_paced.specs.Laws.{LaterRecordsChangeNothing, OutGoesOn}
use Rattle.afdx_wiring.specs.declared.layout.End.{End}
use Rattle.afdx_wiring.specs.declared.layout.Wire.{Wire}
use Rattle.afdx_network_check.specs.Net.{Network, wire_to}
use Rattle.afdx_network.specs.declared.intake.Intake.{Intake}
use Rattle.afdx_network.specs.Runs.{Given}
use Rattle.afdx_network.specs.Given.{is_open, open_ends, IsGivenAt}
use Rattle.afdx_network.specs.Inner.Intake.{end_place, came_at, AreGivenSoFar, IsNextIn, IsNotBefore, NoneCameLate, next_of}
use Rattle.afdx_network.specs.Inner.Sites.{Site, end_at, IsCame, IsRunning, IsSite, carried, IsCarried, HasCome, AreEarly, after_putting, after_hops}
use Rattle.afdx_network.specs.Inner.Windows.{IsOnWay, GoesOn}
use Rattle.afdx_network.proofs.Carried.{AreWritten}
use Rattle.afdx_network.proofs.Found.{all_by}
use Rattle.afdx_network.proofs.InWindow.{at_site}
use Rattle.afdx_network.proofs.Lanes.{ChangesAt, changes_at, set_here, set_elsewhere, stays, at_lane, port_is, all_changed}
use Rattle.afdx_network.proofs.Lists.{all_weaken}
use Rattle.afdx_network.proofs.OpenEnds.{IsOpenEnd, open_there, all_apart, first_place, place_has}
use Rattle.afdx_network.proofs.Outs.{not_refused}
use Rattle.afdx_network.proofs.SiteCalls.{running_puts, puts_sent}
use Rattle.afdx_network.proofs.SoFar.{given_so_far}
use Rattle.afdx_network.proofs.Started.{filter_has, text_of, ports_among, each_lane, lane_of_row, row_of}

abbrev pub Unique : Type 0
Unique = (bytes : List ℕ) (rs qs : List Record) → IsCapture bytes rs → IsCapture bytes qs → rs ≡ qs

-- ---- what came in at a port without a wire is what was taken for it

abbrev pub IsFed : Network → List Arrival → ℕ → Lane → Type 0
IsFed net came n l = wire_to net (end_at n l.port) ≡ None → l.came ≡ came_at (open_ends net) came n l.port

abbrev pub IsBrought : Network → ℕ → Lane → Type 0
IsBrought net n l = (w : Wire) → wire_to net (end_at n l.port) ≡ Some w → AreReadable 0 l.came × All IsWithinLimit l.came

pub fed_of : Unique → (net : Network) (given : Given) (came : List Arrival) (n : ℕ) (s : Site) → AreGivenSoFar net came given → IsSite net given n s → AllByRecursion (IsFed net came n) s.paced.lanes
fed_of unique net given came n s so_far site =
    all_weaken (IsCame net n site.own) (IsFed net came n) s.paced.lanes
    (λ l is none.
    let g = is.given none in
    unique g.0 l.came (came_at (open_ends net) came n l.port) g.2 (so_far.each n site.own (l.port, g.0) site.own_is g.1)) site.came

pub brought_of : (net : Network) (given : Given) (n : ℕ) (s : Site) → IsSite net given n s → AllByRecursion (IsBrought net n) s.paced.lanes
brought_of net given n s site = all_weaken (IsCame net n site.own) (IsBrought net n) s.paced.lanes (λ l is. is.brought) site.came

pub site_of : (net : Network) (given : Given) (came : List Arrival) (n : ℕ) (s : Site) → AreGivenSoFar net came given → slice_get net.tables n ≡ Some s.paced.table → IsRunning s
    → AllByRecursion (IsFed net came n) s.paced.lanes → AllByRecursion (IsBrought net n) s.paced.lanes → IsSite net given n s
site_of net given came n s so_far table running fed brought = record {
  own = own;
  table_is = table;
  own_is = is.texts_is;
  running = running;
  came = each_lane (λ (l : Lane). Contains (map (λ (p : PortRow). p.id) s.paced.table.ports) l.port) (λ (l : Lane). IsFed net came n l × IsBrought net n l) (IsCame net n own) s.paced.lanes
      (λ l among both. is_came l among both.0 both.1) (ports_among s.paced.table.ports s.paced.lanes running.ports)
      (each_lane (IsFed net came n) (IsBrought net n) (λ (l : Lane). IsFed net came n l × IsBrought net n l) s.paced.lanes (λ l one other. (one, other)) fed brought);
} where
  is : IsGivenAt net given n
  is = so_far.are.each n (slice_get_within net.tables n s.paced.table table)

  own : List Text
  own = is.texts

  same : is.table ≡ s.paced.table
  same = same_Some is.table s.paced.table (sym is.table_is ∙ table)

  numbers : map (λ (text : Text). text.0) own ≡ filter (is_open net n) (map (λ (p : PortRow). p.id) s.paced.table.ports)
  numbers = is.of_open ∙ ap (λ (t : Content). filter (is_open net n) (map (λ (p : PortRow). p.id) t.ports)) same

  is_came : (l : Lane) → Contains (map (λ (p : PortRow). p.id) s.paced.table.ports) l.port → IsFed net came n l → IsBrought net n l → IsCame net n own l
  is_came l among fed_here brought_here = record {
    given = λ none.
        let open_here : is_open net n l.port ≡ true = ap (λ (o : Option Wire). not (is_some o)) none in
        let text = text_of own l.port
        (subst (λ (ns : List ℕ). Contains ns l.port) (sym numbers) (filter_has (is_open net n) (map (λ (p : PortRow). p.id) s.paced.table.ports) l.port open_here among)) in
        (text.0, text.1, subst (IsCapture text.0) (sym (fed_here none)) (so_far.each n own (l.port, text.0) is.texts_is text.1));
    brought = brought_here;
  }

-- ---- one lane of a switch is another

all_other : (P Q : Lane → Type 0) (n : ℕ) (ports : List PortRow) (lanes : List Lane) → ((l : Lane) → (l.port ≡ n → ⊥) → P l → Q l) → AllByRecursion (λ (p : PortRow). n < p.id) ports
    → map (λ (l : Lane). l.port) lanes ≡ map (λ (p : PortRow). p.id) ports → AllByRecursion P lanes → AllByRecursion Q lanes
all_other P Q n ports [] other above same all = tt
all_other P Q n [] (l ∷ lanes) other above same all = absurd cc
all_other P Q n (p ∷ ports) (l ∷ lanes) other above same all =
    let first : l.port ≡ p.id = cc in
    let rest : map (λ (m : Lane). m.port) lanes ≡ map (λ (q : PortRow). q.id) ports = cc in
    let less = above.0 in
    (other l (λ is. omega (arith, is, first, less)) all.0, all_other P Q n ports lanes other above.1 rest all.1)

pub put_lanes : (P Q : Lane → Type 0) (port : ℕ) (f : Lane → Lane) (ports : List PortRow) (lanes : List Lane) → ((l : Lane) → (l.port ≡ port → ⊥) → P l → Q l)
    → ((l : Lane) → l.port ≡ port → P l → Q (f l))
    → PortsRise ports → map (λ (l : Lane). l.port) lanes ≡ map (λ (p : PortRow). p.id) ports → AllByRecursion P lanes → AllByRecursion Q (changed port f lanes)
put_lanes P Q port f ports [] other here rises same all = tt
put_lanes P Q port f [] (l ∷ lanes) other here rises same all = absurd cc
put_lanes P Q port f (p ∷ ports) (l ∷ lanes) other here rises same all = by (l.port == port) refl (λ rest. put_lanes P Q port f ports lanes other here rises.1 rest all.1) where
  first : l.port ≡ p.id
  first = cc

  rest : map (λ (m : Lane). m.port) lanes ≡ map (λ (q : PortRow). q.id) ports
  rest = cc

  by : (b : Bool) → (l.port == port) ≡ b → (map (λ (m : Lane). m.port) lanes ≡ map (λ (q : PortRow). q.id) ports → AllByRecursion Q (changed port f lanes))
      → AllByRecursion Q (cond b (f l ∷ lanes) (l ∷ changed port f lanes))
  by true is further =
      let number = eqb-true l.port port is in (
        here l number all.0,
        all_other P Q port ports lanes other (subst (λ m. AllByRecursion (λ (q : PortRow). m < q.id) ports) (sym first ∙ number) rises.0) rest all.1,
      )
  by false is further = (other l (λ same_port. absurd (differ (sym is ∙ eq-eqb l.port port same_port))) all.0, further rest) where
    differ : false ≡ true → ⊥
    differ e = cc

-- ---- one arrival more

at_place_more : (k : ℕ) (came : List Arrival) (one : Arrival) → at_place k (came ++ one ∷ []) ≡ at_place k came ++ cond (one.place == k) (one ∷ []) []
at_place_more k [] one = refl
at_place_more k (a ∷ came) one = by (a.place == k) (at_place_more k came one) where
  by : (b : Bool) → at_place k (came ++ one ∷ []) ≡ at_place k came ++ cond (one.place == k) (one ∷ []) []
      → cond b (a ∷ at_place k (came ++ one ∷ [])) (at_place k (came ++ one ∷ [])) ≡ cond b (a ∷ at_place k came) (at_place k came) ++ cond (one.place == k) (one ∷ []) []
  by true rest = ap (λ (items : List Arrival). a ∷ items) rest
  by false rest = rest

pub came_here : (ends : List End) (came : List Arrival) (one : Arrival) (switch port : ℕ) → end_place ends (end_at switch port) ≡ one.place
    → came_at ends (came ++ one ∷ []) switch port ≡ came_at ends came switch port ++ one.head.frame ∷ []
came_here ends came one switch port is =
    let k = end_place ends (end_at switch port) in
    ap (map (λ (a : Arrival). a.head.frame)) (at_place_more k came one ∙ ap (λ b. at_place k came ++ cond b (one ∷ []) []) (eq-eqb one.place k (sym is)))
    ∙ map-append (λ (a : Arrival). a.head.frame) (at_place k came) (one ∷ [])

pub came_elsewhere : (ends : List End) (came : List Arrival) (one : Arrival) (switch port : ℕ) → (end_place ends (end_at switch port) ≡ one.place → ⊥)
    → came_at ends (came ++ one ∷ []) switch port ≡ came_at ends came switch port
came_elsewhere ends came one switch port other =
    let k = end_place ends (end_at switch port) in
    ap (map (λ (a : Arrival). a.head.frame)) (at_place_more k came one ∙ ap (λ b. at_place k came ++ cond b (one ∷ []) []) (ne_eqb one.place k (λ same. other (sym same))))
    ∙ map-append (λ (a : Arrival). a.head.frame) (at_place k came) [] ∙ append_none (map (λ (a : Arrival). a.head.frame) (at_place k came)) where
      append_none : (rs : List Record) → rs ++ [] ≡ rs
      append_none [] = refl
      append_none (r ∷ rs) = ap (λ (qs : List Record). r ∷ qs) (append_none rs)

-- ---- instants

last_by : (m n : ℕ) (rs : List Record) → m ≤ n → AllByRecursion (λ (r : Record). r.stamp ≤ n) rs → last_stamp m rs ≤ n
last_by m n [] le all = le
last_by m n (r ∷ rs) le all = last_by r.stamp n rs all.0 all.1

pub all_at_place : (P : Record → Type 0) (k : ℕ) (came : List Arrival) → AllByRecursion (λ (a : Arrival). P a.head.frame) came
    → AllByRecursion P (map (λ (a : Arrival). a.head.frame) (at_place k came))
all_at_place P k [] all = tt
all_at_place P k (a ∷ came) all = by (a.place == k) (all_at_place P k came all.1) where
  by : (b : Bool) → AllByRecursion P (map (λ (x : Arrival). x.head.frame) (at_place k came))
      → AllByRecursion P (map (λ (x : Arrival). x.head.frame) (cond b (a ∷ at_place k came) (at_place k came)))
  by true rest = (all.0, rest)
  by false rest = rest

least_from : (h n : ℕ) (next before : Option ℕ) → earlier_of (Some n) next ≡ before → IsNotBefore h before → (h ≤ n) × IsNotBefore h next
least_from h n None before is from = (subst (IsNotBefore h) (sym is) from, tt)
least_from h n (Some m) before is from =
    let least : h ≤ min n m = subst (IsNotBefore h) (sym is) from in
    (omega (arith, least), omega (arith, least))

-- its switch is there
pub next_within : {R : Type 0} (remaining : R → Option (List ℕ)) (net : Network) (first now : List R) (old new : Intake) (came : List Arrival) (to : End) (frame : Record) (sites : List Site)
    → length sites ≡ length net.tables → IsNextIn remaining net first now old new came to frame → to.switch < length sites
next_within remaining net first now old new came to frame sites same next =
    let opened = open_there net 0 net.tables next.arrival.place to next.to_is in
    let lt = slice_get_within net.tables opened.place opened.table opened.table_is in
    let is = opened.switch_is in
    omega (arith, lt, same, is)

-- ---- it comes in

module _ {R : Type 0} (law : LaterRecordsChangeNothing) (on : OutGoesOn) (unique : Unique) (written : AreWritten) (remaining : R → Option (List ℕ)) (net : Network) (first before now : List R)
    (old new : Intake)
    (came : List Arrival) (given : Given) (h : ℕ) (sites : List Site) (w : IsOnWay remaining net first before old came given h sites) (to : End) (frame : Record)
    (next : IsNextIn remaining net first now old new came to frame) where
  abbrev all : List Arrival
  all = came ++ next.arrival ∷ []

  later : (later : Given) × AreGivenSoFar net all later
  later = given_so_far written remaining net first now new all next.taken

  -- the switches

  is_there : (m : ℕ) (s : Site) → slice_get sites m ≡ Some s → IsSite net given m s
  is_there m s at = w.come.carried.are.each m s at

  formed : AllByRecursion IsWellFormed net.tables
  formed = all_by IsWellFormed net.tables (λ t among.
      let site = there_at sites among.0 (let lt = among.1 in let same = w.come.carried.are.all in omega (arith, lt, same)) in
      let is = is_there among.0 site.0 site.1 in
      subst IsWellFormed (sym (get_or_from_slice_get net.tables among.0 site.0.paced.table t is.table_is) ∙ among.2) is.running.formed)

  -- its port

  opened : IsOpenEnd net 0 net.tables to
  opened = open_there net 0 net.tables next.arrival.place to next.to_is

  place : end_place (open_ends net) to ≡ next.arrival.place
  place = first_place (open_ends net) next.arrival.place to (all_apart net 0 net.tables formed) next.to_is

  number : to.switch ≡ opened.place
  number = let is = opened.switch_is in omega (arith, is)

  module _ (site : Site) (at : slice_get sites to.switch ≡ Some site) where
    here : IsSite net given to.switch site
    here = is_there to.switch site at

    table : opened.table ≡ site.paced.table
    table = same_Some opened.table site.paced.table (sym opened.table_is ∙ ap (slice_get net.tables) (sym number) ∙ here.table_is)

    lane : (l : Lane) × (lane_at site.paced to.port ≡ Some l)
    lane =
        let row = row_of site.paced.table.ports to.port (subst (λ (t : Content). Contains (map (λ (p : PortRow). p.id) t.ports) to.port) table opened.among) in
        lane_of_row site.paced.table.ports site.paced.lanes to.port row.0 here.running.ports row.1

    lane_port : lane.0.port ≡ to.port
    lane_port = port_is site.paced.lanes to.port lane.0 lane.1

    fed : AllByRecursion (IsFed net came to.switch) site.paced.lanes
    fed = fed_of unique net given came to.switch site w.given_is here

    -- it is taken there

    from : h ≤ frame.stamp
    from = (least_from h frame.stamp (next_of new) (next_of old) next.least w.next).0

    come : HasCome h site
    come = at_site (HasCome h) sites to.switch site w.come.come at

    pub fine : put_refusal site.paced to.port frame.stamp ≡ None
    fine = not_refused site.paced to.port frame.stamp (record {
      lane = lane.0;
      lane_is = lane.1;
      from = let reached = come.reached in let late = from in omega (arith, reached, late);
      last = subst (λ (rs : List Record). last_stamp 0 rs ≤ frame.stamp) (sym own)
          (last_by 0 frame.stamp (came_at (open_ends net) came to.switch lane.0.port) (omega arith)
          (all_at_place (λ (r : Record). r.stamp ≤ frame.stamp) (end_place (open_ends net) (end_at to.switch lane.0.port)) came next.last));
    }) where
      own : lane.0.came ≡ came_at (open_ends net) came to.switch lane.0.port
      own = at_lane (IsFed net came to.switch) site.paced.lanes to.port lane.0 fed lane.1 (ap (λ n. wire_to net (end_at to.switch n)) lane_port ∙ opened.unwired)

    -- and then

    abbrev put : Site
    put = after_putting to.port frame site

    abbrev after_it : List Site
    after_it = slice_set sites to.switch put

    running : IsRunning put
    running = running_puts law on site to.port frame here.running (let reached = come.reached in let late = from in omega (arith, reached, late))

    other_place : (n port : ℕ) → ((n ≡ to.switch) × (port ≡ to.port) → ⊥) → came_at (open_ends net) all n port ≡ came_at (open_ends net) came n port
    other_place n port other =
        came_elsewhere (open_ends net) came next.arrival n port (λ same.
        let it : to ≡ end_at n port = place_has (open_ends net) (end_at n port) to next.arrival.place same next.to_is in
        other (ap (λ (e : End). e.switch) (sym it), ap (λ (e : End). e.port) (sym it)))

    put_fed : AllByRecursion (IsFed net all to.switch) put.paced.lanes
    put_fed =
        put_lanes (IsFed net came to.switch) (IsFed net all to.switch) to.port (came_in frame) site.paced.table.ports site.paced.lanes
        (λ l other is none. is none ∙ sym (other_place to.switch l.port (λ both. other both.1)))
        (λ l same is none.
        ap (λ (rs : List Record). rs ++ frame ∷ []) (is none) ∙ ap (λ (r : Record). came_at (open_ends net) came to.switch l.port ++ r ∷ []) next.frame_is
        ∙ sym (came_here (open_ends net) came next.arrival to.switch l.port (ap (λ n. end_place (open_ends net) (end_at to.switch n)) same ∙ place)))
        here.running.formed.ports_rise here.running.ports fed

    put_brought : AllByRecursion (IsBrought net to.switch) put.paced.lanes
    put_brought =
        put_lanes (IsBrought net to.switch) (IsBrought net to.switch) to.port (came_in frame) site.paced.table.ports site.paced.lanes
        (λ l other is. is)
        (λ l same is v some. absurd (none_some (sym opened.unwired ∙ ap (λ n. wire_to net (end_at to.switch n)) (sym same) ∙ some)))
        here.running.formed.ports_rise here.running.ports (brought_of net given to.switch site here) where
          none_some : {v : Wire} → None ≡ Some v → ⊥
          none_some e = cc

    each : (m : ℕ) (s : Site) → slice_get after_it m ≡ Some s → IsSite net later.0 m s
    each m s there = elim (cases_eq m to.switch) [
      | inl same ↦
          let it : put ≡ s = same_Some put s (sym (set_here sites to.switch site put at) ∙ ap (slice_get after_it) (sym same) ∙ there) in
          subst (λ n. IsSite net later.0 n s) (sym same)
          (subst (IsSite net later.0 to.switch) it (site_of net later.0 all to.switch put later.1 here.table_is running put_fed put_brought))
      | inr other ↦
          let was = is_there m s (sym (set_elsewhere sites to.switch m put other) ∙ there) in
          site_of net later.0 all m s later.1 was.table_is was.running
          (all_weaken (IsFed net came m) (IsFed net all m) s.paced.lanes (λ l is none. is none ∙ sym (other_place m l.port (λ both. other both.0))) (fed_of unique net given came m s w.given_is was))
          (brought_of net given m s was)
    ]

    changes : ChangesAt sites after_it to (came_in frame)
    changes = changes_at sites to.switch to.port site put (came_in frame) (λ l. refl) at refl

    still_carried : (v : Wire) → Contains net.layout.wires v → IsCarried sites v → IsCarried after_it v
    still_carried v among is =
        let start = stays (λ (l : Lane). l.left) sites after_it to (came_in frame) (λ l. refl) changes v.from is.start is.start_is in
        let apart : v.to ≡ to → ⊥
        = λ same. none_some (sym opened.unwired ∙ ap (wire_to net) (sym same) ∙ All-contains (λ (x : Wire). wire_to net x.to ≡ Some x) net.layout.wires v w.come.one_each among) in
        record {
          start = start.0;
          there = is.there;
          start_is = start.1;
          there_is = changes.elsewhere v.to apart ∙ is.there_is;
          same = is.same ∙ ap (carried v) (sym start.2);
        } where
          none_some : {x : Wire} → None ≡ Some x → ⊥
          none_some e = cc

    pub comes_in : (then : List Site) → then ≡ slice_set sites to.switch (after_putting to.port frame site) → GoesOn remaining net first now new came sites h then
    comes_in then is = record {
      more = next.arrival ∷ [];
      given = later.0;
      on = subst (IsOnWay remaining net first now new all later.0 h) (sym is) (record {
        taken = next.taken;
        given_is = later.1;
        come = record {
          carried = record {
            are = record { each = each; all = length-set sites to.switch put ∙ w.come.carried.are.all };
            wires = All-weaker (λ v. Contains net.layout.wires v × IsCarried sites v) (IsCarried after_it) (λ v both. still_carried v both.0 both.1) net.layout.wires
                (λ k d lt. (All-contains_itself net.layout.wires k d lt, w.come.carried.wires k d lt));
          };
          one_each = w.come.one_each;
          come = All-set (HasCome h) sites to.switch put (record { reached = come.reached; sent = puts_sent law site to.port h frame from come.sent }) w.come.come;
        };
        next = (least_from h frame.stamp (next_of new) (next_of old) next.least w.next).1;
      });
      early = λ order delays accepted soon early. subst (AreEarly order.place) (sym is) (put_early order.place (last_soon soon) early);
    } where
      -- the last of all
      last_soon : NoneCameLate (came ++ next.arrival ∷ []) → frame.stamp + 64 * second ≤ last_second
      last_soon soon = subst (λ (r : Record). r.stamp + 64 * second ≤ last_second) (sym next.frame_is) (go came soon) where
        go : (items : List Arrival) → NoneCameLate (items ++ next.arrival ∷ []) → next.arrival.head.frame.stamp + 64 * second ≤ last_second
        go [] all = all.0
        go (a ∷ items) all = go items all.1

      put_early : (place : ℕ → ℕ) → frame.stamp + 64 * second ≤ last_second → AreEarly place sites → AreEarly place after_it
      put_early place soon early m s there = elim (cases_eq m to.switch) [
        | inl same ↦
            let it : put ≡ s = same_Some put s (sym (set_here sites to.switch site put at) ∙ ap (slice_get after_it) (sym same) ∙ there) in
            subst (λ (x : Site). AllByRecursion (λ (l : Lane). AllByRecursion (λ (r : Record). r.stamp ≤ after_hops (place m)) l.came) x.paced.lanes) it
            (all_changed (λ (l : Lane). AllByRecursion (λ (r : Record). r.stamp ≤ after_hops (place m)) l.came) to.port (came_in frame) site.paced.lanes
            (early m site (ap (slice_get sites) same ∙ at))
            (λ l found. one_more l.came
            (at_lane (λ (x : Lane). AllByRecursion (λ (r : Record). r.stamp ≤ after_hops (place m)) x.came) site.paced.lanes to.port l (early m site (ap (slice_get sites) same ∙ at)) found)))
        | inr other ↦ early m s (sym (set_elsewhere sites to.switch m put other) ∙ there)
      ] where
        one_more : (rs : List Record) → AllByRecursion (λ (r : Record). r.stamp ≤ after_hops (place m)) rs → AllByRecursion (λ (r : Record). r.stamp ≤ after_hops (place m)) (rs ++ frame ∷ [])
        one_more [] all = (omega (arith, soon), tt)
        one_more (r ∷ rs) all = (all.0, one_more rs all.1)
