-- The delays that are reported of a way, summed from its end, are kept by the way of each run, which is summed from its source.
use Rattle.std.proofs.Common.{◌≡◌, ℕ, ◌+◌, ◌≤◌, ◌==◌, Bool, true, false, cond, List, [], ◌∷◌, ◌++◌, length, map, reverse, slice_get, Option, Some, None, option_map, option_and_then}
use Rattle.std.proofs.Common.{append_assoc, refl, ap, sym, ◌∙◌, arith, subst}
use Rattle.std.specs.Prelude.{Contains}
use Rattle.std.specs.List.{AllByRecursion, AllZip}
use Rattle.std.proofs.lemmas.Bool.{eqb-true}
use Rattle.std.proofs.lemmas.List.{reverse-append}
use Rattle.std.proofs.lemmas.List.Elements.{All-from_recursion}
use Rattle.std.proofs.lemmas.Option.{slice_get-map, same_Some}
use Rattle.std.proofs.Math.Nat.{mul-le-mul_right}
use Rattle.afdx_units.specs.declared.line.Speed.{Speed}
use Rattle.afdx_units.specs.Line.{size_of, least_size, tick_of, cost_of}
use Rattle.afdx_pcap.specs.Record.{Record}
use Rattle.afdx_table.specs.declared.rows.PortRow.{PortRow}
use Rattle.afdx_table.specs.Link.{Link, leads_to}
use Rattle.afdx_table.specs.Content.{Content, port_row}
use Rattle.afdx_jitter.specs.declared.delays.Delays.{Delays}
use Rattle.afdx_wiring.specs.declared.layout.End.{End}
use Rattle.afdx_wiring.specs.declared.layout.Wire.{Wire}
use Rattle.afdx_network_check.specs.declared.ways.Way.{Way}
use Rattle.afdx_network_check.specs.Net.{least_at, Network, Row, Back, port_at, row_at, bound_at, IsWayBack, source_of, AreDelays}
use Rattle.afdx_network_check.specs.Order.{leading, row_before}
use Rattle.afdx_network_check.specs.Ways.{line_of, IsWayOver, IsWayAlong, IsWayOut}
use Rattle.afdx_network_check.specs.Outage.{is_cut, is_lost, up_of}
use Rattle.afdx_network.specs.Way.{Stage, IsStage, Leg, last_stage, span_least, span_most, passed_at, leave, IsInTime, IsDelivered}
use Rattle.afdx_network.specs.Runs.{SwitchRun, Given}
use Rattle.afdx_network.specs.Ways.{node_of, IsStageAt, GoesOver, IsWayFrom, IsWayIn}
use Rattle.afdx_network.specs.Laws.{IsAcceptedRun, AgreementIsWired, NetworkRunsDeliver}
use Rattle.afdx_network.specs.Printed.{IsAtPort, stages_of, IsWithin, KeepsReported, PrintedDelaysAreKept}
use Rattle.afdx_network.specs.Inner.Sites.{end_at}
use Rattle.afdx_network.proofs.Found.{found_passes}
use Rattle.afdx_network.proofs.Clean.{IsOf, passed_clean}
use Rattle.afdx_network.proofs.Lengths.{found_row}
use Rattle.afdx_network.proofs.Outages.{none_of, all_up_of, no_wire_down}
use Rattle.afdx_network.proofs.Ways as ways
use Rattle.afdx_network.proofs.Agreement.{Ground, stage_by, fitting, first_stage}

-- ---- lists

-- what holds of the right ones of pairs
zip_right : {X Y : Type 0} (R : X → Y → Type 0) (P : Y → Type 0) (xs : List X) (ys : List Y) → ((x : X) (y : Y) → R x y → P y) → AllZip R xs ys → AllByRecursion P ys
zip_right R P [] [] each zip = tt
zip_right R P [] (y ∷ ys) each zip = absurd zip
zip_right R P (x ∷ xs) [] each zip = absurd zip
zip_right R P (x ∷ xs) (y ∷ ys) each zip = (each x y zip.0, zip_right R P xs ys each zip.1)

-- and of pairs whose left ones have something
zip_where : {X Y : Type 0} (P : X → Type 0) (R S : X → Y → Type 0) (xs : List X) (ys : List Y) → ((x : X) (y : Y) → P x → R x y → S x y) → AllByRecursion P xs
    → AllZip R xs ys → AllZip S xs ys
zip_where P R S [] [] each all zip = tt
zip_where P R S [] (y ∷ ys) each all zip = absurd zip
zip_where P R S (x ∷ xs) [] each all zip = absurd zip
zip_where P R S (x ∷ xs) (y ∷ ys) each all zip = (each x y all.0 zip.0, zip_where P R S xs ys each all.1 zip.1)

-- one more at the front is one more at the end
reversed : {X : Type 0} (x : X) (xs ys : List X) → reverse (x ∷ xs) ++ ys ≡ reverse xs ++ x ∷ ys
reversed {X = X} x xs ys = ap (λ (all : List X). all ++ ys) (reverse-append (x ∷ []) xs) ∙ append_assoc (reverse xs) (x ∷ []) ys

-- what holds of each of a list in reverse, and of those after it
all_reversed : {X : Type 0} (P : X → Type 0) (xs ys : List X) → AllByRecursion P (reverse xs ++ ys) → AllByRecursion P xs × AllByRecursion P ys
all_reversed P [] ys all = (tt, all)
all_reversed P (x ∷ xs) ys all = let rest = all_reversed P xs (x ∷ ys) (subst (AllByRecursion P) (reversed x xs ys) all) in ((rest.1.0, rest.0), rest.1.1)

-- ---- rows and costs

-- no frame takes less than one of the least size
cost_least : (speed : Speed) (size : ℕ) → 64 ≤ size → cost_of speed least_size ≤ cost_of speed size
cost_least speed size le = let more : 84 ≤ size + 20 = omega (arith, le) in mul-le-mul_right (tick_of speed) more

record RowOn (net : Network) (w : Wire) (id : ℕ) (r : Row) : Type 0 where
  pub row_is : row_at net w.from.switch id ≡ Some r
  pub leads : leads_to w.from.port r.link ≡ true

led : (net : Network) (w : Wire) (id : ℕ) (q r : Row) → row_at net w.from.switch id ≡ Some q → (b : Bool) → leads_to w.from.port q.link ≡ b → cond b (Some q) None ≡ Some r
    → RowOn net w id r
led net w id q r at true is some =
    let same : q ≡ r = same_Some q r some in
    record { row_is = at ∙ ap (λ (s : Row). Some s) same; leads = subst (λ (s : Row). leads_to w.from.port s.link ≡ true) same is }
led net w id q r at false is none = absurd cc

row_on : (net : Network) (w : Wire) (id : ℕ) (r : Row) → row_before net id w ≡ Some r → RowOn net w id r
row_on net w id r is = by (row_at net w.from.switch id) refl is where
  by : (o : Option Row) → row_at net w.from.switch id ≡ o → option_and_then (leading w.from.port) o ≡ Some r → RowOn net w id r
  by None at none = absurd cc
  by (Some q) at some = led net w id q r at (leads_to w.from.port q.link) refl some

module _ (g : Ground) (net : Network) (given : Given) (runs : List SwitchRun) (acc : IsAcceptedRun net given runs) where
  -- ---- a stage

  record RunThere (n : ℕ) (t : Content) : Type 0 where
    pub run : SwitchRun
    pub run_is : slice_get runs n ≡ Some run
    pub table_is : run.table ≡ t

  run_there : (n : ℕ) (t : Content) → slice_get net.tables n ≡ Some t → RunThere n t
  run_there n t is =
      by (slice_get runs n) refl (sym (slice_get-map (λ (run : SwitchRun). run.table) runs n) ∙ ap (λ (ts : List Content). slice_get ts n) acc.run.tables ∙ is) where
        by : (o : Option SwitchRun) → slice_get runs n ≡ o → option_map (λ (run : SwitchRun). run.table) o ≡ Some t → RunThere n t
        by None at none = absurd cc
        by (Some run) at some = record { run = run; run_is = at; table_is = same_Some run.table t some }

  -- what a row sends over a line takes, as it is reported
  record Over (r : Row) (line : Wire) (t : Content) (p : PortRow) (bound : ℕ) : Type 0 where
    pub table_is : slice_get net.tables r.switch ≡ Some t
    pub port_is : port_at net line.from ≡ Some p
    pub bound_is : bound_at net r p ≡ Some bound

  -- the stage there
  record StageThere (id : ℕ) (r : Row) (e : End) (t : Content) (p : PortRow) (bound : ℕ) : Type 0 where
    pub run : SwitchRun
    pub run_is : slice_get runs r.switch ≡ Some run
    pub table_is : run.table ≡ t
    pub at : IsStageAt net runs r (stage_by p (least_at net r.switch t) bound (node_of run) r.link)
    pub at_port : IsAtPort runs id (stage_by p (least_at net r.switch t) bound (node_of run) r.link) e

  port_there : (e : End) (t : Content) (p : PortRow) → slice_get net.tables e.switch ≡ Some t → port_at net e ≡ Some p → (p.id ≡ e.port) × Contains t.ports p
  port_there e t p table is =
      let found = found_passes (λ (q : PortRow). q.id == e.port) t.ports p (sym (ap (option_and_then (λ (c : Content). port_row c e.port)) table) ∙ is) in
      (eqb-true p.id e.port found.0, found.1)

  stage_there : (id : ℕ) (r : Row) (line : Wire) (t : Content) (p : PortRow) (bound : ℕ) → RowOn net line id r → Over r line t p bound → StageThere id r line.from t p bound
  stage_there id r line t p bound on over =
      let h = found_row g.links net line.from.switch id r on.row_is in
      let same : h.table ≡ t = same_Some h.table t (sym h.table_is ∙ ap (slice_get net.tables) (sym h.switch_is) ∙ over.table_is) in
      let there = run_there r.switch t over.table_is in
      let port = port_there line.from t p (ap (slice_get net.tables) (sym h.switch_is) ∙ over.table_is) over.port_is in
      record {
        run = there.run;
        run_is = there.run_is;
        table_is = there.table_is;
        at = record {
          run = there.run;
          run_is = there.run_is;
          node = refl;
          link = refl;
          known = subst (λ (c : Content). Contains c.links r.link) (same ∙ sym there.table_is) h.known;
          has = subst (λ (c : Content). Contains c.ports p) (sym there.table_is) port.1;
          leads = ap (λ (n : ℕ). leads_to n r.link) port.0 ∙ on.leads;
          least_is = ap (least_at net r.switch) (sym there.table_is);
          bound_is = over.bound_is;
        };
        at_port = record {
          run = there.run;
          run_is = ap (slice_get runs) (sym h.switch_is) ∙ there.run_is;
          node = refl;
          port = port.0;
          number = h.number;
        };
      }

  -- ---- from the source on

  -- a way that ends as this one does, from the source of its row; these are the delays before it
  record Reached (id : ℕ) (r : Row) (backs : List Back) (d : Delays) (x : Stage) (legs : List Leg) (ends : List End) : Type 0 where
    pub first : Stage
    pub all : List Leg
    pub way : IsWayIn net runs first all
    pub same : last_stage first all ≡ last_stage x legs
    pub source : IsStageAt net runs (source_of r backs) first
    pub number : (source_of r backs).link.id ≡ id
    pub ports : AllZip (IsAtPort runs id) (stages_of first all) (reverse (map (λ (b : Back). b.wire.from) backs) ++ ends)
    pub least : (size : ℕ) → 64 ≤ size → d.least + span_least size x legs ≤ span_least size first all
    pub most : span_most first all ≤ d.most + span_most x legs

  reached : (id : ℕ) (backs : List Back) (r : Row) (d : Delays) (x : Stage) (legs : List Leg) (ends : List End) → r.link.id ≡ id → IsWayBack net r backs
      → AllByRecursion (λ (b : Back). b.wire.down ≡ false) backs → AreDelays net backs d
      → IsWayFrom net runs r x legs → AllZip (IsAtPort runs id) (stages_of x legs) ends → Reached id r backs d x legs ends
  reached id [] r d x legs ends number source up are way ports =
      let least : d.least ≡ 0 = ap (λ (e : Delays). e.least) are in
      record {
        first = x;
        all = legs;
        way = (r, source, way);
        same = refl;
        source = first_stage g net given runs (fitting net given runs acc) r x legs way;
        number = number;
        ports = ports;
        least = λ size long. omega (arith, least);
        most = omega arith;
      }
  reached id (b ∷ backs) r d x legs ends number back up are way ports =
      let t : Content = are.0 in
      let p : PortRow = are.1 in
      let bound : ℕ = are.2 in
      let before : Delays = are.3 in
      let h = found_row g.links net b.wire.from.switch r.link.id b.row back.1 in
      let y = stage_there id b.row b.wire t p bound (record { row_is = ap (row_at net b.wire.from.switch) (sym number) ∙ back.1; leads = back.2 })
      (record { table_is = are.4; port_is = are.5; bound_is = are.6 }) in
      let stage : Stage = stage_by p (least_at net b.row.switch t) bound (node_of y.run) b.row.link in
      let leg : Leg = record { cable = b.wire.delay; stage = x } in
      let over : GoesOver net b.row stage r leg = record {
        wire = b.wire;
        wire_is = back.0;
        up = up.0;
        start = ap (λ (n : ℕ). end_at n b.wire.from.port) (sym h.switch_is) ∙ ap (end_at b.row.switch) (sym y.at_port.port);
        cable = refl;
        number = sym h.number;
      } in
      let rest = reached id backs b.row before stage (leg ∷ legs) (b.wire.from ∷ ends) (h.number ∙ number) back.3 up.1 are.7 (y.at, r, over, way) (y.at_port, ports) in
      let d_least : d.least ≡ before.least + (least_at net b.row.switch t + cost_of p.speed least_size + b.wire.delay) = ap (λ (e : Delays). e.least) are.8 in
      let d_most : d.most ≡ before.most + (bound + b.wire.delay) = ap (λ (e : Delays). e.most) are.8 in
      record {
        first = rest.first;
        all = rest.all;
        way = rest.way;
        same = rest.same;
        source = rest.source;
        number = rest.number;
        ports = subst (AllZip (IsAtPort runs id) (stages_of rest.first rest.all)) (sym (reversed b.wire.from (map (λ (c : Back). c.wire.from) backs) ends)) rest.ports;
        least = λ size long.
            let cost = cost_least p.speed size long in
            let sum : before.least + ((least_at net b.row.switch t + cost_of p.speed size) + b.wire.delay + span_least size x legs) ≤ span_least size rest.first rest.all = rest.least size long in
            omega (arith, d_least, cost, sum);
        most =
            let sum : span_most rest.first rest.all ≤ before.most + (bound + b.wire.delay + span_most x legs) = rest.most in
            omega (arith, d_most, sum);
      }

  -- ---- a way that is reported

  in_time : (d : Delays) (first : Stage) (all : List Leg) → ((size : ℕ) → 64 ≤ size → d.least ≤ span_least size first all) → span_most first all ≤ d.most → IsStage first
      → IsDelivered first all → AllZip (IsWithin d) (passed_at first) (leave (last_stage first all))
  in_time d first all least most is delivered =
      zip_where (λ (q : Record). IsOf first.node.table.constant first.link q.bytes) (IsInTime first all) (IsWithin d) (passed_at first) (leave (last_stage first all))
      (λ came left of in_span.
      let sooner = in_span.least in
      let later = in_span.most in
      let within = least (size_of (length came.bytes)) of.least in
      record { least = omega (arith, sooner, within); most = omega (arith, later, most) })
      (passed_clean g.exact g.verdicts g.links first is) delivered.in_time

  keeps_reported : AgreementIsWired → NetworkRunsDeliver → (id : ℕ) (line : Wire) (w : Way) → line.delay ≡ 0 → IsWayAlong net id line w → is_lost net.layout w ≡ false
      → KeepsReported net runs w
  keeps_reported wired deliver id line w no_delay along found =
      let r : Row = along.0 in
      let backs : List Back = along.1 in
      let is : IsWayOver net (source_of r backs) (record { wire = line; row = r } ∷ backs) w = along.4 in
      let on = row_on net line id r along.2 in
      let are = is.delays in
      let t : Content = are.0 in
      let p : PortRow = are.1 in
      let bound : ℕ = are.2 in
      let before : Delays = are.3 in
      let number = (found_row g.links net line.from.switch id r on.row_is).number in
      let y = stage_there id r line t p bound on (record { table_is = are.4; port_is = are.5; bound_is = are.6 }) in
      let ports : w.ports.items ≡ reverse (map (λ (b : Back). b.wire.from) backs) ++ line.from ∷ []
      = is.ports ∙ reverse-append (line.from ∷ []) (map (λ (b : Back). b.wire.from) backs) in
      let not_cut : AllByRecursion (λ (e : End). is_cut net.layout e ≡ false) (reverse (map (λ (b : Back). b.wire.from) backs) ++ line.from ∷ [])
      = subst (AllByRecursion (λ (e : End). is_cut net.layout e ≡ false)) ports (none_of (is_cut net.layout) w.ports.items found) in
      let up = no_wire_down net backs r along.3 (all_reversed (λ (e : End). is_cut net.layout e ≡ false) (map (λ (b : Back). b.wire.from) backs) (line.from ∷ []) not_cut).0 in
      let x : Stage = stage_by p (least_at net r.switch t) bound (node_of y.run) r.link in
      let h = reached id backs r before x [] (line.from ∷ []) number along.3 up are.7 y.at (y.at_port, tt) in
      let delivered = deliver net given runs acc h.first h.all h.way in
      let d_least : w.delays.least ≡ before.least + (least_at net r.switch t + cost_of p.speed least_size + line.delay) = ap (λ (e : Delays). e.least) are.8 in
      let d_most : w.delays.most ≡ before.most + (bound + line.delay) = ap (λ (e : Delays). e.most) are.8 in
      let number_is : w.link ≡ id = is.link ∙ h.number in
      record {
        stage = h.first;
        legs = h.all;
        way = h.way;
        reported = record {
          first = h.source.run;
          first_is = ap (λ (e : End). slice_get runs e.switch) is.from ∙ h.source.run_is;
          node = h.source.node;
          from = ap (λ (l : Link). l.from) h.source.link ∙ ap (λ (e : End). e.port) (sym is.from);
          ports = subst (λ (n : ℕ). AllZip (IsAtPort runs n) (stages_of h.first h.all) w.ports.items) (sym number_is)
              (subst (AllZip (IsAtPort runs id) (stages_of h.first h.all)) (sym ports) h.ports);
        };
        delivered = delivered;
        in_time = in_time w.delays h.first h.all
            (λ size long.
            let cost = cost_least p.speed size long in
            let sum : before.least + (least_at net r.switch t + cost_of p.speed size) ≤ span_least size h.first h.all = h.least size long in
            omega (arith, d_least, no_delay, cost, sum))
            (let sum : span_most h.first h.all ≤ before.most + bound = h.most in omega (arith, d_most, no_delay, sum))
            (ways.first_stage h.first h.all (wired net given runs acc h.first h.all h.way).0) delivered;
      }

pub printed_delays_are_kept : Ground → AgreementIsWired → NetworkRunsDeliver → PrintedDelaysAreKept
printed_delays_are_kept g wired deliver net given runs acc reported are =
    All-from_recursion (KeepsReported net runs) (up_of net.layout reported)
    (all_up_of net.layout (KeepsReported net runs) reported
    (zip_right (IsWayOut net) (λ w. is_lost net.layout w ≡ false → KeepsReported net runs w) are.0 reported
    (λ x w out. keeps_reported g net given runs acc wired deliver x.link (line_of x) w refl out) are.3))
