-- In a run of a network whose tables fit together and are accepted each copy keeps to the bound of its port.
use Rattle.std.proofs.Common.{◌≡◌, ◌+◌, ◌≤◌, ◌==◌, ℕ, zero, suc, Bool, true, false, cond, List, [], ◌∷◌, map, filter, find, slice_get, Option, Some, None, refl, ap, sym, ◌∙◌, subst, arith}
use Rattle.std.specs.Prelude.{All, Contains, option_and_then}
use Rattle.std.proofs.lemmas.Bool.{eqb-true}
use Rattle.std.proofs.lemmas.List.Elements.{All-head, All-tail, All-weaker}
use Rattle.std.proofs.lemmas.Option.{same_Some}
use Rattle.afdx_units.specs.declared.line.Speed.{Speed}
use Rattle.afdx_account.specs.Policing.{parts}
use Rattle.afdx_table.specs.declared.rows.PortRow.{PortRow}
use Rattle.afdx_table.specs.Link.{Link, leads_to}
use Rattle.afdx_table.specs.Content.{Content, port_row}
use Rattle.afdx_table.specs.WellFormed.{IsWellFormed}
use Rattle.afdx_port.specs.declared.Sent.{Sent}
use Rattle.afdx_port.specs.Service.{sent_of}
use Rattle.afdx_port.specs.Content.{done}
use Rattle.afdx_load.specs.Load.{load_of, routed, links_load}
use Rattle.afdx_load.specs.Bounds.{bounds_of}
use Rattle.afdx_load.specs.Accepted.{IsAccepted}
use Rattle.afdx_grouping.specs.Groups.{lesser_load}
use Rattle.afdx_isolation.specs.Table.{bound_of}
use Rattle.afdx_core.specs.declared.step.Row.{Row as Arrived}
use Rattle.afdx_core.specs.Merge.{Arrival, merged}
use Rattle.afdx_core.specs.State.{Run, State, port_after, sent_in}
use Rattle.afdx_count.specs.Tally.{Tally}
use Rattle.afdx_session.specs.Texts.{Text}
use Rattle.afdx_session.specs.Output.{rows_of, sent_by}
use Rattle.afdx_session.specs.Outcome.{Results}
use Rattle.afdx_session.specs.Lined.{EndsInLesserTime, LinedSentKeepBounds, PlainHeadlines}
use Rattle.afdx_network_check.specs.Net.{Network, Row, bound_in, bound_at, load_at, scatter_at, rounding_at}
use Rattle.afdx_origins.specs.Origins.{sent_from, of_link}
use Rattle.afdx_network.specs.Runs.{SwitchRun, Given, IsFedBy, KeepTheirLines}
use Rattle.afdx_network.specs.Laws.{IsOfFile, IsFittingNetwork, IsFittingRun}
use Rattle.afdx_network.specs.Watched.{AreEnded, WatchedRunsKeepBounds}
use Rattle.afdx_network.specs.Inner.Sites.{end_at}
use Rattle.afdx_network.proofs.Agreement.{Ground, Lined, table_at, formed_at, accepted_at}
use Rattle.afdx_network.proofs.Bounded.{rate_within}
use Rattle.afdx_network.proofs.Found.{found_passes}
use Rattle.afdx_network.proofs.Grouped.{grouped}
use Rattle.afdx_network.proofs.Lengths.{IsFound, found_row}
use Rattle.afdx_network.proofs.Rows.{same_bound}
use Rattle.afdx_network.proofs.Weaker.{Sharper, sharper}

-- ---- the runs of the switches

-- a finished switch took what a run's switch read
record IsOfRun (run : SwitchRun) (r : Run) : Type 0 where
  pub table : r.table ≡ run.table
  pub rows : r.rows ≡ rows_of run.table (merged run.outcome.read)
  pub all : r.finished ≡ true

-- the run of the switch at a place
record RunAt (runs : List SwitchRun) (switches : List (Tally × State)) (n : ℕ) : Type 0 where
  pub run : SwitchRun
  pub both : Tally × State
  pub run_is : slice_get runs n ≡ Some run
  pub both_is : slice_get switches n ≡ Some both
  pub is : IsOfRun run both.1.run

record AreRunsOf (tables : List Content) (came : List (List Text)) (left : List Results) (switches : List (Tally × State)) : Type 0 where
  pub runs : List SwitchRun
  pub tables_are : map (λ (run : SwitchRun). run.table) runs ≡ tables
  pub came_is : map (λ (run : SwitchRun). run.texts) runs ≡ came
  pub left_is : map (λ (run : SwitchRun). run.results) runs ≡ left
  pub each : (n : ℕ) (t : Content) → slice_get tables n ≡ Some t → RunAt runs switches n

further : (run : SwitchRun) (runs : List SwitchRun) (both : Tally × State) (switches : List (Tally × State)) (n : ℕ) → RunAt runs switches n → RunAt (run ∷ runs) (both ∷ switches) (suc n)
further run runs both switches n at = record { run = at.run; both = at.both; run_is = at.run_is; both_is = at.both_is; is = at.is }

runs_of : PlainHeadlines → (tables : List Content) (came : List (List Text)) (left : List Results) (switches : List (Tally × State)) → All IsWellFormed tables → All IsAccepted tables
    → AreEnded tables came left switches → AreRunsOf tables came left switches
runs_of plain [] [] [] [] formed accepted are = record { runs = []; tables_are = refl; came_is = refl; left_is = refl; each = λ n t is. absurd cc }
runs_of plain [] [] [] (both ∷ switches) formed accepted are = absurd are
runs_of plain [] [] (r ∷ left) switches formed accepted are = absurd are
runs_of plain [] (texts ∷ came) left switches formed accepted are = absurd are
runs_of plain (t ∷ tables) [] left switches formed accepted are = absurd are
runs_of plain (t ∷ tables) (texts ∷ came) [] switches formed accepted are = absurd are
runs_of plain (t ∷ tables) (texts ∷ came) (r ∷ left) [] formed accepted are = absurd are
runs_of plain (t ∷ tables) (texts ∷ came) (r ∷ left) (both ∷ switches) formed accepted are =
    let ended = are.0 in
    let headline = plain t texts r (All-head IsWellFormed t tables formed) (All-head IsAccepted t tables accepted) ended.outcome in
    let run : SwitchRun = record { table = t; texts = texts; results = r; outcome = ended.outcome; isolated = headline.0; plain = (headline.1, headline.2) } in
    let rest = runs_of plain tables came left switches (All-tail IsWellFormed t tables formed) (All-tail IsAccepted t tables accepted) are.1 in
    record {
      runs = run ∷ rest.runs;
      tables_are = ap (λ (others : List Content). t ∷ others) rest.tables_are;
      came_is = ap (λ (others : List (List Text)). texts ∷ others) rest.came_is;
      left_is = ap (λ (others : List Results). r ∷ others) rest.left_is;
      each = at_place run (record { table = ended.table; rows = ended.rows; all = ended.all }) rest;
    } where
      at_place : (run : SwitchRun) → IsOfRun run both.1.run → (rest : AreRunsOf tables came left switches) → (n : ℕ) (u : Content) → slice_get (t ∷ tables) n ≡ Some u
          → RunAt (run ∷ rest.runs) (both ∷ switches) n
      at_place run own rest zero u is = record { run = run; both = both; run_is = refl; both_is = refl; is = own }
      at_place run own rest (suc n) u is = further run rest.runs both switches n (rest.each n u is)

fits : (net : Network) (given : Given) (came : List (List Text)) (left : List Results) (switches : List (Tally × State)) → IsOfFile net → IsFittingNetwork net
    → KeepTheirLines net given → IsFedBy net given left came
    → (all : AreRunsOf net.tables came left switches) → IsFittingRun net given all.runs
fits net given came left switches of_file fitting lines fed all =
    let fed_so : IsFedBy net given left (map (λ (run : SwitchRun). run.texts) all.runs) = subst (IsFedBy net given left) (sym all.came_is) fed in
    record {
      of_file = of_file;
      accepted = fitting;
      run = record {
        tables = all.tables_are;
        lines = lines;
        fed = subst (λ (results : List Results). IsFedBy net given results (map (λ (run : SwitchRun). run.texts) all.runs)) (sym all.left_is) fed_so;
      };
    }

-- ---- a port's load

none_found : (p : Link → Bool) (ls : List Link) → find p ls ≡ None → filter p ls ≡ []
none_found p [] none = refl
none_found p (l ∷ ls) none = by (p l) none (none_found p ls) where
  by : (b : Bool) → cond b (Some l) (find p ls) ≡ None → (find p ls ≡ None → filter p ls ≡ []) → cond b (l ∷ filter p ls) (filter p ls) ≡ []
  by true none rest = absurd cc
  by false none rest = rest none

no_rate : (speed : Speed) (links : List Link) → links ≡ [] → (links_load speed links).rate ≡ 0
unfolding links_load
no_rate speed links none = ap (λ (ls : List Link). (links_load speed ls).rate) none

-- the links of a port of an accepted table ask for no more than its line, where there are any
rate_is_within : (t : Content) (p : PortRow) → IsAccepted t → Contains t.ports p → (load_of t.latency p.speed p.id t.links).rate ≤ parts
rate_is_within t p accepted among = by (find (leads_to p.id) t.links) refl where
  by : (o : Option Link) → find (leads_to p.id) t.links ≡ o → (load_of t.latency p.speed p.id t.links).rate ≤ parts
  by (Some l) is = let passes = found_passes (leads_to p.id) t.links l is in rate_within t p l accepted among passes.1 passes.0
  by None is = let none = no_rate p.speed (routed p.id t.links) (none_found (leads_to p.id) t.links is) in omega (arith, none)

-- ---- a port

-- what a finished switch sent is what is sent of what it took
pub sent_is : (t : Content) (arrivals : List Arrival) (r : Run) (p : PortRow) → r.table ≡ t → r.rows ≡ rows_of t arrivals → r.finished ≡ true → sent_in r (Some p) ≡ sent_by t arrivals p
unfolding sent_by
sent_is t arrivals r p table rows all =
    ap (λ b. sent_of (done (port_after r.table r.rows r.latest b p))) all
    ∙ ap (λ (c : Content). sent_of (done (port_after c r.rows r.latest true p))) table
    ∙ ap (λ (came : List Arrived). sent_of (done (port_after t came r.latest true p))) rows

-- a port that is found
pub record PortAt (t : Content) (number : ℕ) (p : PortRow) : Type 0 where
  pub row : port_row t number ≡ Some p
  pub has : Contains t.ports p
  pub number_is : p.id ≡ number

pub port_of : (t : Content) (number : ℕ) (p : PortRow) → port_row t number ≡ Some p → PortAt t number p
port_of t number p row =
    let passes = found_passes (λ (q : PortRow). q.id == number) t.ports p row in
    record { row = row; has = passes.1; number_is = eqb-true p.id number passes.0 }

module _ (g : Ground) (lined : Lined) (keeps : LinedSentKeepBounds) (net : Network) (given : Given) (runs : List SwitchRun) (acc : IsFittingRun net given runs) where
  -- the copies of a link that a port sends end within the bound of the row's priority
  module _ (switch : ℕ) (run : SwitchRun) (run_is : slice_get runs switch ≡ Some run) (p : PortRow) (at : Contains run.table.ports p) (r : Row) (known : Contains run.table.links r.link)
      (switch_is : r.switch ≡ switch) (bound : ℕ) (bound_is : bound_at net r p ≡ Some bound) where
    formed : IsWellFormed run.table
    formed = formed_at g net given runs acc switch run run_is

    accepted : IsAccepted run.table
    accepted = accepted_at g net given runs acc switch run run_is

    rate : (load_of run.table.latency p.speed p.id run.table.links).rate ≤ parts
    rate = rate_is_within run.table p accepted at

    bound_there : bound_of (load_at net switch run.table p) r.link.priority ≡ Some bound
    bound_there =
        sym (same_bound (load_at net switch run.table p) r.link.priority)
        ∙ sym (ap (option_and_then (λ (t : Content). bound_in (bounds_of (load_at net switch t p)) r.link.priority)) (table_at g net given runs acc switch run run_is))
        ∙ ap (λ n. option_and_then (λ (t : Content). bound_in (bounds_of (load_at net n t p)) r.link.priority) (slice_get net.tables n)) (sym switch_is)
        ∙ bound_is

    less : Sharper (lesser_load 0 (rounding_at net switch) run.table p) r.link.priority bound
    less =
        sharper (lesser_load 0 (rounding_at net switch) run.table p) (load_at net switch run.table p)
        (lined.scatter 0 (scatter_at net switch run.table) run.table (rounding_at net switch) p formed (omega arith) rate) r.link.priority bound bound_there

    pub in_bound : All (λ (x : Sent). x.end ≤ x.item.stamp + bound) (of_link r.link.id (sent_by run.table (merged run.outcome.read) p))
    in_bound =
        let load = lesser_load 0 (rounding_at net switch) run.table p in
        All-weaker (EndsInLesserTime run.table p r.link load.burst load.high_burst) (λ (x : Sent). x.end ≤ x.item.stamp + bound) one (of_link r.link.id (sent_by run.table (merged run.outcome.read) p))
        (keeps run.table run.texts run.results formed accepted run.outcome (rounding_at net switch) (lined.wired net given runs acc switch run run_is) p at load.burst load.high_burst
        (grouped lined.grouping run.table formed (rounding_at net switch) p rate) r.link known) where
          one : (x : Sent) → EndsInLesserTime run.table p r.link (lesser_load 0 (rounding_at net switch) run.table p).burst (lesser_load 0 (rounding_at net switch) run.table p).high_burst x
              → x.end ≤ x.item.stamp + bound
          one x h =
              let same : h.bound ≡ less.sharp = same_Some h.bound less.sharp (sym h.bound_is ∙ less.sharp_is) in
              let most = h.most in
              let order = less.order in
              omega (arith, same, most, order)

-- ---- all ports

pub watched_runs_keep_bounds : Ground → Lined → LinedSentKeepBounds → PlainHeadlines → WatchedRunsKeepBounds
watched_runs_keep_bounds g lined keeps plain net given came left switches o of_file fitting is_run ended sent e link r p bound row port bound_is =
    subst (λ n. All (λ (x : Sent). x.end ≤ x.item.stamp + bound) (of_link n (sent_from o.sent e))) found.number
    (subst (λ (xs : List Sent). All (λ (x : Sent). x.end ≤ x.item.stamp + bound) (of_link r.link.id xs)) (sym same_sent) within) where
      all : AreRunsOf net.tables came left switches
      all = runs_of plain net.tables came left switches of_file.well_formed fitting.loads ended

      acc : IsFittingRun net given all.runs
      acc = fits net given came left switches of_file fitting is_run.lines is_run.fed all

      found : IsFound net e.switch link r
      found = found_row g.links net e.switch link r row

      at : RunAt all.runs switches e.switch
      at = all.each e.switch found.table found.table_is

      same_table : found.table ≡ at.run.table
      same_table = same_Some found.table at.run.table (sym found.table_is ∙ table_at g net given all.runs acc e.switch at.run at.run_is)

      port_there : PortAt at.run.table e.port p
      port_there = port_of at.run.table e.port p
          (ap (λ (t : Content). port_row t e.port) (sym same_table) ∙ sym (ap (option_and_then (λ (t : Content). port_row t e.port)) found.table_is) ∙ port)

      same_sent : sent_from o.sent e ≡ sent_by at.run.table (merged at.run.outcome.read) p
      same_sent =
          ap (λ n. sent_from o.sent (end_at e.switch n)) (sym port_there.number_is)
          ∙ sent.each e.switch at.both p at.both_is (ap (λ (t : Content). port_row t p.id) at.is.table ∙ ap (port_row at.run.table) port_there.number_is ∙ port_there.row)
          ∙ sent_is at.run.table (merged at.run.outcome.read) at.both.1.run p at.is.table at.is.rows at.is.all

      within : All (λ (x : Sent). x.end ≤ x.item.stamp + bound) (of_link r.link.id (sent_by at.run.table (merged at.run.outcome.read) p))
      within =
          in_bound g lined keeps net given all.runs acc e.switch at.run at.run_is p port_there.has r
          (subst (λ (t : Content). Contains t.links r.link) same_table found.known) found.switch_is bound bound_is
