-- Each call makes a run of a run, and over an accepted table no step is Full.
use Rattle.std.proofs.Common.{◌≡◌, ℕ, ◌+◌, ◌≤◌, ◌<◌, ◌==◌, zero, suc, Bool, true, false, cond, ◌||◌, nat_lt, List, [], ◌∷◌, ◌++◌, length, map, find, get_or, Option, Some, None, is_none, Result, Ok}
use Rattle.std.proofs.Common.{Err, refl, subst, ap, sym, ◌∙◌, arith}
use Rattle.std.specs.Prelude.{All, Contains, IfOk, IfErr, OnOk, OnErr}
use Rattle.std.proofs.lemmas.Bool.Decides.{nat_tests}
use Rattle.std.proofs.lemmas.List.Elements.{All-nil, All-push, All-weaker, All-map, All-contains, All-from_recursion, Contains-append_right}
use Rattle.std.proofs.lemmas.Bool.{eq-eqb, eqb-true, or_left, or_right}
use Rattle.std.specs.declared.alloc.AllocError.{AllocError}
use Rattle.afdx_pcap.specs.Record.{Record}
use Rattle.afdx_table.specs.declared.rows.PortRow.{PortRow}
use Rattle.afdx_table.specs.Link.{Link, names_port, leads_to}
use Rattle.afdx_table.specs.Content.{Content, port_row}
use Rattle.afdx_table.specs.Ports.{has_port}
use Rattle.afdx_table.specs.Inner.Found.{LinksAreFound}
use Rattle.afdx_table.specs.WellFormed.{IsLink, IsWellFormed}
use Rattle.afdx_load.specs.Accepted.{IsAccepted}
use Rattle.afdx_account.specs.Level.{InOrder}
use Rattle.afdx_port.specs.declared.Settings.{Settings}
use Rattle.afdx_port.specs.declared.Item.{Item}
use Rattle.afdx_port.specs.declared.Offer.{Offer}
use Rattle.afdx_port.specs.declared.Offer.TheVariants.{Queued, Full}
use Rattle.afdx_port.specs.Admission.{admit, admitted, fits}
use Rattle.afdx_port.specs.Inner.Admission.{AdmittedInParts}
use Rattle.afdx_isolation.specs.Table.{settings_of}
use Rattle.afdx_core.specs.declared.step.Row.{Row}
use Rattle.afdx_core.specs.declared.step.CoreFault.{CoreFault}
use Rattle.afdx_core.specs.declared.step.CoreFault.TheVariants.{NoSuchPort, Earlier}
use Rattle.afdx_core.specs.Rows.{row_of, frame_of_row, named, passes, copy_of, feed_of}
use Rattle.afdx_core.specs.Step.{Step}
use Rattle.afdx_core.specs.Held.{IsTaken, IsRefused, IsNext, IsAppended}
use Rattle.afdx_core.specs.State.{Run, State, fresh_run, aged_in, answer_of, offers_by, refusal_of, after_row, after_advance, after_finish}
use Rattle.afdx_core.specs.Isolation.{IsOfAnArrival, IsRun, AcceptedTablesIsolate, RunsTakeArrivals, NoStepIsFull}
use Rattle.afdx_core.proofs.Lists.{length_more}
use Rattle.afdx_core.proofs.Feeds.{feed-push, passed_copies}
use Rattle.afdx_core.proofs.Isolating.{named_by}

-- ---- stamps that do not fall

order_push : (from : ℕ) (rows : List Row) (row : Row) → from ≤ row.stamp → All (λ (r : Row). r.stamp ≤ row.stamp) rows → InOrder from (map frame_of_row rows)
    → InOrder from (map frame_of_row (rows ++ row ∷ []))
order_push from [] row le late order = (le, tt)
order_push from (r ∷ rows) row le late order = (order.0, order_push r.stamp rows row (late 0 r (omega arith)) (λ k d lt. late (suc k) d (omega arith)) order.1)

not_earlier : (r : Run) (port stamp : ℕ) → refusal_of r port stamp ≡ None → r.latest ≤ stamp
not_earlier r port stamp is = by (is_none (port_row r.table port)) (nat_lt stamp r.latest) refl is where
  above : (m n : ℕ) → nat_lt m n ≡ false → n ≤ m
  above m n h = grind (arith, nat_tests)

  by : (a b : Bool) → nat_lt stamp r.latest ≡ b → cond a (Some NoSuchPort) (cond b (Some Earlier) None) ≡ None → r.latest ≤ stamp
  by true b at is = (cc)
  by false true at is = (cc)
  by false false at is = above stamp r.latest at

pub begun : (t : Content) → IsRun (fresh_run t)
begun t = record { arrivals = All-nil (IsOfAnArrival t); stamps = tt; latest = All-nil (λ (row : Row). row.stamp ≤ 0) }

pub finished : (r : Run) → IsRun r → IsRun (after_finish r)
finished r h = record { arrivals = h.arrivals; stamps = h.stamps; latest = h.latest }

pub takes : RunsTakeArrivals
takes r port frame is h =
    let le = not_earlier r port frame.stamp is in
    let row = row_of r.table port frame in
    let late = All-weaker (λ (row : Row). row.stamp ≤ r.latest) (λ (row : Row). row.stamp ≤ frame.stamp) (λ row at. omega (arith, at, le)) r.rows h.latest in
    record {
      arrivals = All-push (IsOfAnArrival r.table) r.rows row h.arrivals (port, frame, refl);
      stamps = order_push 0 r.rows row (omega arith) late h.stamps;
      latest = All-push (λ (row : Row). row.stamp ≤ frame.stamp) r.rows row late (omega arith);
    }

pub advances : (r : Run) (to : ℕ) → r.latest ≤ to → IsRun r → IsRun (after_advance to r)
advances r to le h = record {
  arrivals = h.arrivals;
  stamps = h.stamps;
  latest = All-weaker (λ (row : Row). row.stamp ≤ r.latest) (λ (row : Row). row.stamp ≤ to) (λ row at. omega (arith, at, le)) r.rows h.latest;
}

-- ---- offers

row_found : (ports : List PortRow) (id : ℕ) → has_port ports id ≡ true → (p : PortRow) × (find (λ (p : PortRow). p.id == id) ports ≡ Some p)
row_found [] id h = (cc)
row_found (p ∷ ports) id h = by (p.id == id) h (row_found ports id) where
  by : (b : Bool) → b || has_port ports id ≡ true → (has_port ports id ≡ true → (q : PortRow) × (find (λ (p : PortRow). p.id == id) ports ≡ Some q)) → (q : PortRow)
      × (cond b (Some p) (find (λ (p : PortRow). p.id == id) ports) ≡ Some q)
  by true h ih = (p, refl)
  by false h ih = ih h

port_true : (id : ℕ) (ports : List PortRow) (q : PortRow) → find (λ (p : PortRow). p.id == id) ports ≡ Some q → ((q.id == id) ≡ true) × Contains ports q
port_true id [] q is = (cc)
port_true id (p ∷ ports) q is = by (p.id == id) refl is (port_true id ports q) where
  by : (b : Bool) → (p.id == id) ≡ b → cond b (Some p) (find (λ (p : PortRow). p.id == id) ports) ≡ Some q
      → (find (λ (p : PortRow). p.id == id) ports ≡ Some q → ((q.id == id) ≡ true) × Contains ports q) → ((q.id == id) ≡ true) × Contains (p ∷ ports) q
  by true here is ih = let same : p ≡ q = (cc) in (ap (λ (x : PortRow). x.id == id) (sym same) ∙ here, (0, omega arith, same))
  by false here is ih = let rest = ih is in (rest.0, Contains-append_right (p ∷ []) ports q rest.1)

leads_itself : (to : List ℕ) → All (λ port. names_port port to ≡ true) to
leads_itself [] = All-nil (λ port. names_port port [] ≡ true)
leads_itself (q ∷ to) = λ k d lt. at k d lt (leads_itself to) where
  at : (k d : ℕ) → k < length (q ∷ to) → All (λ port. names_port port to ≡ true) to → names_port (get_or (q ∷ to) k d) (q ∷ to) ≡ true
  at zero d lt ih = or_left (q == q) (names_port q to) (eq-eqb q q refl)
  at (suc k) d lt ih = or_right (q == get_or to k d) (names_port (get_or to k d) to) (ih k d (omega arith))

-- an item is admitted where all that was offered with it was
fits_where : (s : Settings) (a : List Item) (x : Item) → admit s a x ≡ a ++ x ∷ [] → cond (fits s a x) Queued Full ≡ Queued
fits_where s a x is = by (fits s a x) is where
  longer : (n m : ℕ) → n ≡ m + 1 → m ≡ n → ⊥
  longer n m is same = omega (arith, is, same)

  by : (b : Bool) → cond b (a ++ x ∷ []) a ≡ a ++ x ∷ [] → cond b Queued Full ≡ Queued
  by true is = refl
  by false is = absurd (longer (length (a ++ x ∷ [])) (length a) (length_more a x) (ap length is))

module _ (in_parts : AdmittedInParts) (links : LinksAreFound) (isolate : AcceptedTablesIsolate) (r : Run) (port : ℕ) (frame : Record) (run : IsRun r) (taken : refusal_of r port frame.stamp ≡ None)
    (well : IsWellFormed r.table) (accepted : IsAccepted r.table) where
  abbrev row : Row
  row = row_of r.table port frame

  queued : (l : Link) → named r.table row.verdict ≡ Some l → passes l r.rows row ≡ true → (q : ℕ) → leads_to q l ≡ true → (p : PortRow) → port_row r.table q ≡ Some p
      → answer_of r (copy_of l r.rows row) (Some p) ≡ Queued
  queued l is pass q leads p found =
      let s = settings_of r.table.latency p in
      let x = copy_of l r.rows row in
      let at = port_true q r.table.ports p found in
      let same : p.id ≡ q = eqb-true p.id q at.0 in
      let before = (isolate r run well accepted).none_full p at.1 in
      let after = (isolate (after_row row r) (takes r port frame taken run) well accepted).none_full p at.1 in
      let more = feed-push r.table p.id r.rows row ∙ ap (λ ys. feed_of r.table p.id r.rows ++ ys) (passed_copies r.table p.id r.rows row l true is pass (ap (λ n. leads_to n l) same ∙ leads)) in
      fits_where s (admitted s (feed_of r.table p.id r.rows)) x
      (sym (in_parts s [] (feed_of r.table p.id r.rows) (x ∷ [])) ∙ ap (admitted s) (sym more) ∙ after ∙ more ∙ ap (λ ys. ys ++ x ∷ []) (sym before))

  all_queued : (o : Option Link) → named r.table row.verdict ≡ o → All (λ (offer : ℕ × Offer). offer.1 ≡ Queued) (offers_by r o row)
  all_queued None is = All-nil (λ (offer : ℕ × Offer). offer.1 ≡ Queued)
  all_queued (Some l) is = by (passes l r.rows row) refl where
    one : passes l r.rows row ≡ true → (q : ℕ) → leads_to q l ≡ true → (p : PortRow) × (port_row r.table q ≡ Some p) → answer_of r (copy_of l r.rows row) (port_row r.table q) ≡ Queued
    one pass q leads found = ap (answer_of r (copy_of l r.rows row)) found.1 ∙ queued l is pass q leads found.0 found.1

    by : (b : Bool) → passes l r.rows row ≡ b → All (λ (offer : ℕ × Offer). offer.1 ≡ Queued) (cond b (map (λ port. (port, answer_of r (copy_of l r.rows row) (port_row r.table port))) l.to) [])
    by false pass = All-nil (λ (offer : ℕ × Offer). offer.1 ≡ Queued)
    by true pass =
        let link = All-contains (IsLink r.table.ports) r.table.links l (All-from_recursion (IsLink r.table.ports) r.table.links well.links) (named_by links r.table row.verdict l is).2 in
        let ports = All-from_recursion (λ q. has_port r.table.ports q ≡ true) l.to link.targets.are_ports in
        All-map (λ (offer : ℕ × Offer). offer.1 ≡ Queued) (λ port. (port, answer_of r (copy_of l r.rows row) (port_row r.table port))) l.to
        (λ k d lt. one pass (get_or l.to k d) (leads_itself l.to k d lt) (row_found r.table.ports (get_or l.to k d) (ports k d lt)))

pub none_full : AdmittedInParts → LinksAreFound → AcceptedTablesIsolate → NoStepIsFull
none_full in_parts links isolate r port frame run taken well accepted = all_queued in_parts links isolate r port frame run taken well accepted (named r.table (row_of r.table port frame).verdict) refl

-- ---- what the engine's calls make of a run

pub arrived_run : (result : Result Step (CoreFault × Record)) (old new : State) (port : ℕ) (arrived : Record)
    → IfOk result (λ step. IsTaken old new (row_of old.run.table port arrived) arrived step × (refusal_of old.run port arrived.stamp ≡ None))
    → IfErr result (λ e. IsRefused old new port arrived e) → IsRun old.run → IsRun new.run
arrived_run (Ok step) old new port arrived ok err run = subst IsRun (sym ok.0.run) (takes old.run port arrived ok.1 run)
arrived_run (Err e) old new port arrived ok err run = subst (λ (s : State). IsRun s.run) (sym err.state) run

pub advanced_run : (result : Result (Unit {0}) CoreFault) (old new : Run) (to : ℕ)
    → OnOk result ((old.latest ≤ to) × (new ≡ after_advance to old)) → IfErr result (λ e. (to < old.latest) × (e ≡ Earlier) × (new ≡ old)) → IsRun old → IsRun new
advanced_run (Ok done) old new to ok err run = subst IsRun (sym ok.1) (advances old to ok.0 run)
advanced_run (Err e) old new to ok err run = subst IsRun (sym err.2) run

next_run : (old new : State) (port : ℕ) (out : Option Record) → IsNext old new port out → IsRun old.run → IsRun new.run
next_run old new port None h run = subst (λ (s : State). IsRun s.run) (sym h.1) run
next_run old new port (Some out) h run = subst IsRun (sym h.2.run) (record { arrivals = run.arrivals; stamps = run.stamps; latest = run.latest })

pub handed_run : (result : Result (Option Record) AllocError) (old new : State) (port : ℕ) → IfOk result (λ out. IsNext old new port out) → OnErr result (new ≡ old) → IsRun old.run → IsRun new.run
handed_run (Ok out) old new port ok err run = next_run old new port out ok run
handed_run (Err e) old new port ok err run = subst (λ (s : State). IsRun s.run) (sym err) run

pub appended_run : (result : Result Bool AllocError) (old new : State) (port : ℕ) (before after : List ℕ) → IfOk result (λ some. IsAppended old new port before after some) → OnErr result (new ≡ old)
    → IsRun old.run → IsRun new.run
appended_run (Ok true) old new port before after ok err run = let h = ok.text refl in next_run old new port (Some h.0) h.1 run
appended_run (Ok false) old new port before after ok err run = next_run old new port None (ok.none refl).0 run
appended_run (Err e) old new port before after ok err run = subst (λ (s : State). IsRun s.run) (sym err) run

-- over an accepted table, no port gave anything up
pub none_aged : AcceptedTablesIsolate → (r : Run) → IsRun r → IsWellFormed r.table → IsAccepted r.table → (port : ℕ) → aged_in r (port_row r.table port) ≡ []
none_aged isolate r run well accepted port = by (port_row r.table port) refl where
  by : (o : Option PortRow) → port_row r.table port ≡ o → aged_in r o ≡ []
  by None is = refl
  by (Some p) is = (isolate r run well accepted).none_aged p (port_true port r.table.ports p is).1

-- the answer to an arrival
pub answered : NoStepIsFull → (result : Result Step (CoreFault × Record)) (old new : State) (port : ℕ) (arrived : Record)
    → IfOk result (λ step. IsTaken old new (row_of old.run.table port arrived) arrived step × (refusal_of old.run port arrived.stamp ≡ None))
    → IsRun old.run → IsWellFormed old.run.table → IsAccepted old.run.table → IfOk result (λ step. All (λ offer. offer.1 ≡ Queued) step.offers)
answered full (Ok step) old new port arrived ok run well accepted =
    subst (λ (h : Step). All (λ (offer : ℕ × Offer). offer.1 ≡ Queued) h.offers) (sym ok.0.step_is) (full old.run port arrived run ok.1 well accepted)
answered full (Err e) old new port arrived ok run well accepted = tt
