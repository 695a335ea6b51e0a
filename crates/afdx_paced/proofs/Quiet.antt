-- Until when nothing happens at a switch.
use Rattle.std.proofs.Common.{◌≡◌, ℕ, ◌+◌, ◌-◌, ◌<◌, ◌≤◌, max, false, List, [], ◌∷◌, ◌++◌, map, length, slice_get, Option, Some, None, refl, ap, sym, ◌∙◌}
use Rattle.std.proofs.Common.{arith, inl, inr, subst}
use Rattle.std.specs.Prelude.{Contains, ◌⊎◌}
use Rattle.std.specs.Option.{option_map}
use Rattle.std.specs.List.{AllByRecursion}
use Rattle.std.proofs.lemmas.Bool.{cases_lt, ltb-false, le-ltb}
use Rattle.std.proofs.lemmas.List.{append-nil}
use Rattle.afdx_units.specs.Time.{earlier_of, is_before}
use Rattle.afdx_units.proofs.Earlier.{neither, no_later}
use Rattle.afdx_pcap.specs.Record.{Record}
use Rattle.afdx_table.specs.declared.rows.PortRow.{PortRow}
use Rattle.afdx_table.specs.Content.{Content}
use Rattle.afdx_port.specs.declared.Sent.{Sent}
use Rattle.afdx_port.specs.Service.{Event, instant, reach, service, before, sent_of}
use Rattle.afdx_port.specs.Content.{Content as PortContent, done, due, advanced}
use Rattle.afdx_port.specs.Lagging.{has_due}
use Rattle.afdx_port.specs.Inner.Lagging.{NothingDueStays}
use Rattle.afdx_port.specs.Inner.Course.{EventsAreInParts}
use Rattle.afdx_core.specs.declared.step.Row.{Row}
use Rattle.afdx_core.specs.Next.{IsNextEvent}
use Rattle.afdx_core.specs.State.{Run, State, port_after, port_in}
use Rattle.afdx_core.specs.Merge.{Arrival, arrivals_of, by_stamp, merged}
use Rattle.afdx_core.specs.Inner.Merge.{ByStampIsOrdered}
use Rattle.afdx_session.specs.Output.{rows_of, written}
use Rattle.afdx_session.specs.Streams.{sent_up_to, LaterArrivalsChangeNothing}
use Rattle.afdx_session.specs.Inner.Settled.{IsGiven}
use Rattle.afdx_paced.specs.Paced.{out_up_to, IsQuietUntil, IsNext}
use Rattle.afdx_paced.specs.Laws.{MergesAreCut}
use Rattle.afdx_paced.specs.Inner.Parts.{Parts, waiting_of}
use Rattle.afdx_paced.specs.Inner.Kept.{paced_of, IsCut, given_of, IsGoing, IsFirstHead, IsNextStart}
use Rattle.afdx_paced.specs.declared.feeder.Feeder.{Feeder}
use Rattle.afdx_paced.proofs.Puts.{out_by, out_without}
use Rattle.afdx_paced.proofs.Lists.{all_weaker}
use Rattle.afdx_paced.proofs.Cutting.{parted_whole, waits_from, cut_parted}
use Rattle.afdx_paced.proofs.Heads.{empty_from}
use Rattle.afdx_paced.proofs.Handing.{out_is}

abbrev WaitsFrom : ℕ → Parts → Type 0
WaitsFrom h l = AllByRecursion (λ (r : Record). h ≤ r.stamp) l.waiting

-- ---- at one port

-- what is sent of these arrivals is what the port has done once it has come to the instant
sent_at : (t : Content) (given : List Arrival) (n : ℕ) (s : State) (p : PortRow) → IsGiven t given s → sent_of (done (advanced n (port_in s.run p))) ≡ sent_up_to t given (Some n) p
unfolding sent_up_to
sent_at t given n s p is =
    ap (λ (c : Content). sent_of (done (advanced n (port_after c s.run.rows s.run.latest s.run.finished p)))) is.table
    ∙ ap (λ (rows : List Row). sent_of (done (advanced n (port_after t rows s.run.latest s.run.finished p)))) is.rows
    ∙ ap (λ b. sent_of (done (advanced n (port_after t (rows_of t given) s.run.latest b p)))) is.still_open

sent_all : (t : Content) (given : List Arrival) (s : State) (p : PortRow) → IsGiven t given s
    → sent_of (service (port_in s.run p).settings 0 (port_in s.run p).admitted) ≡ sent_up_to t given None p
unfolding sent_up_to
sent_all t given s p is =
    let all : PortContent → List Sent = λ c. sent_of (service c.settings 0 c.admitted) in
    ap (λ (c : Content). all (port_after c s.run.rows s.run.latest s.run.finished p)) is.table
    ∙ ap (λ (rows : List Row). all (port_after t rows s.run.latest s.run.finished p)) is.rows

-- nothing is due before an instant that is no later than the first that is due
none_due_by : (at n : ℕ) (o : Option ℕ) → is_before at o ≡ false → n ≤ at → is_before n o ≡ false
none_due_by at n None none le = refl
none_due_by at n (Some b) none le = let late = ltb-false b at none in le-ltb b n (omega (arith, late, le))

none_due : (r : Run) (n : ℕ) (p : PortRow) → IsNextStart r None ⊎ ((m : ℕ) × IsNextStart r (Some m) × (n ≤ m)) → 0 < n → Contains r.table.ports p → has_due n (port_in r p) ≡ false
unfolding reach
none_due r n p (inl none) positive among = ap (λ (o : Option ℕ). is_before (n + r.table.latency) o) (none p among)
none_due r n p (inr (m, start, le)) positive among = by_start start.2 where
  by_start : (m ≡ 0) ⊎ (m + r.table.latency ≤ start.0) → is_before (n + r.table.latency) (due (port_in r p)) ≡ false
  by_start (inl at_zero) = absurd (omega (arith, at_zero, le, positive))
  by_start (inr latest) = none_due_by start.0 (n + r.table.latency) (due (port_in r p)) (start.1.none_before p among) (omega (arith, latest, le))

-- ---- at all ports

-- what waits has no part in what leaves up to an instant that it does not come before
out_given : {Z : Type 0} → LaterArrivalsChangeNothing → MergesAreCut → ByStampIsOrdered → (h n : ℕ) (f : Feeder Z) (p : PortRow) → IsGoing h f → AllByRecursion (WaitsFrom n) f.lanes.items
    → out_up_to (paced_of f h false) (Some n) p ≡ out_by f.switch.run.table (given_of f.lanes.items) (Some n) p
out_given law cut ordered h n f p going later =
    ap (λ (xs : List Arrival). out_by f.switch.run.table xs (Some n) p) (parted_whole cut h f.lanes.items (cut_parted h f.lanes.items going.cut))
    ∙ out_without law f.switch.run.table (given_of f.lanes.items) (merged (map waiting_of f.lanes.items)) n p (waits_from ordered n f.lanes.items later)

quiet_until : {Z : Type 0} → LaterArrivalsChangeNothing → MergesAreCut → ByStampIsOrdered → NothingDueStays → (h n : ℕ) (f : Feeder Z) → IsGoing h f → AllByRecursion (WaitsFrom n) f.lanes.items
    → h ≤ n → ((p : PortRow) → Contains f.switch.run.table.ports p → has_due n (port_in f.switch.run p) ≡ false) → IsQuietUntil (paced_of f h false) (Some n)
quiet_until law cut ordered stays h n f going later le none p among =
    let t = f.switch.run.table in
    let given = given_of f.lanes.items in
    let here = going.latest in
    let same = stays (port_in f.switch.run p) n going.is_given.still_open (omega (arith, here, le)) (none p among) in
    out_given law cut ordered h n f p going later
    ∙ ap (map (written given)) (sym (sent_at t given n f.switch p going.is_given) ∙ ap sent_of same)
    ∙ sym (out_is law cut ordered h f p going)

-- ---- where nothing is left

no_waiting : (lanes : List Parts) → AllByRecursion (λ (l : Parts). l.waiting ≡ []) lanes → arrivals_of (map waiting_of lanes) ≡ []
no_waiting [] none = refl
no_waiting (l ∷ lanes) none = ap (λ (rs : List Record). map (λ (r : Record). record { port = l.port; frame = r }) rs ++ arrivals_of (map waiting_of lanes)) none.0 ∙ no_waiting lanes none.1

none_behind : (xs ys : List Event) → option_map instant (slice_get (xs ++ ys) (length xs)) ≡ None → ys ≡ []
none_behind [] [] none = refl
none_behind [] (y ∷ ys) none = absurd cc
none_behind (x ∷ xs) ys none = none_behind xs ys none

all_done : EventsAreInParts → (c : PortContent) → c.finished ≡ false → due c ≡ None → service c.settings 0 c.admitted ≡ done c
all_done parts c still_open none =
    let split = parts c.settings (reach c.settings c.horizon) c.admitted in
    let now : done c ≡ before (reach c.settings c.horizon) (service c.settings 0 c.admitted) = rw still_open refl in
    let rest : split.0 ≡ [] = none_behind (before (reach c.settings c.horizon) (service c.settings 0 c.admitted)) split.0
    (ap (λ (events : List Event). option_map instant (slice_get events (length (before (reach c.settings c.horizon) (service c.settings 0 c.admitted))))) (sym split.1)
    ∙ ap (λ (events : List Event). option_map instant (slice_get (service c.settings 0 c.admitted) (length events))) (sym now) ∙ none) in
    split.1 ∙ ap (λ (events : List Event). before (reach c.settings c.horizon) (service c.settings 0 c.admitted) ++ events) rest
    ∙ append-nil (before (reach c.settings c.horizon) (service c.settings 0 c.admitted)) ∙ sym now

quiet_for_good : {Z : Type 0} → LaterArrivalsChangeNothing → MergesAreCut → ByStampIsOrdered → EventsAreInParts → (h : ℕ) (f : Feeder Z) → IsGoing h f
    → AllByRecursion (λ (l : Parts). l.waiting ≡ []) f.lanes.items → IsNextEvent f.switch.run None → IsQuietUntil (paced_of f h false) None
quiet_for_good law cut ordered parts h f going none event p among =
    let t = f.switch.run.table in
    let given = given_of f.lanes.items in
    ap (λ (xs : List Arrival). out_by t xs None p)
    (parted_whole cut h f.lanes.items (cut_parted h f.lanes.items going.cut) ∙ ap (λ (xs : List Arrival). given ++ by_stamp xs) (no_waiting f.lanes.items none) ∙ append-nil given)
    ∙ ap (map (written given)) (sym (sent_all t given f.switch p going.is_given) ∙ ap sent_of (all_done parts (port_in f.switch.run p) going.is_given.still_open (event p among)))
    ∙ sym (out_is law cut ordered h f p going)

-- ---- what the code finds

by_head : (n h : ℕ) (lanes : List Parts) (head : Option ℕ) → AllByRecursion (WaitsFrom h) lanes → IsFirstHead lanes head → ((m : ℕ) → head ≡ Some m → n ≤ m) → AllByRecursion (WaitsFrom n) lanes
by_head n h lanes None cut none later = empty_from n lanes none
by_head n h lanes (Some m) cut first later =
    let le = later m refl in
    all_weaker (WaitsFrom m) (WaitsFrom n) (λ l all. all_weaker (λ (r : Record). m ≤ r.stamp) (λ (r : Record). n ≤ r.stamp) (λ r from. omega (arith, from, le)) l.waiting all) lanes first

by_start : (r : Run) (n : ℕ) (start : Option ℕ) → IsNextStart r start → ((m : ℕ) → start ≡ Some m → n ≤ m) → IsNextStart r None ⊎ ((m : ℕ) × IsNextStart r (Some m) × (n ≤ m))
by_start r n None start later = inl start
by_start r n (Some m) start later = inr (m, start, later m refl)

pub comes_next : {Z : Type 0} → LaterArrivalsChangeNothing → MergesAreCut → ByStampIsOrdered → NothingDueStays → (h n : ℕ) (f : Feeder Z) (head start : Option ℕ) → IsGoing h f
    → IsFirstHead f.lanes.items head → IsNextStart f.switch.run start → earlier_of head start ≡ Some n → IsNext (paced_of f h false) (Some (max n h))
comes_next {Z} law cut ordered stays h n f head start going first next is = (
  omega arith,
  elim (cases_lt h n) [
    | inl later ↦ let most : n ≡ max n h = omega (arith, later) in subst (λ m. IsQuietUntil (paced_of f h false) (Some m)) most (after later)
    | inr sooner ↦
        let most : h ≡ max n h = omega (arith, sooner) in
        let here : IsQuietUntil (paced_of f h false) (Some h) = λ p among. refl in
        subst (λ m. IsQuietUntil (paced_of f h false) (Some m)) most here
  ],
) where
  cut_from : AllByRecursion (WaitsFrom h) f.lanes.items
  cut_from = all_weaker (IsCut h) (WaitsFrom h) (λ l c. c.waiting) f.lanes.items going.cut

  after : h < n → IsQuietUntil (paced_of f h false) (Some n)
  after later = quiet_until law cut ordered stays h n f going (by_head n h f.lanes.items head cut_from first (no_later head start n is).0) (omega (arith, later))
      (λ p among. none_due f.switch.run n p (by_start f.switch.run n start next (no_later head start n is).1) (omega (arith, later)) among)

pub none_next : {Z : Type 0} → LaterArrivalsChangeNothing → MergesAreCut → ByStampIsOrdered → EventsAreInParts → (h : ℕ) (f : Feeder Z) (head start : Option ℕ) → IsGoing h f
    → IsFirstHead f.lanes.items head → IsNextStart f.switch.run start → earlier_of head start ≡ None → IsNext (paced_of f h false) None
none_next law cut ordered parts h f head start going first next is =
    let none = neither head start is in
    quiet_for_good law cut ordered parts h f going (subst (IsFirstHead f.lanes.items) none.0 first) (subst (IsNextStart f.switch.run) none.1 next)
