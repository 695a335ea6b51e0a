-- A run over whole captures: its lanes agree with the captures that were lent, and nothing was taken before the end.
use Rattle.std.proofs.Common.{◌≡◌, ℕ, ◌==◌, Bool, true, false, cond, List, [], ◌∷◌, map, drop, Some, refl, ap, sym, ◌∙◌, subst}
use Rattle.std.specs.Prelude.{find}
use Rattle.std.specs.List.{AllByRecursion}
use Rattle.afdx_table.specs.declared.rows.PortRow.{PortRow}
use Rattle.afdx_table.specs.Content.{Content}
use Rattle.afdx_port.specs.Inner.Admission.{EarlierEventsStayAdmitted}
use Rattle.afdx_port.specs.Inner.Order.{ReachesInOrder}
use Rattle.afdx_core.specs.State.{after_finish}
use Rattle.afdx_core.specs.Inner.Merge.{ByStampIsOrdered}
use Rattle.afdx_count.specs.Tally.{ended_tally}
use Rattle.afdx_count.specs.Inner.Laws.{EndCountsTheRun}
use Rattle.afdx_session.specs.declared.lane.Lane.{Lane}
use Rattle.afdx_session.specs.declared.machine.Machine.{Machine}
use Rattle.afdx_session.specs.declared.plan.RunFault.{RunFault}
use Rattle.afdx_session.specs.declared.plan.RunFault.TheVariants as run
use Rattle.afdx_session.specs.Texts.{Text, AreOfPorts}
use Rattle.afdx_session.specs.Reading.{IsReadFault}
use Rattle.afdx_session.specs.Outcome.{Results, IsOutcome, IsRefusal}
use Rattle.afdx_session.specs.Headline.{AcceptedRunsIsolate, IsIsolated}
use Rattle.afdx_session.specs.Streams.{AllStartBeforeTheLastInstant}
use Rattle.afdx_session.specs.Session.{Intake, Seen, taken_in, taken_of}
use Rattle.afdx_session.specs.Finish.{rest_of, IsFinished}
use Rattle.afdx_session.specs.Inner.Lanes.{intake_of}
use Rattle.afdx_session.specs.Inner.Kept.{IsMarked, IsOfSameTable}
use Rattle.afdx_session.specs.Inner.View.{texts_at, seen_of, intakes_of, IsReady, IsKeptMachine, AreLent, HasCarried}
use Rattle.afdx_session.proofs.Intakes.{marked_bytes}
use Rattle.afdx_session.proofs.Shown.{kept_ready}
use Rattle.afdx_session.proofs.Ending.{TakenAreTheCapture}
use Rattle.afdx_session.proofs.Finishing.{finished}

-- ---- the captures

-- the texts that the lanes agree with are those that were lent
texts_are : {Z : Type 0} (begun : Bool) (texts : List Text) (lanes : List (Lane Z)) → AreLent texts lanes → AllByRecursion (IsMarked begun) lanes → texts_at lanes ≡ texts
texts_are begun [] [] lent marked = refl
texts_are begun [] (l ∷ lanes) lent marked = absurd lent
texts_are begun (text ∷ texts) [] lent marked = absurd lent
texts_are begun (text ∷ texts) (l ∷ lanes) lent marked =
    ap (λ (n : ℕ). (n, (intake_of l).bytes) ∷ texts_at lanes) lent.0.port
    ∙ ap (λ (bytes : List ℕ). (text.0, bytes) ∷ texts_at lanes) (marked_bytes begun l marked.0 ∙ lent.0.bytes)
    ∙ ap (λ ts. text ∷ ts) (texts_are begun texts lanes lent.1 marked.1)

lent_ports : {Z : Type 0} (texts : List Text) (lanes : List (Lane Z)) → AreLent texts lanes → map (λ (l : Lane Z). l.port) lanes ≡ map (λ (text : Text). text.0) texts
lent_ports [] [] lent = refl
lent_ports [] (l ∷ lanes) lent = absurd lent
lent_ports (text ∷ texts) [] lent = absurd lent
lent_ports {Z = Z} (text ∷ texts) (l ∷ lanes) lent = ap (λ n. n ∷ map (λ (x : Lane Z). x.port) lanes) lent.0.port ∙ ap (λ ns. text.0 ∷ ns) (lent_ports texts lanes lent.1)

-- ---- what was taken

nothing_taken : {Z : Type 0} (texts : List Text) (lanes : List (Lane Z)) (port : ℕ) → AreLent texts lanes → taken_in (find (λ (i : Intake). i.port == port) (intakes_of lanes)) ≡ 0
nothing_taken [] [] port lent = refl
nothing_taken [] (l ∷ lanes) port lent = absurd lent
nothing_taken (text ∷ texts) [] port lent = absurd lent
nothing_taken (text ∷ texts) (l ∷ lanes) port lent = by (l.port == port) (nothing_taken texts lanes port lent.1) where
  by : (here : Bool) → taken_in (find (λ (i : Intake). i.port == port) (intakes_of lanes)) ≡ 0 → taken_in (cond here (Some (intake_of l)) (find (λ (i : Intake). i.port == port) (intakes_of lanes)))
      ≡ 0
  by true rest = lent.0.taken
  by false rest = rest

-- where nothing was taken, the rest is all
rest_is_all : (v : Seen) (texts : List Text) → ((port : ℕ) → taken_of v port ≡ 0) → map (rest_of v) texts ≡ texts
rest_is_all v [] none = refl
rest_is_all v (text ∷ texts) none = ap (λ n. (text.0, drop n text.1) ∷ map (rest_of v) texts) (none text.0) ∙ ap (λ ts. text ∷ ts) (rest_is_all v texts none)

same_results : (a b : Results) → a.captures ≡ b.captures → a.counts ≡ b.counts → a ≡ b
same_results a b captures counts = ap (λ texts. record { captures = texts; counts = a.counts }) captures ∙ ap (λ tally. record { captures = b.captures; counts = tally }) counts

-- ---- the run

-- what is true of each session is true of a machine that all captures were lent to
pub kept_lent : {Z : Type 0} → ByStampIsOrdered → EarlierEventsStayAdmitted → ReachesInOrder → AllStartBeforeTheLastInstant → (old new : Machine Z) (t : Content) (texts : List Text)
    → IsKeptMachine old false false → old.switch.run.table ≡ t → AreOfPorts t texts → IsOfSameTable old.switch new.switch → IsReady new true
    → AreLent texts new.lanes.items → IsKeptMachine new true false
kept_lent ordered stay reaches ends old new t texts kept table ports same ready lent =
    kept_ready ordered stay reaches ends old new false false same
    (lent_ports texts new.lanes.items lent ∙ ports ∙ ap (λ (c : Content). map (λ (p : PortRow). p.id) c.ports) (sym table) ∙ sym kept.of.ports) kept ready

-- its fault is that of the captures
pub lent_fault : {Z : Type 0} (m : Machine Z) (texts : List Text) (fault : RunFault) → AreLent texts m.lanes.items → IsReady m true → IsReadFault (texts_at m.lanes.items) fault
    → IsReadFault texts fault
lent_fault m texts fault lent ready is = subst (λ ts. IsReadFault ts fault) (texts_are true texts m.lanes.items lent ready.marked) is

pub is_refusal : (t : Content) (texts : List Text) (fault : RunFault) → AreOfPorts t texts → IsReadFault texts fault → IsRefusal t texts fault
is_refusal t texts run.Memory ports is = ports
is_refusal t texts (run.Capture port why) ports is = (ports, is)
is_refusal t texts run.WrongPorts ports is = absurd is
is_refusal t texts run.Closed ports is = is
is_refusal t texts run.Failed ports is = is

-- the end of such a machine gives the whole output
pub lent_outcome : {Z : Type 0} → ByStampIsOrdered → EarlierEventsStayAdmitted → ReachesInOrder → AllStartBeforeTheLastInstant → TakenAreTheCapture → EndCountsTheRun → AcceptedRunsIsolate
    → (accepted : Bool) (t : Content) (texts : List Text) (new : Machine Z) (results : Results) → HasCarried accepted t texts new
    → results.captures ≡ map (λ (l : Lane Z). (l.port, l.out.items)) new.lanes.items → results.counts ≡ ended_tally (after_finish new.switch.run) new.counts → IsOutcome t texts results
    × (accepted ≡ true → IsIsolated t texts results)
lent_outcome {Z} ordered stay reaches ends takes law isolate accepted t texts new results carried captures counts =
    (seen_as (λ c ts r. IsOutcome c ts r) end.outcome, λ cleared. seen_as (λ c ts r. IsIsolated c ts r) (end.isolated (carried.accepted ∙ cleared))) where
      old : Machine Z
      old = carried.lent

      v : Seen
      v = seen_of old true false

      end : IsFinished v results
      end = finished ordered stay reaches ends takes law isolate old new true results carried.kept carried.same carried.half carried.ended carried.running captures counts

      all : results ≡ end.whole
      all = same_results results end.whole (end.captures ∙ rest_is_all v end.whole.captures (λ port. nothing_taken texts old.lanes.items port carried.captures)) end.counts

      seen_as : (P : Content → List Text → Results → Type 0) → P old.switch.run.table (texts_at old.lanes.items) end.whole → P t texts results
      seen_as P is =
          subst (λ (c : Content). P c texts results) carried.table
          (subst (λ (ts : List Text). P old.switch.run.table ts results) (texts_are true texts old.lanes.items carried.captures (carried.kept.ready refl).marked)
          (subst (λ (r : Results). P old.switch.run.table (texts_at old.lanes.items) r) (sym all) is))
