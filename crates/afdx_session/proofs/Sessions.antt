-- What contracts see of a session after a call, from what its lanes are then.
use Rattle.std.proofs.Common.{◌≡◌, ℕ, zero, suc, ◌+◌, ◌<◌, ◌≤◌, ◌^◌, ◌==◌, Bool, true, false, cond, List, [], ◌∷◌, ◌++◌, map, length, take, drop, set, slice_get, slice_index_or, Some, None, Ok}
use Rattle.std.proofs.Common.{◌-◌, Option, arith, option_map, Err, refl, ap, sym, ◌∙◌, inl, inr, subst}
use Rattle.std.specs.Prelude.{find, Result, IsErr, IsErrAnd, IfErr, OnOk, IfSome, IfNone}
use Rattle.std.specs.Io.KnownBytes.{Appends}
use Rattle.std.specs.declared.alloc.AllocError.{AllocError}
use Rattle.std.specs.List.{position}
use Rattle.std.proofs.lemmas.Option.{same_Some, slice_get-map, slice_get-get_or, IfSome_then}
use Rattle.std.proofs.lemmas.Bool.{eqb-true}
use Rattle.afdx_pcap.specs.Record.{Record}
use Rattle.afdx_pcap.specs.Capture.{IsCapture}
use Rattle.afdx_table.specs.declared.rows.PortRow.{PortRow}
use Rattle.afdx_table.specs.Content.{Content, port_row}
use Rattle.afdx_port.specs.Inner.Admission.{EarlierEventsStayAdmitted}
use Rattle.afdx_port.specs.Inner.Order.{ReachesInOrder}
use Rattle.afdx_core.specs.State.{after_finish}
use Rattle.afdx_core.specs.Inner.Merge.{ByStampIsOrdered}
use Rattle.afdx_count.specs.Tally.{ended_tally}
use Rattle.afdx_count.specs.Inner.Laws.{EndCountsTheRun}
use Rattle.afdx_session.specs.declared.lane.Lane.{Lane}
use Rattle.afdx_session.specs.declared.machine.Machine.{Machine}
use Rattle.afdx_session.specs.declared.plan.RunFault.{RunFault}
use Rattle.afdx_session.specs.declared.plan.RunFault.TheVariants as run
use Rattle.afdx_session.specs.Reading.{IsFaultAt, IsReadFault}
use Rattle.afdx_session.specs.Outcome.{Results}
use Rattle.afdx_session.specs.Headline.{AcceptedRunsIsolate}
use Rattle.afdx_session.specs.Finish.{IsFinished, IsNotFinished}
use Rattle.afdx_session.specs.Streams.{AllStartBeforeTheLastInstant}
use Rattle.afdx_session.specs.Session.{Intake, Seen, intake_bytes, taken_in, taken_of, refusal_at, refusal, fed_bytes, changed, fed, closed_intake, took, after_feed, after_close, after_take}
use Rattle.afdx_session.specs.Session.{after_failure}
use Rattle.afdx_session.specs.Session.{IsRefused, IsSoundSoFar, HasGoneOut}
use Rattle.afdx_session.specs.Lanes.{IsPieceFault}
use Rattle.afdx_session.specs.Inner.Lanes.{intake_of}
use Rattle.afdx_session.specs.Inner.Kept.{AreOfTable, IsOfSameTable, IsRunning}
use Rattle.afdx_session.specs.Inner.View.{intakes_of, seen_of, gone_out, IsShownAt, IsKeptMachine, IsReady, AreHalfDone, AreEndedLanes, texts_at, IsTaken, IsOpenAt, IsFed, IsEnded, IsNotFed}
use Rattle.afdx_session.specs.Inner.View.{IsNotEnded}
use Rattle.std.proofs.lemmas.List.{map-set}
use Rattle.afdx_session.proofs.Places.{IsPlaceOf, position_at, position_none, place_of_port, no_such_row, is_lane_of}
use Rattle.afdx_session.proofs.Shown.{kept_ready, kept_failed}
use Rattle.afdx_session.proofs.Ending.{TakenAreTheCapture}
use Rattle.afdx_session.proofs.Finishing.{finished, half_intakes}
use Rattle.afdx_session.proofs.Taken.{all_taken, took_intake, set_back}

-- the place of an open lane is that of its intake and its row
pub open_is : {Z : Type 0} (t : Content) (lanes : List (Lane Z)) (port place : ℕ) → AreOfTable t lanes → IsOpenAt lanes port place → IsPlaceOf t.ports lanes port place
open_is t lanes port place of is_open =
    let both = position_at (is_lane_of port) lanes place is_open.first in
    place_of_port t.ports lanes port place of.ports both.0 both.1

-- it may be fed or closed
pub may_go_on : {Z : Type 0} (m : Machine Z) (begun : Bool) (port place : ℕ) → AreOfTable m.switch.run.table m.lanes.items → IsOpenAt m.lanes.items port place → refusal (seen_of m begun false) port
    ≡ None
may_go_on m begun port place of is_open =
    let is = open_is m.switch.run.table m.lanes.items port place of is_open in
    let same : is.lane.closed ≡ false = ap (λ l. l.closed) (same_Some is.lane is_open.lane (sym is.at ∙ is_open.at)) ∙ is_open.still_open in
    ap refusal_at is.intake_is ∙ ap (λ b. cond b (Some run.Closed) None) same

-- the bytes of its port are those of its lane
pub bytes_are : {Z : Type 0} (m : Machine Z) (begun failed : Bool) (port place : ℕ) (l : Lane Z) → AreOfTable m.switch.run.table m.lanes.items → IsOpenAt m.lanes.items port place
    → slice_get m.lanes.items place ≡ Some l
    → ((intake_of l).bytes ≡ fed_bytes (seen_of m begun failed) port) × (l.port ≡ port)
bytes_are {Z = Z} m begun failed port place l of is_open at =
    let is = open_is m.switch.run.table m.lanes.items port place of is_open in
    let same : l ≡ is.lane = same_Some l is.lane (sym at ∙ is.at) in
    (ap (λ (x : Lane Z). (intake_of x).bytes) same ∙ sym (ap intake_bytes is.intake_is), ap (λ (x : Lane Z). x.port) same ∙ eqb-true is.lane.port port is.port_is)

-- what is seen, from its parts
abbrev seen : Content → Bool → List Intake → Bool → Bool → Seen
seen t accepted intakes begun failed = record { table = t; accepted = accepted; intakes = intakes; begun = begun; failed = failed }

seen_parts : (t u : Content) (a b : Bool) (is js : List Intake) (begun failed : Bool) → u ≡ t → b ≡ a → js ≡ is → seen u b js begun failed ≡ seen t a is begun failed
seen_parts t u a b is js begun failed table accepted intakes = rw (table, accepted, intakes) refl

-- a piece came
pub seen_fed : {Z : Type 0} (old new : Machine Z) (begun : Bool) (port place : ℕ) (piece : List ℕ) → AreOfTable old.switch.run.table old.lanes.items → IsOpenAt old.lanes.items port place
    → IsOfSameTable old.switch new.switch
    → IsFed old.lanes.items new.lanes.items place piece → seen_of new true false ≡ after_feed (seen_of old begun false) port piece
seen_fed old new begun port place piece of is_open same is =
    let at = open_is old.switch.run.table old.lanes.items port place of is_open in
    let lane : is.lane ≡ at.lane = same_Some is.lane at.lane (sym is.at ∙ at.at) in
    seen_parts old.switch.run.table new.switch.run.table old.switch.accepted new.switch.accepted (changed port (fed piece) (intakes_of old.lanes.items)) (intakes_of new.lanes.items) true false
    same.table same.accepted
    (is.intakes ∙ ap (λ l. set (intakes_of old.lanes.items) place (fed piece (intake_of l))) lane ∙ sym (at.changed_is (fed piece)))

-- a capture ended
pub seen_ended : {Z : Type 0} (old new : Machine Z) (begun : Bool) (port place : ℕ) → AreOfTable old.switch.run.table old.lanes.items → IsOpenAt old.lanes.items port place
    → IsOfSameTable old.switch new.switch
    → IsEnded old.lanes.items new.lanes.items place → seen_of new true false ≡ after_close (seen_of old begun false) port
seen_ended old new begun port place of is_open same is =
    let at = open_is old.switch.run.table old.lanes.items port place of is_open in
    let lane : is.lane ≡ at.lane = same_Some is.lane at.lane (sym is.at ∙ at.at) in
    seen_parts old.switch.run.table new.switch.run.table old.switch.accepted new.switch.accepted (changed port closed_intake (intakes_of old.lanes.items)) (intakes_of new.lanes.items) true false
    same.table
    same.accepted
    (is.intakes ∙ ap (λ l. set (intakes_of old.lanes.items) place (closed_intake (intake_of l))) lane ∙ sym (at.changed_is closed_intake))

-- the call failed
pub seen_failed : {Z : Type 0} (old new : Machine Z) (begun : Bool) → IsOfSameTable old.switch new.switch → AreHalfDone old.lanes.items new.lanes.items → seen_of new begun true
    ≡ after_failure (seen_of old begun false)
seen_failed old new begun same half =
    seen_parts old.switch.run.table new.switch.run.table old.switch.accepted new.switch.accepted (intakes_of old.lanes.items) (intakes_of new.lanes.items) begun true same.table same.accepted
    (half_intakes old.lanes.items new.lanes.items half)

pub refused_piece : {Z : Type 0} (old new : Machine Z) (begun : Bool) (port place : ℕ) (piece : List ℕ) (fault : RunFault) → AreOfTable old.switch.run.table old.lanes.items
    → IsOpenAt old.lanes.items port place → IsOfSameTable old.switch new.switch
    → IsNotFed old.lanes.items new.lanes.items place piece fault → IsRefused (seen_of old begun false) (seen_of new begun true) port fault
    (IsPieceFault (fed_bytes (seen_of old begun false) port ++ piece) port fault)
refused_piece old new begun port place piece fault of is_open same is =
    let own = bytes_are old begun false port place is.lane of is_open is.at in
    inr (
      may_go_on old begun port place of is_open,
      seen_failed old new begun same is.half,
      subst (λ n. IsPieceFault (fed_bytes (seen_of old begun false) port ++ piece) n fault) own.1 (subst (λ xs. IsPieceFault (xs ++ piece) is.lane.port fault) own.0 is.why),
    )

pub refused_end : {Z : Type 0} (old new : Machine Z) (begun : Bool) (port place : ℕ) (fault : RunFault) → AreOfTable old.switch.run.table old.lanes.items → IsOpenAt old.lanes.items port place
    → IsOfSameTable old.switch new.switch
    → IsNotEnded old.lanes.items new.lanes.items place fault → IsRefused (seen_of old begun false) (seen_of new begun true) port fault (IsFaultAt (fed_bytes (seen_of old begun false) port) port fault)
refused_end old new begun port place fault of is_open same is =
    let own = bytes_are old begun false port place is.lane of is_open is.at in
    inr (
      may_go_on old begun port place of is_open,
      seen_failed old new begun same is.half,
      subst (λ n. IsFaultAt (fed_bytes (seen_of old begun false) port) n fault) own.1 (subst (λ xs. IsFaultAt xs is.lane.port fault) own.0 is.why),
    )

-- ---- calls of a session, as contracts see it

-- what is seen of the parts of a session, none of whose calls has failed
pub seen_so_far : {Z : Type 0} (m : Machine Z) (begun failed : Bool) (v : Seen) → seen_of m begun failed ≡ v → failed ≡ false → seen_of m begun false ≡ v
seen_so_far m begun failed v is not_failed = ap (λ b. seen_of m begun b) (sym not_failed) ∙ is

-- no such port, or it is closed
pub refused_place : {Z : Type 0} (m : Machine Z) (begun failed : Bool) (v : Seen) (lanes : List (Lane Z)) (port : ℕ) (fault : RunFault) (Why : Type 0) → seen_of m begun failed ≡ v → failed ≡ false
    → lanes ≡ m.lanes.items
    → refusal_at (find (λ (i : Intake). i.port == port) (intakes_of lanes)) ≡ Some fault → IsRefused v v port fault Why
refused_place m begun failed v lanes port fault Why is not_failed same at =
    inl (
      ap (λ w. refusal w port) (sym (seen_so_far m begun failed v is not_failed))
          ∙ ap (λ ls. refusal_at (find (λ (i : Intake). i.port == port) (intakes_of ls))) (sym same)
          ∙ at,
      refl,
    )

pub of_error : {T E : Type 0} (P : E → Type 0) (r : Result T E) (e : E) → IsErr r × IsErrAnd r (λ x. x ≡ e) → P e → IfErr r P
of_error P (Ok x) e is holds = absurd is.1
of_error P (Err x) e is holds = subst P (sym is.1) holds

-- the lanes that are looked at are those of the machine
pub open_at : {Z : Type 0} (lanes of_machine : List (Lane Z)) (port place : ℕ) → lanes ≡ of_machine → IsOpenAt lanes port place → IsOpenAt of_machine port place
open_at lanes of_machine port place same is_open = subst (λ ls. IsOpenAt ls port place) same is_open

ports_of_intakes : {Z : Type 0} (lanes : List (Lane Z)) → map (λ (l : Lane Z). l.port) lanes ≡ map (λ (i : Intake). i.port) (intakes_of lanes)
ports_of_intakes [] = refl
ports_of_intakes (l ∷ lanes) = ap (λ ns. l.port ∷ ns) (ports_of_intakes lanes)

set_ports : (intakes : List Intake) (k : ℕ) (old new : Intake) → slice_get intakes k ≡ Some old → new.port ≡ old.port → map (λ (i : Intake). i.port) (set intakes k new)
    ≡ map (λ (i : Intake). i.port) intakes
set_ports [] k old new at same = refl
set_ports (i ∷ intakes) zero old new at same = ap (λ n. n ∷ map (λ (j : Intake). j.port) intakes) (same ∙ ap (λ (j : Intake). j.port) (sym (same_Some i old at)))
set_ports (i ∷ intakes) (suc k) old new at same = ap (λ ns. i.port ∷ ns) (set_ports intakes k old new at same)

ports_after : {Z : Type 0} (old new : List (Lane Z)) (k : ℕ) (l : Lane Z) (i : Intake) → slice_get old k ≡ Some l → i.port ≡ l.port → intakes_of new ≡ set (intakes_of old) k i
    → map (λ (x : Lane Z). x.port) new ≡ map (λ (x : Lane Z). x.port) old
ports_after old new k l i at same is =
    ports_of_intakes new
    ∙ ap (λ is. map (λ (j : Intake). j.port) is) is
    ∙ set_ports (intakes_of old) k (intake_of l) i (slice_get-map intake_of old k ∙ ap (option_map intake_of) at) same
    ∙ sym (ports_of_intakes old)

-- a piece came, or a capture ended: what is true of each session stays
pub kept_fed : {Z : Type 0} → ByStampIsOrdered → EarlierEventsStayAdmitted → ReachesInOrder → AllStartBeforeTheLastInstant → (old new : Machine Z) (begun failed : Bool) (place : ℕ) (piece : List ℕ)
    → failed ≡ false → IsOfSameTable old.switch new.switch
    → IsFed old.lanes.items new.lanes.items place piece → IsReady new true → IsKeptMachine old begun failed → IsKeptMachine new true failed
kept_fed ordered stay reaches ends old new begun failed place piece not_failed same is ready kept =
    subst (λ b. IsKeptMachine new true b) (sym not_failed)
    (kept_ready ordered stay reaches ends old new begun failed same (ports_after old.lanes.items new.lanes.items place is.lane (fed piece (intake_of is.lane)) is.at refl is.intakes) kept ready)

pub kept_ended : {Z : Type 0} → ByStampIsOrdered → EarlierEventsStayAdmitted → ReachesInOrder → AllStartBeforeTheLastInstant → (old new : Machine Z) (begun failed : Bool) (place : ℕ) → failed ≡ false
    → IsOfSameTable old.switch new.switch
    → IsEnded old.lanes.items new.lanes.items place → IsReady new true → IsKeptMachine old begun failed → IsKeptMachine new true failed
kept_ended ordered stay reaches ends old new begun failed place not_failed same is ready kept =
    subst (λ b. IsKeptMachine new true b) (sym not_failed)
    (kept_ready ordered stay reaches ends old new begun failed same (ports_after old.lanes.items new.lanes.items place is.lane (closed_intake (intake_of is.lane)) is.at refl is.intakes) kept ready)

-- the call failed
pub kept_half : {Z : Type 0} (old new : Machine Z) (begun failed : Bool) → failed ≡ false → IsOfSameTable old.switch new.switch → AreHalfDone old.lanes.items new.lanes.items
    → IsKeptMachine old begun failed
    → IsKeptMachine new begun true
kept_half old new begun failed not_failed same half kept = kept_failed old new begun same half (subst (λ b. IsKeptMachine old begun b) not_failed kept)

pub answers_fed : {Z : Type 0} (old new : Machine Z) (begun failed : Bool) (v : Seen) (port place : ℕ) (piece : List ℕ) → seen_of old begun failed ≡ v → failed ≡ false
    → AreOfTable old.switch.run.table old.lanes.items → IsOpenAt old.lanes.items port place
    → IsOfSameTable old.switch new.switch → IsFed old.lanes.items new.lanes.items place piece
    → (refusal v port ≡ None) × (seen_of new true failed ≡ after_feed v port piece) × IsSoundSoFar (fed_bytes v port ++ piece)
answers_fed old new begun failed v port place piece view not_failed of is_open same is =
    let so_far = seen_so_far old begun failed v view not_failed in
    subst (λ w. (refusal w port ≡ None) × (seen_of new true failed ≡ after_feed w port piece) × IsSoundSoFar (fed_bytes w port ++ piece)) so_far (
      may_go_on old begun port place of is_open,
      ap (λ b. seen_of new true b) not_failed ∙ seen_fed old new begun port place piece of is_open same is,
      subst (λ xs. IsSoundSoFar (xs ++ piece)) (bytes_are old begun false port place is.lane of is_open is.at).0 is.sound,
    )

pub answers_ended : {Z : Type 0} (old new : Machine Z) (begun failed : Bool) (v : Seen) (port place : ℕ) → seen_of old begun failed ≡ v → failed ≡ false
    → AreOfTable old.switch.run.table old.lanes.items → IsOpenAt old.lanes.items port place
    → IsOfSameTable old.switch new.switch → IsEnded old.lanes.items new.lanes.items place
    → (refusal v port ≡ None) × (seen_of new true failed ≡ after_close v port) × ((records : List Record) × IsCapture (fed_bytes v port) records)
answers_ended old new begun failed v port place view not_failed of is_open same is =
    let so_far = seen_so_far old begun failed v view not_failed in
    subst (λ w. (refusal w port ≡ None) × (seen_of new true failed ≡ after_close w port) × ((records : List Record) × IsCapture (fed_bytes w port) records)) so_far (
      may_go_on old begun port place of is_open,
      ap (λ b. seen_of new true b) not_failed ∙ seen_ended old new begun port place of is_open same is,
      (is.records, subst (λ xs. IsCapture xs is.records) (bytes_are old begun false port place is.lane of is_open is.at).0 is.capture),
    )

pub answers_not_fed : {Z : Type 0} (old new : Machine Z) (begun failed : Bool) (v : Seen) (port place : ℕ) (piece : List ℕ) (fault : RunFault) → seen_of old begun failed ≡ v → failed ≡ false
    → AreOfTable old.switch.run.table old.lanes.items
    → IsOpenAt old.lanes.items port place → IsOfSameTable old.switch new.switch → IsNotFed old.lanes.items new.lanes.items place piece fault
    → IsRefused v (seen_of new begun true) port fault (IsPieceFault (fed_bytes v port ++ piece) port fault)
answers_not_fed old new begun failed v port place piece fault view not_failed of is_open same is =
    subst (λ w. IsRefused w (seen_of new begun true) port fault (IsPieceFault (fed_bytes w port ++ piece) port fault)) (seen_so_far old begun failed v view not_failed)
    (refused_piece old new begun port place piece fault of is_open same is)

pub answers_not_ended : {Z : Type 0} (old new : Machine Z) (begun failed : Bool) (v : Seen) (port place : ℕ) (fault : RunFault) → seen_of old begun failed ≡ v → failed ≡ false
    → AreOfTable old.switch.run.table old.lanes.items
    → IsOpenAt old.lanes.items port place → IsOfSameTable old.switch new.switch → IsNotEnded old.lanes.items new.lanes.items place fault
    → IsRefused v (seen_of new begun true) port fault (IsFaultAt (fed_bytes v port) port fault)
answers_not_ended old new begun failed v port place fault view not_failed of is_open same is =
    subst (λ w. IsRefused w (seen_of new begun true) port fault (IsFaultAt (fed_bytes w port) port fault)) (seen_so_far old begun failed v view not_failed)
    (refused_end old new begun port place fault of is_open same is)

-- ---- a take

-- the first lane of a port
pub place_is : {Z : Type 0} (t : Content) (lanes : List (Lane Z)) (port place : ℕ) → AreOfTable t lanes → position (is_lane_of port) lanes ≡ Some place → IsPlaceOf t.ports lanes port place
place_is t lanes port place of at =
    let both = position_at (is_lane_of port) lanes place at in
    place_of_port t.ports lanes port place of.ports both.0 both.1

shown_place : {Z : Type 0} (m : Machine Z) (begun failed : Bool) (port place : ℕ) (l : Lane Z) (kept : IsKeptMachine m begun failed) (is : IsPlaceOf m.switch.run.table.ports m.lanes.items port place)
    → slice_get m.lanes.items place ≡ Some l
    → IsShownAt (gone_out m.switch.run.table begun kept.shown.streams is.row) l
shown_place m begun failed port place l kept is at = kept.shown.each place is.row l is.row_at at

pub take_fits : {Z : Type 0} (m : Machine Z) (begun failed : Bool) (port place : ℕ) (l : Lane Z) → IsKeptMachine m begun failed → position (is_lane_of port) m.lanes.items ≡ Some place
    → slice_get m.lanes.items place ≡ Some l → l.taken + l.ready < 2 ^ 128
take_fits m begun failed port place l kept is at = (shown_place m begun failed port place l kept (place_is m.switch.run.table m.lanes.items port place kept.of is) at).bound

pub answers_take : {Z : Type 0} (m next : Machine Z) (begun failed : Bool) (v : Seen) (port place : ℕ) (old new : Lane Z) (bytes : List ℕ) → seen_of m begun failed ≡ v → IsKeptMachine m begun failed
    → position (is_lane_of port) m.lanes.items ≡ Some place
    → slice_get m.lanes.items place ≡ Some old → IsTaken old new → bytes ≡ take old.ready old.out.items → next.switch ≡ m.switch → next.lanes.items ≡ set m.lanes.items place new
    → IfSome (port_row v.table port) (λ p. (text : List ℕ) × HasGoneOut v p text × (taken_of v port ≤ length text) × (bytes ≡ drop (taken_of v port) text)
    × (seen_of next begun failed ≡ after_take v port (length text)))
answers_take {Z} m next begun failed v port place old new bytes view kept is at taken gives switch lanes =
    subst (λ w. IfSome (port_row w.table port) (λ p. (text : List ℕ) × HasGoneOut w p text × (taken_of w port ≤ length text) × (bytes ≡ drop (taken_of w port) text)
    × (seen_of next begun failed ≡ after_take w port (length text)))) view
    (subst (λ o. IfSome o (λ p. (text : List ℕ) × HasGoneOut seen_now p text × (taken_of seen_now port ≤ length text) × (bytes ≡ drop (taken_of seen_now port) text)
    × (seen_of next begun failed ≡ after_take seen_now port (length text)))) (sym own.row_is) (
      out,
      record { streams = kept.shown.streams; are = kept.shown.are; text_is = refl },
      subst (λ n. n ≤ length out) (sym count) shown.taken,
      gives ∙ shown.prefix
          ∙ ap (λ n. drop n out) (sym count),
      after,
    )) where
      seen_now : Seen
      seen_now = seen_of m begun failed

      own : IsPlaceOf m.switch.run.table.ports m.lanes.items port place
      own = place_is m.switch.run.table m.lanes.items port place kept.of is

      out : List ℕ
      out = gone_out m.switch.run.table begun kept.shown.streams own.row

      shown : IsShownAt out old
      shown = shown_place m begun failed port place old kept own at

      same : own.lane ≡ old
      same = same_Some own.lane old (sym own.at ∙ at)

      count : taken_of seen_now port ≡ old.taken
      count = ap taken_in own.intake_is ∙ ap (λ (l : Lane Z). l.taken) same

      intakes : intakes_of next.lanes.items ≡ changed port (took (length out)) (intakes_of m.lanes.items)
      intakes =
          ap (λ ls. intakes_of ls) lanes
          ∙ map-set intake_of m.lanes.items place new
          ∙ ap (set (intakes_of m.lanes.items) place) (took_intake old new (length out) taken (taken.taken ∙ all_taken out old shown))
          ∙ ap (λ (l : Lane Z). set (intakes_of m.lanes.items) place (took (length out) (intake_of l))) (sym same)
          ∙ sym (own.changed_is (took (length out)))

      after : seen_of next begun failed ≡ after_take seen_now port (length out)
      after = ap (λ s. seen s.run.table s.accepted (intakes_of next.lanes.items) begun failed) switch ∙ ap (λ is. seen m.switch.run.table m.switch.accepted is begun failed) intakes

-- what was not taken
shows : {Z : Type 0} (m : Machine Z) (begun failed : Bool) (v : Seen) (port place : ℕ) (l : Lane Z) → seen_of m begun failed ≡ v → IsKeptMachine m begun failed
    → position (is_lane_of port) m.lanes.items ≡ Some place → slice_get m.lanes.items place ≡ Some l
    → IfSome (port_row v.table port) (λ p. (text : List ℕ) × HasGoneOut v p text × (taken_of v port ≤ length text) × (l.ready ≡ length text - taken_of v port))
shows {Z} m begun failed v port place l view kept is at =
    subst (λ w. IfSome (port_row w.table port) (λ p. (text : List ℕ) × HasGoneOut w p text × (taken_of w port ≤ length text) × (l.ready ≡ length text - taken_of w port))) view
    (subst (λ o. IfSome o (λ p. (text : List ℕ) × HasGoneOut seen_now p text × (taken_of seen_now port ≤ length text) × (l.ready ≡ length text - taken_of seen_now port))) (sym own.row_is) (
      out,
      record { streams = kept.shown.streams; are = kept.shown.are; text_is = refl },
      subst (λ n. n ≤ length out) (sym count) shown.taken,
      subst (λ n. l.ready ≡ length out - n) (sym count) (let all = all_taken out l shown in omega (arith, all)),
    )) where
      seen_now : Seen
      seen_now = seen_of m begun failed

      own : IsPlaceOf m.switch.run.table.ports m.lanes.items port place
      own = place_is m.switch.run.table m.lanes.items port place kept.of is

      out : List ℕ
      out = gone_out m.switch.run.table begun kept.shown.streams own.row

      shown : IsShownAt out l
      shown = shown_place m begun failed port place l kept own at

      count : taken_of seen_now port ≡ l.taken
      count = ap taken_in own.intake_is ∙ ap (λ (x : Lane Z). x.taken) (same_Some own.lane l (sym own.at ∙ at))

-- so many of its bytes are there
pub take_reaches : {Z : Type 0} (m : Machine Z) (begun failed : Bool) (port place : ℕ) (l : Lane Z) → IsKeptMachine m begun failed → position (is_lane_of port) m.lanes.items ≡ Some place
    → slice_get m.lanes.items place ≡ Some l → l.ready ≤ length l.out.items
take_reaches m begun failed port place l kept is at = (shown_place m begun failed port place l kept (place_is m.switch.run.table m.lanes.items port place kept.of is) at).ready

-- it went to a file, where there was memory
pub answers_take_into : {F Z : Type 0} (contents : F → Option (List ℕ)) (m next : Machine Z) (begun failed : Bool) (v : Seen) (port place : ℕ) (old new : Lane Z) (file later : F)
    (result : Result (Unit {0}) AllocError) → seen_of m begun failed ≡ v → IsKeptMachine m begun failed → position (is_lane_of port) m.lanes.items ≡ Some place
    → slice_get m.lanes.items place ≡ Some old
    → OnOk result (Appends (contents file) (contents later) (take old.ready old.out.items)) → OnOk result (IsTaken old new) → next.switch ≡ m.switch → next.lanes.items ≡ set m.lanes.items place new
    → IfSome (port_row v.table port) (λ p. (text : List ℕ) × HasGoneOut v p text × (taken_of v port ≤ length text)
    × OnOk result (Appends (contents file) (contents later) (drop (taken_of v port) text) × (seen_of next begun failed ≡ after_take v port (length text))))
answers_take_into {F} {Z} contents m next begun failed v port place old new file later (Ok done) view kept is at appends taken switch lanes =
    IfSome_then (port_row v.table port) (answers_take m next begun failed v port place old new (take old.ready old.out.items) view kept is at taken refl switch lanes)
    (λ p all. (all.0, all.1, all.2, (subst (Appends (contents file) (contents later)) all.3 appends, all.4)))
answers_take_into {F} {Z} contents m next begun failed v port place old new file later (Err e) view kept is at appends taken switch lanes =
    IfSome_then (port_row v.table port) (shows m begun failed v port place old view kept is at) (λ p all. (all.0, all.1, all.2, tt))

-- where there was none nothing has changed
pub take_into_fails : {Z : Type 0} (m next : Machine Z) (begun failed : Bool) (v : Seen) (place : ℕ) (old new : Lane Z) (result : Result (Unit {0}) AllocError) → seen_of m begun failed ≡ v
    → slice_get m.lanes.items place ≡ Some old → IfErr result (λ _. new ≡ old) → next.switch ≡ m.switch → next.lanes.items ≡ set m.lanes.items place new
    → IfErr result (λ _. seen_of next begun failed ≡ v)
take_into_fails {Z} m next begun failed v place old new (Ok done) view at same switch lanes = tt
take_into_fails {Z} m next begun failed v place old new (Err e) view at same switch lanes =
    ap (λ s. seen s.run.table s.accepted (intakes_of next.lanes.items) begun failed) switch
    ∙ ap (λ (ls : List (Lane Z)). seen m.switch.run.table m.switch.accepted (intakes_of ls) begun failed) (set_back m.lanes.items next.lanes.items place old new at same lanes)
    ∙ view

-- the port is there
pub take_is_known : {Z : Type 0} (m : Machine Z) (begun failed : Bool) (v : Seen) (port place : ℕ) (Unknown : Type 0) → seen_of m begun failed ≡ v → AreOfTable m.switch.run.table m.lanes.items
    → position (is_lane_of port) m.lanes.items ≡ Some place
    → IfNone (port_row v.table port) Unknown
take_is_known m begun failed v port place Unknown view of is =
    subst (λ w. IfNone (port_row w.table port) Unknown) view (subst (λ o. IfNone o Unknown) (sym (place_is m.switch.run.table m.lanes.items port place of is).row_is) tt)

-- it is not
pub take_is_unknown : {Z : Type 0} (m : Machine Z) (begun failed : Bool) (v : Seen) (port : ℕ) (Known : PortRow → Type 0) → seen_of m begun failed ≡ v → AreOfTable m.switch.run.table m.lanes.items
    → position (is_lane_of port) m.lanes.items ≡ None
    → IfSome (port_row v.table port) Known
take_is_unknown m begun failed v port Known view of is =
    subst (λ w. IfSome (port_row w.table port) Known) view
    (subst (λ o. IfSome o Known) (sym (no_such_row m.switch.run.table.ports m.lanes.items port of.ports (position_none (is_lane_of port) m.lanes.items is))) tt)

-- the place that was found among the lanes that were looked at is that in the machine
pub port_at : {Z : Type 0} (lanes of_machine : List (Lane Z)) (port place : ℕ) → lanes ≡ of_machine → position (is_lane_of port) lanes ≡ Some place → position (is_lane_of port) of_machine ≡ Some place
port_at lanes of_machine port place same at = subst (λ ls. position (is_lane_of port) ls ≡ Some place) same at

pub no_port_at : {Z : Type 0} (lanes of_machine : List (Lane Z)) (port : ℕ) → lanes ≡ of_machine → position (is_lane_of port) lanes ≡ None → position (is_lane_of port) of_machine ≡ None
no_port_at lanes of_machine port same at = subst (λ ls. position (is_lane_of port) ls ≡ None) same at

pub lane_at : {Z : Type 0} (lanes : List (Lane Z)) (port place : ℕ) (l : Lane Z) → position (is_lane_of port) lanes ≡ Some place → l ≡ slice_index_or lanes place l → slice_get lanes place ≡ Some l
lane_at lanes port place l at is = slice_get-get_or lanes place l (position_at (is_lane_of port) lanes place at).1 ∙ ap Some (sym is)

-- ---- the end

pub answers_finished : {Z : Type 0} → ByStampIsOrdered → EarlierEventsStayAdmitted → ReachesInOrder → AllStartBeforeTheLastInstant → TakenAreTheCapture → EndCountsTheRun → AcceptedRunsIsolate
    → (old new : Machine Z) (begun failed : Bool) (v : Seen) (results : Results)
    → seen_of old begun failed ≡ v → failed ≡ false → IsKeptMachine old begun failed → IsOfSameTable old.switch new.switch → AreHalfDone old.lanes.items new.lanes.items
    → AreEndedLanes old.lanes.items new.lanes.items
    → IsRunning new.switch.run.table new.lanes.items new.switch new.counts → results.captures ≡ map (λ (l : Lane Z). (l.port, l.out.items)) new.lanes.items → results.counts
    ≡ ended_tally (after_finish new.switch.run) new.counts → IsFinished v results
answers_finished ordered stay reaches ends takes law isolate old new begun failed v results view not_failed kept same half closed running captures counts =
    subst (λ w. IsFinished w results) (seen_so_far old begun failed v view not_failed)
    (finished ordered stay reaches ends takes law isolate old new begun results (subst (λ b. IsKeptMachine old begun b) not_failed kept) same half closed running captures counts)

pub answers_not_finished : {Z : Type 0} (old new : Machine Z) (begun failed : Bool) (v : Seen) (fault : RunFault) → seen_of old begun failed ≡ v → failed ≡ false → IsOfSameTable old.switch new.switch
    → AreHalfDone old.lanes.items new.lanes.items
    → IsReadFault (texts_at old.lanes.items) fault → IsNotFinished v (fault, seen_of new begun true)
answers_not_finished old new begun failed v fault view not_failed same half why =
    subst (λ w. IsNotFinished w (fault, seen_of new begun true)) (seen_so_far old begun failed v view not_failed)
    (inr (refl, why, seen_failed old new begun same half))
