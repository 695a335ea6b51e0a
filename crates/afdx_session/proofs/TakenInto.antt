-- What a call of a session has put into the files was taken.
use Rattle.std.proofs.Common.{◌≡◌, ◌≢◌, ◌⊎◌, ℕ, zero, suc, ◌+◌, Bool, true, false, cond, List, [], ◌∷◌, ◌++◌, map, length, drop, set, slice_get, Option, Some, option_map, refl, ap, sym}
use Rattle.std.proofs.Common.{◌∙◌, arith, subst}
use Rattle.std.proofs.Common.{append_assoc, inl, inr}
use Rattle.std.specs.Io.KnownBytes.{Appends}
use Rattle.std.proofs.KnownBytes.{Appends-trans}
use Rattle.std.proofs.lemmas.List.{length-append}
use Rattle.std.proofs.lemmas.Option.{same_Some, slice_get_within, slice_get-map}
use Rattle.afdx_table.specs.declared.rows.PortRow.{PortRow}
use Rattle.afdx_table.specs.Content.{Content, port_row}
use Rattle.afdx_port.specs.Inner.Admission.{EarlierEventsStayAdmitted}
use Rattle.afdx_port.specs.Inner.Order.{ReachesInOrder}
use Rattle.afdx_core.specs.Inner.Merge.{ByStampIsOrdered}
use Rattle.afdx_session.specs.declared.lane.Lane.{Lane}
use Rattle.afdx_session.specs.declared.machine.Machine.{Machine}
use Rattle.afdx_session.specs.declared.plan.RunFault.{RunFault}
use Rattle.afdx_session.specs.declared.plan.RunFault.TheVariants as run
use Rattle.afdx_session.specs.Streams.{Stream, AreWhole, text_so_far, AllStartBeforeTheLastInstant}
use Rattle.afdx_session.specs.Session.{Intake, Seen, AreStreams, HasGoneOut, taken_in, taken_of, fed_bytes, fed, closed_intake, after_feed, after_close}
use Rattle.afdx_session.specs.Lanes.{IsPieceFault}
use Rattle.afdx_session.specs.Reading.{IsFaultAt}
use Rattle.afdx_session.specs.Into.{HasTaken, HaveTaken}
use Rattle.afdx_session.specs.Inner.Lanes.{intake_of}
use Rattle.afdx_session.specs.Inner.Kept.{AreOfTable}
use Rattle.afdx_session.specs.Inner.View.{intakes_of, seen_of, IsKeptMachine, IsReady, IsOpenAt, IsNotFed, IsNotEnded}
use Rattle.afdx_session.specs.Inner.Pieces.{WasTaken, TakenStays, TakesJoin}
use Rattle.afdx_session.specs.Inner.Sources.{IsOfTable, HaveSameBytes, TakesParts}
use Rattle.afdx_session.specs.Inner.Stop.{IsStoppedBy}
use Rattle.afdx_session.specs.Inner.Parts.{GoesOnInto, IsFedInto, IsEndedInto, StopsAt}
use Rattle.afdx_session.proofs.FirstHeads.{lanes_long}
use Rattle.afdx_session.proofs.FromReaders.{IsIntakeAt, place_in, position_in, at_place, on_same, of_feed, of_close}
use Rattle.afdx_session.proofs.Gone.{text_is}
use Rattle.afdx_session.proofs.Into.{row_found}
use Rattle.afdx_session.proofs.Parts.{at_set}
use Rattle.afdx_session.proofs.Places.{IsPlaceOf}
use Rattle.afdx_session.proofs.LeftLanes.{stopped_by}
use Rattle.afdx_session.proofs.Sessions.{bytes_are, open_is, seen_so_far}
use Rattle.afdx_session.proofs.Shown.{lanes_are_streams, kept_ready}
use Rattle.afdx_session.proofs.Writing.{mapped_from}

-- ---- what is seen

ports_seen : {Z : Type 0} (lanes : List (Lane Z)) → map (λ (i : Intake). i.port) (intakes_of lanes) ≡ map (λ (l : Lane Z). l.port) lanes
ports_seen [] = refl
ports_seen (l ∷ lanes) = ap (λ ns. l.port ∷ ns) (ports_seen lanes)

of_seen : {Z : Type 0} (m : Machine Z) (begun : Bool) → AreOfTable m.switch.run.table m.lanes.items → IsOfTable m.switch.run.table (seen_of m begun false)
of_seen m begun of = record { table = refl; rises = of.formed.ports_rise; ports = ports_seen m.lanes.items ∙ of.ports; none_failed = refl }

-- the same bytes have the same whole records
same_streams : (is js : List Intake) (streams : List Stream) → HaveSameBytes is js → AreStreams js streams → AreStreams is streams
same_streams [] [] streams same are = are
same_streams [] (j ∷ js) streams same are = let long = same.0 in absurd (omega (arith, long))
same_streams (i ∷ is) [] streams same are = let long = same.0 in absurd (omega (arith, long))
same_streams (i ∷ is) (j ∷ js) [] same are = absurd are
same_streams (i ∷ is) (j ∷ js) (s ∷ streams) same are =
    let one = same.1 zero i j refl refl in (
      record { port = are.0.port ∙ one.port; records = subst (λ bytes. AreWhole bytes s.records) one.bytes are.0.records; closed = are.0.closed ∙ one.closed },
      same_streams is js streams (let long = same.0 in omega (arith, long), λ place a b at there. same.1 (suc place) a b at there) are.1,
    )

-- ---- one port

-- what was taken of a port before a call, and what the call put into its file
pub record IsTakenAt {F Z : Type 0} (contents : F → Option (List ℕ)) (new : Machine Z) (w : Seen) (p : PortRow) (place : ℕ) (l n : Lane Z) (text : List ℕ) (f e g : F) : Type 0 where
  pub has : HasTaken contents w p.id f e
  pub bytes : List ℕ
  pub count : taken_of w p.id ≡ l.taken
  pub more : n.taken ≡ l.taken + length bytes
  pub rest : bytes ++ n.out.items ≡ drop l.taken text
  pub appended : Appends (contents e) (contents g) bytes
  pub before : HasGoneOut w p text
  pub after : HasGoneOut (seen_of new true false) p text
  pub row_before : port_row w.table p.id ≡ Some p
  pub row_after : port_row new.switch.run.table p.id ≡ Some p
  pub intake : IsIntakeAt (intakes_of new.lanes.items) p.id place
  pub lane : slice_get new.lanes.items place ≡ Some n

taken_at : {F Z : Type 0} → TakenStays → TakesJoin → (contents : F → Option (List ℕ)) (new : Machine Z) (w : Seen) (p : PortRow) (place : ℕ) (l n : Lane Z) (text : List ℕ) (f e g : F)
    → IsTakenAt contents new w p place l n text f e g → HasTaken contents (seen_of new true false) p.id f g
taken_at {F} {Z} stays joins contents new w p place l n text f e g is = record {
  taken = taken ++ is.bytes;
  were = record {
    before = seen_of new true false;
    was = record {
      row = p;
      row_is = is.row_after;
      intake = is.intake.intake;
      intake_is = is.intake.found;
      count = let own = ap (λ (i : Intake). i.taken) lane_intake in let more = is.more in let both = length-append taken is.bytes in omega (arith, own, more, both, long);
      text = text;
      gone = is.after;
      rest = n.out.items;
      prefix = whole;
    };
    on = on_same (seen_of new true false);
    same = refl;
  };
  appended = Appends-trans (contents f) (contents e) (contents g) taken is.bytes is.has.appended is.appended;
} where
  taken : List ℕ
  taken = is.has.taken

  was : WasTaken w p.id taken
  was = stays is.has.were.before w p.id p taken text is.has.were.on is.has.were.same (ap (λ (c : Content). port_row c p.id) (sym is.has.were.on.table) ∙ is.row_before) is.before is.has.were.was

  long : length taken ≡ l.taken
  long = sym was.count ∙ sym (ap taken_in was.intake_is) ∙ is.count

  lane_intake : is.intake.intake ≡ intake_of n
  lane_intake = same_Some is.intake.intake (intake_of n) (sym is.intake.at ∙ slice_get-map intake_of new.lanes.items place ∙ ap (option_map (λ (x : Lane Z). intake_of x)) is.lane)

  whole : text ≡ (taken ++ is.bytes) ++ n.out.items
  whole =
      sym (joins w p.id p taken text is.row_before is.before was).0
      ∙ ap (λ k. taken ++ drop k text) is.count
      ∙ ap (λ xs. taken ++ xs) (sym is.rest)
      ∙ sym (append_assoc taken is.bytes n.out.items)

-- ---- all ports

pub takes_parts : {F Z : Type 0} → ByStampIsOrdered → EarlierEventsStayAdmitted → ReachesInOrder → AllStartBeforeTheLastInstant → TakenStays → TakesJoin → (contents : F → Option (List ℕ))
    (old new : Machine Z) (w : Seen) (files now : List F) → AreOfTable old.switch.run.table old.lanes.items → IsOfTable old.switch.run.table w → w.accepted ≡ old.switch.accepted → w.begun ≡ true
    → ((place : ℕ) (l : Lane Z) (i : Intake) → slice_get old.lanes.items place ≡ Some l → slice_get w.intakes place ≡ Some i → i.taken ≡ l.taken)
    → GoesOnInto contents old files new now w.intakes → TakesParts contents w files (seen_of new true false) now
takes_parts {F} {Z} ordered stay reaches ends stays joins contents old new w files now of of_w accepted begun untaken on = record {
  of = subst (λ (c : Content). IsOfTable c later) table (of_seen new true on.of);
  same = on.same;
  many = on.put.long;
  taken = λ start have. record { long = on.put.long ∙ have.long; each = λ place p f g is_p is_f is_g. each start have place p f g is_p is_f is_g };
  accepted = on.table.accepted ∙ sym accepted;
} where
  later : Seen
  later = seen_of new true false

  table : new.switch.run.table ≡ w.table
  table = on.table.table ∙ sym of_w.table

  own : IsOfTable w.table w
  own = subst (λ (c : Content). IsOfTable c w) (sym of_w.table) of_w

  streams : List Stream
  streams = on.ready.running.going.streams

  are : AreStreams later.intakes streams
  are = lanes_are_streams true new.lanes.items streams on.ready.marked on.ready.read on.ready.running.going.lanes_are

  each : (start : List F) → HaveTaken contents w start files → (place : ℕ) (p : PortRow) (f g : F) → slice_get later.table.ports place ≡ Some p → slice_get start place ≡ Some f
      → slice_get now place ≡ Some g → HasTaken contents later p.id f g
  each start have place p f g is_p is_f is_g =
      let row : slice_get w.table.ports place ≡ Some p = ap (λ (c : Content). slice_get c.ports place) (sym table) ∙ is_p in
      let in_files = let lt = slice_get_within start place f is_f in let long = have.long in at_place files place (omega (arith, lt, long)) in
      let in_ports = slice_get_within new.switch.run.table.ports place p is_p in
      let n = let long = lanes_long new.switch.run.table new.lanes.items on.of in at_place new.lanes.items place (omega (arith, in_ports, long)) in
      let l = let lt = slice_get_within w.table.ports place p row in let long = lanes_long old.switch.run.table old.lanes.items of in
      let same = ap (λ (c : Content). length c.ports) of_w.table in at_place old.lanes.items place (omega (arith, lt, long, same)) in
      let put = on.put.each place p l.0 n.0 in_files.0 g is_p l.1 n.1 in_files.1 is_g in
      let of_later = of_seen new true on.of in
      let ids = map (λ (q : PortRow). q.id) w.table.ports in
      let before = place_in w ids p.id place own refl (position_in w.table.ports place p own.rises row) in
      let after = place_in later (map (λ (q : PortRow). q.id) later.table.ports) p.id place of_later refl (position_in later.table.ports place p of_later.rises is_p) in
      let text = text_so_far new.switch.run.table streams p in
      let same_text = text_is ordered stay reaches ends new.switch.run.table new.lanes.items new.switch new.counts on.ready.running place p n.0 on.of is_p n.1 in
      taken_at stays joins contents new w p place l.0 n.0 text f in_files.0 g (record {
        has = have.each place p f in_files.0 row is_f in_files.1;
        bytes = put.bytes;
        count = ap taken_in before.found ∙ untaken place l.0 before.intake l.1 before.at;
        more = put.taken;
        rest = put.first ∙ ap (drop l.0.taken) (sym same_text);
        appended = put.appended;
        before = record {
          streams = streams;
          are = same_streams w.intakes later.intakes streams on.same are;
          text_is = ap (λ (c : Content). text_so_far c streams p) table ∙ ap (λ b. cond b (text_so_far w.table streams p) []) (sym begun);
        };
        after = record { streams = streams; are = are; text_is = refl };
        row_before = row_found w.table.ports place p own.rises row;
        row_after = row_found new.switch.run.table.ports place p of_later.rises is_p;
        intake = after;
        lane = n.1;
      })

-- of intakes of which one was changed, but not in what was taken of it
set_untaken : {Z : Type 0} (lanes : List (Lane Z)) (k place : ℕ) (lane l : Lane Z) (new i : Intake) → slice_get lanes k ≡ Some lane → new.taken ≡ lane.taken → slice_get lanes place ≡ Some l
    → slice_get (set (intakes_of lanes) k new) place ≡ Some i → i.taken ≡ l.taken
set_untaken {Z} lanes k place lane l new i at same is_l is_i = by (at_set (intakes_of lanes) k place new i is_i) where
  by : ((place ≡ k) × (i ≡ new)) ⊎ ((place ≢ k) × (slice_get (intakes_of lanes) place ≡ Some i)) → i.taken ≡ l.taken
  by (inl here) =
      ap (λ (x : Intake). x.taken) here.1 ∙ same ∙ ap (λ (x : Lane Z). x.taken) (same_Some lane l (sym at ∙ ap (slice_get lanes) (sym here.0) ∙ is_l))
  by (inr other) =
      let from = mapped_from intake_of lanes place i other.1 in
      ap (λ (x : Intake). x.taken) (sym from.2) ∙ ap (λ (x : Lane Z). x.taken) (same_Some from.0 l (sym from.1 ∙ is_l))

same_untaken : {Z : Type 0} (lanes : List (Lane Z)) (k : ℕ) (lane : Lane Z) (new : Intake) (intakes : List Intake) → slice_get lanes k ≡ Some lane → new.taken ≡ lane.taken
    → intakes ≡ set (intakes_of lanes) k new → (place : ℕ) (l : Lane Z) (i : Intake) → slice_get lanes place ≡ Some l → slice_get intakes place ≡ Some i → i.taken ≡ l.taken
same_untaken lanes k lane new intakes at same is place l i is_l is_i = set_untaken lanes k place lane l new i at same is_l (ap (λ (xs : List Intake). slice_get xs place) (sym is) ∙ is_i)

-- a piece came
pub fed_parts : {F Z : Type 0} → ByStampIsOrdered → EarlierEventsStayAdmitted → ReachesInOrder → AllStartBeforeTheLastInstant → TakenStays → TakesJoin → (contents : F → Option (List ℕ))
    (old new : Machine Z) (begun failed : Bool) (v : Seen) (port place : ℕ) (piece : List ℕ) (files now : List F) → seen_of old begun failed ≡ v → failed ≡ false
    → AreOfTable old.switch.run.table old.lanes.items → IsOpenAt old.lanes.items port place → IsFedInto contents old files new now place piece
    → TakesParts contents (after_feed v port piece) files (seen_of new true false) now
fed_parts {F} {Z} ordered stay reaches ends stays joins contents old new begun failed v port place piece files now view not_failed of is_open is =
    subst (λ w. TakesParts contents (after_feed w port piece) files (seen_of new true false) now) (seen_so_far old begun failed v view not_failed)
    (takes_parts ordered stay reaches ends stays joins contents old new w files now of (of_feed old.switch.run.table (seen_of old begun false) port piece (of_seen old begun of)) refl refl
    (same_untaken old.lanes.items place is.lane (fed piece (intake_of is.lane)) w.intakes is.at refl changes)
    (subst (GoesOnInto contents old files new now) (sym changes) is.on)) where
      w : Seen
      w = after_feed (seen_of old begun false) port piece

      own : IsPlaceOf old.switch.run.table.ports old.lanes.items port place
      own = open_is old.switch.run.table old.lanes.items port place of is_open

      changes : w.intakes ≡ set (intakes_of old.lanes.items) place (fed piece (intake_of is.lane))
      changes = own.changed_is (fed piece) ∙ ap (λ (x : Lane Z). set (intakes_of old.lanes.items) place (fed piece (intake_of x))) (same_Some own.lane is.lane (sym own.at ∙ is.at))

-- a capture ended
pub ended_parts : {F Z : Type 0} → ByStampIsOrdered → EarlierEventsStayAdmitted → ReachesInOrder → AllStartBeforeTheLastInstant → TakenStays → TakesJoin → (contents : F → Option (List ℕ))
    (old new : Machine Z) (begun failed : Bool) (v : Seen) (port place : ℕ) (files now : List F) → seen_of old begun failed ≡ v → failed ≡ false
    → AreOfTable old.switch.run.table old.lanes.items → IsOpenAt old.lanes.items port place → IsEndedInto contents old files new now place
    → TakesParts contents (after_close v port) files (seen_of new true false) now
ended_parts {F} {Z} ordered stay reaches ends stays joins contents old new begun failed v port place files now view not_failed of is_open is =
    subst (λ w. TakesParts contents (after_close w port) files (seen_of new true false) now) (seen_so_far old begun failed v view not_failed)
    (takes_parts ordered stay reaches ends stays joins contents old new w files now of (of_close old.switch.run.table (seen_of old begun false) port (of_seen old begun of)) refl refl
    (same_untaken old.lanes.items place is.lane (closed_intake (intake_of is.lane)) w.intakes is.at refl changes)
    (subst (GoesOnInto contents old files new now) (sym changes) is.on)) where
      w : Seen
      w = after_close (seen_of old begun false) port

      own : IsPlaceOf old.switch.run.table.ports old.lanes.items port place
      own = open_is old.switch.run.table old.lanes.items port place of is_open

      changes : w.intakes ≡ set (intakes_of old.lanes.items) place (closed_intake (intake_of is.lane))
      changes = own.changed_is closed_intake ∙ ap (λ (x : Lane Z). set (intakes_of old.lanes.items) place (closed_intake (intake_of x))) (same_Some own.lane is.lane (sym own.at ∙ is.at))

-- what is true of each session stays
pub kept_into : {F Z : Type 0} → ByStampIsOrdered → EarlierEventsStayAdmitted → ReachesInOrder → AllStartBeforeTheLastInstant → (contents : F → Option (List ℕ)) (old new : Machine Z)
    (begun failed : Bool) (files now : List F) (intakes : List Intake) → GoesOnInto contents old files new now intakes → IsKeptMachine old begun failed → IsKeptMachine new true false
kept_into ordered stay reaches ends contents old new begun failed files now intakes on kept =
    kept_ready ordered stay reaches ends old new begun failed on.table
    (on.of.ports ∙ ap (λ (c : Content). map (λ (p : PortRow). p.id) c.ports) on.table.table ∙ sym kept.of.ports) kept on.ready

-- ---- a call that failed

-- at a piece
pub fed_stops : {Z : Type 0} (old : Machine Z) (new : List (Lane Z)) (begun failed : Bool) (v : Seen) (port place : ℕ) (piece : List ℕ) (fault : RunFault) → seen_of old begun failed ≡ v
    → failed ≡ false → AreOfTable old.switch.run.table old.lanes.items → IsReady old begun → IsOpenAt old.lanes.items port place
    → StopsAt old.lanes.items new place fault (IsNotFed old.lanes.items new place piece fault) → IsStoppedBy v port fault new (IsPieceFault (fed_bytes v port ++ piece) port fault)
fed_stops old new begun failed v port place piece run.Memory view not_failed of ready is_open is = tt
fed_stops {Z} old new begun failed v port place piece (run.Capture which why) view not_failed of ready is_open is =
    let own = bytes_are old begun failed port place is.0.lane of is_open is.0.at in
    let fault = run.Capture which why in
    let why_here : IsPieceFault (fed_bytes v port ++ piece) port fault =
    subst (λ w. IsPieceFault (fed_bytes w port ++ piece) port fault) view
    (subst (λ n. IsPieceFault (fed_bytes (seen_of old begun failed) port ++ piece) n fault) own.1 (subst (λ xs. IsPieceFault (xs ++ piece) is.0.lane.port fault) own.0 is.0.why)) in
    stopped_by old new begun failed v port place is.0.lane fault (IsPieceFault (fed_bytes v port ++ piece) port fault) view not_failed ready is.0.at own.1 is.0.half is.1 tt why_here
fed_stops old new begun failed v port place piece run.WrongPorts view not_failed of ready is_open is = absurd is
fed_stops old new begun failed v port place piece run.Closed view not_failed of ready is_open is = absurd is
fed_stops old new begun failed v port place piece run.Failed view not_failed of ready is_open is = absurd is

-- at the end of a capture
pub ended_stops : {Z : Type 0} (old : Machine Z) (new : List (Lane Z)) (begun failed : Bool) (v : Seen) (port place : ℕ) (fault : RunFault) → seen_of old begun failed ≡ v
    → failed ≡ false → AreOfTable old.switch.run.table old.lanes.items → IsReady old begun → IsOpenAt old.lanes.items port place
    → StopsAt old.lanes.items new place fault (IsNotEnded old.lanes.items new place fault) → IsStoppedBy v port fault new (IsFaultAt (fed_bytes v port) port fault)
ended_stops old new begun failed v port place run.Memory view not_failed of ready is_open is = tt
ended_stops {Z} old new begun failed v port place (run.Capture which why) view not_failed of ready is_open is =
    let own = bytes_are old begun failed port place is.0.lane of is_open is.0.at in
    let fault = run.Capture which why in
    let why_here : IsFaultAt (fed_bytes v port) port fault =
    subst (λ w. IsFaultAt (fed_bytes w port) port fault) view
    (subst (λ n. IsFaultAt (fed_bytes (seen_of old begun failed) port) n fault) own.1 (subst (λ xs. IsFaultAt xs is.0.lane.port fault) own.0 is.0.why)) in
    stopped_by old new begun failed v port place is.0.lane fault (IsFaultAt (fed_bytes v port) port fault) view not_failed ready is.0.at own.1 is.0.half is.1 tt why_here
ended_stops old new begun failed v port place run.WrongPorts view not_failed of ready is_open is = absurd is
ended_stops old new begun failed v port place run.Closed view not_failed of ready is_open is = absurd is
ended_stops old new begun failed v port place run.Failed view not_failed of ready is_open is = absurd is
