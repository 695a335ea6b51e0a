-- What contracts see of a session's code, and what is true of it after each call.
use Rattle.std.specs.Prelude.{ℕ, ◌+◌, ◌<◌, ◌≤◌, ◌≡◌, ◌^◌, ◌==◌, Bool, true, false, if◌then◌else◌, List, [], ◌∷◌, ◌++◌, length, map, take, drop, set, position, slice_get, Option, Some, None}
use Rattle.std.specs.List.{AllByRecursion}
use Rattle.std.specs.declared.collections.VecDeque.{VecDeque}
use Rattle.afdx_pcap.specs.Record.{Record}
use Rattle.afdx_pcap.specs.Text.{header_text}
use Rattle.afdx_pcap.specs.Capture.{IsCapture}
use Rattle.afdx_table.specs.declared.rows.PortRow.{PortRow}
use Rattle.afdx_table.specs.Content.{Content}
use Rattle.afdx_load.specs.Accepted.{IsAccepted}
use Rattle.afdx_core.specs.Merge.{merged}
use Rattle.afdx_session.specs.declared.lane.Lane.{Lane}
use Rattle.afdx_session.specs.declared.machine.Machine.{Machine}
use Rattle.afdx_session.specs.declared.plan.RunFault.{RunFault}
use Rattle.afdx_session.specs.declared.plan.RunFault.TheVariants as run
use Rattle.afdx_session.specs.Reading.{IsFaultAt, IsSound}
use Rattle.afdx_session.specs.Texts.{Text, AreOfPorts}
use Rattle.afdx_session.specs.Finish.{text_in}
use Rattle.afdx_session.specs.Streams.{Stream, text_so_far}
use Rattle.afdx_session.specs.Session.{Intake, Seen, AreStreams, IsSoundSoFar, fed, closed_intake}
use Rattle.afdx_session.specs.Lanes.{IsPieceFault}
use Rattle.afdx_session.specs.Inner.Lanes.{intake_of, waiting_of, with_waiting, limit_at, HasReadAll, NoneGoes}
use Rattle.afdx_session.specs.Inner.Kept.{AreOfTable, IsGoing, IsRunning, IsMarked, IsOfSameTable}

-- the lanes of all ports as contracts see them
abbrev pub intakes_of : {Z : Type 0} → List (Lane Z) → List Intake
intakes_of lanes = map intake_of lanes

-- what contracts see of a session
abbrev pub seen_of : {Z : Type 0} → Machine Z → Bool → Bool → Seen
seen_of m begun failed = record { table = m.switch.run.table; accepted = m.switch.accepted; intakes = intakes_of m.lanes.items; begun = begun; failed = failed }

-- the bytes that have gone out for a port: nothing before the first call that answered Ok
abbrev pub gone_out : Content → Bool → List Stream → PortRow → List ℕ
gone_out t begun streams p = if begun then text_so_far t streams p else []

-- what counts of a lane's output is what has gone out and was not taken
pub record IsShownAt {Z : Type 0} (text : List ℕ) (l : Lane Z) : Type 0 where
  pub taken : l.taken ≤ length text
  pub prefix : take l.ready l.out.items ≡ drop l.taken text
  pub ready : l.ready ≤ length l.out.items
  pub bound : l.taken + l.ready < 2 ^ 128

-- what counts of each lane's output is what has gone out and was not taken, by the records that are there
pub record IsShown {Z : Type 0} (t : Content) (begun : Bool) (lanes : List (Lane Z)) : Type 0 where
  pub streams : List Stream
  pub are : AreStreams (intakes_of lanes) streams
  pub each : (place : ℕ) (p : PortRow) (l : Lane Z) → slice_get t.ports place ≡ Some p → slice_get lanes place ≡ Some l → IsShownAt (gone_out t begun streams p) l

-- no call has failed, so that the next one may go on
pub record IsReady {Z : Type 0} (m : Machine Z) (begun : Bool) : Type 0 where
  pub running : IsRunning m.switch.run.table m.lanes.items m.switch m.counts
  pub read : AllByRecursion HasReadAll m.lanes.items
  pub marked : AllByRecursion (IsMarked begun) m.lanes.items

-- what is true of each session
pub record IsKeptMachine {Z : Type 0} (m : Machine Z) (begun failed : Bool) : Type 0 where
  pub of : AreOfTable m.switch.run.table m.lanes.items
  pub handed : length m.switch.run.handed ≡ length m.switch.run.table.ports
  pub accepted : m.switch.accepted ≡ true → IsAccepted m.switch.run.table
  pub shown : IsShown m.switch.run.table begun m.lanes.items
  pub ready : failed ≡ false → IsReady m begun

-- ---- the lanes in the course of a call

-- what contracts see of a lane is as it was, though its output may have grown
pub record IsHalfDone {Z : Type 0} (old new : Lane Z) : Type 0 where
  pub intake : intake_of new ≡ intake_of old
  pub ready : new.ready ≡ old.ready
  pub more : List ℕ
  pub out : new.out.items ≡ old.out.items ++ more

-- what contracts see of each lane is as it was, though its output may have grown
abbrev pub AreHalfDone : {Z : Type 0} → List (Lane Z) → List (Lane Z) → Type 0
AreHalfDone [] [] = Unit {0}
AreHalfDone [] (n ∷ new) = ⊥
AreHalfDone (l ∷ old) [] = ⊥
AreHalfDone (l ∷ old) (n ∷ new) = IsHalfDone l n × AreHalfDone old new

-- the lane of a port, the first one, takes more
pub record IsOpenAt {Z : Type 0} (lanes : List (Lane Z)) (port place : ℕ) : Type 0 where
  pub lane : Lane Z
  pub at : slice_get lanes place ≡ Some lane
  pub first : position (λ (l : Lane Z). l.port == port) lanes ≡ Some place
  pub still_open : lane.closed ≡ false

-- a call has answered Ok: all that was read counts
pub record IsSettledLane {Z : Type 0} (old new : Lane Z) : Type 0 where
  pub port : new.port ≡ old.port
  pub reader : new.reader ≡ old.reader
  pub last : new.last ≡ old.last
  pub ended : new.ended ≡ old.ended
  pub waiting : new.waiting ≡ old.waiting
  pub out : new.out ≡ old.out
  pub taken : new.taken ≡ old.taken
  pub undone : new.undone ≡ 0
  pub closed : new.closed ≡ old.reader.closed
  pub ready : new.ready ≡ length old.out.items

-- a call has answered Ok: all that was read of each lane counts
abbrev pub AreSettledLanes : {Z : Type 0} → List (Lane Z) → List (Lane Z) → Type 0
AreSettledLanes [] [] = Unit {0}
AreSettledLanes [] (n ∷ new) = ⊥
AreSettledLanes (l ∷ old) [] = ⊥
AreSettledLanes (l ∷ old) (n ∷ new) = IsSettledLane l n × AreSettledLanes old new

-- what counts of a lane's output was taken
pub record IsTaken {Z : Type 0} (old new : Lane Z) : Type 0 where
  pub port : new.port ≡ old.port
  pub reader : new.reader ≡ old.reader
  pub last : new.last ≡ old.last
  pub ended : new.ended ≡ old.ended
  pub waiting : new.waiting ≡ old.waiting
  pub undone : new.undone ≡ old.undone
  pub closed : new.closed ≡ old.closed
  pub taken : new.taken ≡ old.taken + old.ready
  pub ready : new.ready ≡ 0
  pub left : new.out.items ≡ (if old.ready == 0 then old.out.items else [])

-- a piece of the capture came at a place
pub record IsFed {Z : Type 0} (old new : List (Lane Z)) (place : ℕ) (piece : List ℕ) : Type 0 where
  pub lane : Lane Z
  pub at : slice_get old place ≡ Some lane
  pub intakes : intakes_of new ≡ set (intakes_of old) place (fed piece (intake_of lane))
  pub sound : IsSoundSoFar ((intake_of lane).bytes ++ piece)

-- the capture at a place ended, and its bytes are those of a whole capture
pub record IsEnded {Z : Type 0} (old new : List (Lane Z)) (place : ℕ) : Type 0 where
  pub lane : Lane Z
  pub at : slice_get old place ≡ Some lane
  pub intakes : intakes_of new ≡ set (intakes_of old) place (closed_intake (intake_of lane))
  pub records : List Record
  pub capture : IsCapture (intake_of lane).bytes records

-- the piece did not come, for this fault
pub record IsNotFed {Z : Type 0} (old new : List (Lane Z)) (place : ℕ) (piece : List ℕ) (fault : RunFault) : Type 0 where
  pub lane : Lane Z
  pub at : slice_get old place ≡ Some lane
  pub half : AreHalfDone old new
  pub why : IsPieceFault ((intake_of lane).bytes ++ piece) lane.port fault

-- the capture did not end, for this fault
pub record IsNotEnded {Z : Type 0} (old new : List (Lane Z)) (place : ℕ) (fault : RunFault) : Type 0 where
  pub lane : Lane Z
  pub at : slice_get old place ≡ Some lane
  pub half : AreHalfDone old new
  pub why : IsFaultAt (intake_of lane).bytes lane.port fault

-- if the capture at a place has a fault, no other lane has changed
abbrev pub OthersStay : {Z : Type 0} → List (Lane Z) → List (Lane Z) → ℕ → RunFault → Type 0
OthersStay {Z} old new place (run.Capture port why) = (lane : Lane Z) × (new ≡ set old place lane)
OthersStay old new place _ = Unit {0}

-- the first record that waits went from the lane at a place
pub record HasGone {Z : Type 0} (old new : List (Lane Z)) (place : ℕ) : Type 0 where
  pub lane : Lane Z
  pub frame : Record
  pub rest : VecDeque Record Z
  pub at : slice_get old place ≡ Some lane
  pub head : lane.waiting.items ≡ frame ∷ rest.items
  pub lanes : new ≡ set old place (with_waiting rest lane)

-- the first record that waits went to the switch from a place; or none went, as nothing waits or the first is not settled. The switch did
-- not go past the frontier
pub record IsRound {Z : Type 0} (went : Option ℕ) (old new : Machine Z) : Type 0 where
  pub going : IsGoing new.switch.run.table new.lanes.items new.switch new.counts
  pub gone : (place : ℕ) → went ≡ Some place → HasGone old.lanes.items new.lanes.items place
  pub fewer : (place : ℕ) → went ≡ Some place → length (merged (map waiting_of new.lanes.items)) < length (merged (map waiting_of old.lanes.items))
  pub stays : went ≡ None → new.lanes.items ≡ old.lanes.items
  pub none : went ≡ None → (first : Option (ℕ × ℕ)) × NoneGoes (limit_at new.lanes.items) new.lanes.items first

-- ---- a session that was fed nothing

-- the lane of a port to which nothing came
pub record IsFreshLane {Z : Type 0} (port : ℕ) (l : Lane Z) : Type 0 where
  pub port_is : l.port ≡ port
  pub reader : l.reader ≡ record { bytes = []; given = 0; closed = false; fault = None; lent = false }
  pub last : l.last ≡ 0
  pub ended : l.ended ≡ false
  pub waiting : l.waiting.items ≡ []
  pub out : l.out.items ≡ header_text
  pub undone : l.undone ≡ 0
  pub closed : l.closed ≡ false
  pub ready : l.ready ≡ 0
  pub taken : l.taken ≡ 0

-- nothing came to the lane of any port
abbrev pub AreFreshLanes : {Z : Type 0} → List PortRow → List (Lane Z) → Type 0
AreFreshLanes [] [] = Unit {0}
AreFreshLanes [] (l ∷ lanes) = ⊥
AreFreshLanes (p ∷ ports) [] = ⊥
AreFreshLanes (p ∷ ports) (l ∷ lanes) = IsFreshLane p.id l × AreFreshLanes ports lanes

-- a machine of a plan over this table that took nothing, for captures of the table's ports, and keeps its lists or lets go of them
pub record IsBegun {Z : Type 0} (cleared keeps : Bool) (t : Content) (texts : List Text) (m : Machine Z) : Type 0 where
  pub ports : AreOfPorts m.switch.run.table texts
  pub table : m.switch.run.table ≡ t
  pub accepted : m.switch.accepted ≡ cleared
  pub lists : m.switch.keeps ≡ keeps
  pub fresh : AreFreshLanes m.switch.run.table.ports m.lanes.items
  pub kept : IsKeptMachine m false false

-- ---- captures that come whole

-- a lane has read a whole capture, and nothing was taken of it
pub record IsLent {Z : Type 0} (text : Text) (l : Lane Z) : Type 0 where
  pub port : l.port ≡ text.0
  pub bytes : l.reader.bytes ≡ text.1
  pub closed : l.reader.closed ≡ true
  pub sound : IsSound text
  pub taken : l.taken ≡ 0

-- each lane has read a whole capture, one for each text, and nothing was taken of it
abbrev pub AreLent : {Z : Type 0} → List Text → List (Lane Z) → Type 0
AreLent [] [] = Unit {0}
AreLent [] (l ∷ lanes) = ⊥
AreLent (text ∷ texts) [] = ⊥
AreLent (text ∷ texts) (l ∷ lanes) = IsLent text l × AreLent texts lanes

-- ---- all captures end

-- the capture of a lane ended, and all records of it were read
pub record IsEndedLane {Z : Type 0} (old new : Lane Z) : Type 0 where
  pub half : IsHalfDone old new
  pub bytes : new.reader.bytes ≡ old.reader.bytes
  pub closed : new.reader.closed ≡ true
  pub read : HasReadAll new

-- the captures of all lanes ended, and all records of them were read
abbrev pub AreEndedLanes : {Z : Type 0} → List (Lane Z) → List (Lane Z) → Type 0
AreEndedLanes [] [] = Unit {0}
AreEndedLanes [] (n ∷ new) = ⊥
AreEndedLanes (l ∷ old) [] = ⊥
AreEndedLanes (l ∷ old) (n ∷ new) = IsEndedLane l n × AreEndedLanes old new

-- the captures so far of lanes that no call has left half done
abbrev pub texts_at : {Z : Type 0} → List (Lane Z) → List Text
texts_at lanes = map text_in (intakes_of lanes)

-- a machine of a table, to which these captures were lent, and which then ended
pub record HasCarried {Z : Type 0} (cleared : Bool) (t : Content) (texts : List Text) (m : Machine Z) : Type 0 where
  pub lent : Machine Z
  pub table : lent.switch.run.table ≡ t
  pub accepted : lent.switch.accepted ≡ cleared
  pub ports : AreOfPorts t texts
  pub kept : IsKeptMachine lent true false
  pub captures : AreLent texts lent.lanes.items
  pub same : IsOfSameTable lent.switch m.switch
  pub half : AreHalfDone lent.lanes.items m.lanes.items
  pub ended : AreEndedLanes lent.lanes.items m.lanes.items
  pub running : IsRunning m.switch.run.table m.lanes.items m.switch m.counts
