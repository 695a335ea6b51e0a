-- What the machine has of its ports.
use Rattle.std.specs.Prelude.{ℕ, ◌-◌, ◌≡◌, ◌<◌, ◌↔◌, nat_le, Bool, true, false, if◌then◌else◌, List, [], ◌∷◌, ◌++◌, length, map, take, set, slice_get, Option, Some, None}
use Rattle.std.specs.declared.collections.VecDeque.{VecDeque}
use Rattle.afdx_earliest.specs.Instants.{IsFirstUpTo, IsFirstIn}
use Rattle.afdx_pcap.specs.Record.{Record}
use Rattle.afdx_pcap.specs.Fault.{last_stamp}
use Rattle.afdx_pcap.specs.Reading.{HasTaken, NoNext, IsSound, IsWrong}
use Rattle.afdx_core.specs.Merge.{Capture}
use Rattle.afdx_session.specs.declared.lane.Lane.{Lane}
use Rattle.afdx_session.specs.declared.plan.RunFault.{RunFault}
use Rattle.afdx_session.specs.declared.plan.RunFault.TheVariants as run
use Rattle.afdx_session.specs.Session.{Intake}
use Rattle.afdx_session.specs.Inner.Settled.{first_place, IsWithin}

-- a lane as contracts see it: the bytes of a call that did not answer Ok do not count
abbrev pub intake_of : {Z : Type 0} → Lane Z → Intake
intake_of l = record { port = l.port; bytes = take (length l.reader.bytes - l.undone) l.reader.bytes; closed = l.closed; taken = l.taken }

-- the records that wait in a lane, as a capture
abbrev pub waiting_of : {Z : Type 0} → Lane Z → Capture
waiting_of l = record { port = l.port; records = l.waiting.items }

-- these records were read, and nothing was wrong so far
pub record HasRead {Z : Type 0} (l : Lane Z) (records : List Record) : Type 0 where
  pub no_fault : l.reader.fault ≡ None
  pub taken : HasTaken (record { bytes = l.reader.bytes; given = l.reader.given }) records
  pub last : l.last ≡ last_stamp 0 records

-- all records that are there were read, and nothing is wrong; the lane has ended exactly if the input has
pub record HasReadAll {Z : Type 0} (l : Lane Z) : Type 0 where
  pub none_left : NoNext l.reader.bytes l.reader.given
  pub sound : IsSound l.reader.bytes l.reader.given l.reader.closed
  pub ended : l.ended ≡ l.reader.closed

-- a lane was read on: it is as it was, but for what waits, for its last stamp, for how far the reader has come and for whether the lane
-- has ended
pub record IsReadOn {Z : Type 0} (old new : Lane Z) : Type 0 where
  pub port : new.port ≡ old.port
  pub bytes : new.reader.bytes ≡ old.reader.bytes
  pub ended : new.reader.closed ≡ old.reader.closed
  pub out : new.out ≡ old.out
  pub undone : new.undone ≡ old.undone
  pub closed : new.closed ≡ old.closed
  pub ready : new.ready ≡ old.ready
  pub taken : new.taken ≡ old.taken

-- a lane was read on, and these records are what it added
pub record Adds {Z : Type 0} (old new : Lane Z) (more : List Record) : Type 0 where
  pub queue : new.waiting.items ≡ old.waiting.items ++ more
  pub read : (records : List Record) → HasRead old records → HasRead new (records ++ more)

-- one more record of a lane was read
pub record DrawsOne {Z : Type 0} (old new : Lane Z) : Type 0 where
  pub frame : Record
  pub adds : Adds old new (frame ∷ [])
  pub last : new.last ≡ frame.stamp
  pub ended : new.ended ≡ old.ended
  pub no_fault : new.reader.fault ≡ None
  pub fewer : length new.reader.bytes - new.reader.given < length old.reader.bytes - old.reader.given

-- no record of a lane is left to be read
pub record DrawsNone {Z : Type 0} (old new : Lane Z) : Type 0 where
  pub adds : Adds old new []
  pub no_fault : new.reader.fault ≡ None
  pub read : HasReadAll new

-- a record was drawn from the lane's reader (true), or none is left
abbrev pub HasDrawn : {Z : Type 0} → Bool → Lane Z → Lane Z → Type 0
HasDrawn true old new = DrawsOne old new
HasDrawn false old new = DrawsNone old new

-- why a lane cannot be read on
abbrev pub IsLaneFault : {Z : Type 0} → Lane Z → RunFault → Type 0
IsLaneFault l run.Memory = Unit {0}
IsLaneFault l (run.Capture port why) = (port ≡ l.port) × IsWrong l.reader.bytes l.reader.closed why
IsLaneFault l run.WrongPorts = ⊥
IsLaneFault l run.Closed = ⊥
IsLaneFault l run.Failed = ⊥

-- the least place that a lane that has not ended has come to; none if all have ended
abbrev pub limit_at : {Z : Type 0} → List (Lane Z) → Option (ℕ × ℕ)
limit_at [] = None
limit_at (l ∷ lanes) = if l.ended then limit_at lanes else Some (first_place (l.last, l.port) (limit_at lanes))

-- of two places the first by stamp, and the former of equal ones
abbrev pub best_place : Option (ℕ × ℕ) → ℕ × ℕ → ℕ × ℕ
best_place None q = q
best_place (Some p) q = if nat_le p.0 q.0 then p else q

-- the stamp of the first of these records, if there is one
abbrev pub head_of : List Record → Option ℕ
head_of [] = None
head_of (r ∷ rs) = Some r.stamp

-- the stamps of the first records that wait, lane by lane
abbrev pub heads_of : {Z : Type 0} → List (Lane Z) → List (Option ℕ)
heads_of lanes = map (λ l. head_of l.waiting.items) lanes

-- of all that wait the first by stamp, and then by place
abbrev pub IsFirstOf : {Z : Type 0} → List (Lane Z) → Option (ℕ × ℕ) → Type 0
IsFirstOf lanes first = IsFirstIn (heads_of lanes) (length lanes) first

-- what of a lane stays as it was while bytes of its capture come or the capture ends
pub record IsStill {Z : Type 0} (old new : Lane Z) : Type 0 where
  pub port : new.port ≡ old.port
  pub out : new.out ≡ old.out
  pub closed : new.closed ≡ old.closed
  pub ready : new.ready ≡ old.ready
  pub taken : new.taken ≡ old.taken

-- a lane with other records that wait
abbrev pub with_waiting : {Z : Type 0} → VecDeque Record Z → Lane Z → Lane Z
with_waiting w l = record { port = l.port; reader = l.reader; last = l.last; ended = l.ended; waiting = w; out = l.out; undone = l.undone; closed = l.closed; ready = l.ready; taken = l.taken }

-- the first record that waits went from its lane: it is the first of all, and within the limit
pub record Goes {Z : Type 0} (limit : Option (ℕ × ℕ)) (old new : List (Lane Z)) (port : ℕ) (frame : Record) : Type 0 where
  pub place : ℕ
  pub lane : Lane Z
  pub rest : VecDeque Record Z
  pub at : slice_get old place ≡ Some lane
  pub port_is : port ≡ lane.port
  pub head : lane.waiting.items ≡ frame ∷ rest.items
  pub first : IsFirstUpTo (heads_of old) (length old) place frame.stamp
  pub within : IsWithin limit frame.stamp port
  pub lanes : new ≡ set old place (with_waiting rest lane)

-- the first record that waits went from the lane at this place
pub record GoesAt {Z : Type 0} (limit : Option (ℕ × ℕ)) (old new : List (Lane Z)) (place : ℕ) (frame : Record) : Type 0 where
  pub port : ℕ
  pub goes : Goes limit old new port frame
  pub here : goes.place ≡ place

-- nothing waits, or the first of all is not within the limit
pub record NoneGoes {Z : Type 0} (limit : Option (ℕ × ℕ)) (old : List (Lane Z)) (first : Option (ℕ × ℕ)) : Type 0 where
  pub is : IsFirstOf old first
  pub past : (place stamp : ℕ) (lane : Lane Z) → first ≡ Some (place, stamp) → slice_get old place ≡ Some lane → IsWithin limit stamp lane.port → ⊥

-- a limit: the first of what waits is within it exactly if it is within the least place that a lane that has not ended has come to
abbrev pub IsLimit : {Z : Type 0} → Option (ℕ × ℕ) → List (Lane Z) → Type 0
IsLimit {Z} limit lanes = (place stamp : ℕ) (lane : Lane Z) → IsFirstUpTo (heads_of lanes) (length lanes) place stamp → slice_get lanes place ≡ Some lane
    → IsWithin limit stamp lane.port ↔ IsWithin (limit_at lanes) stamp lane.port
