-- What a session keeps between its calls, while none has failed.
use Rattle.std.specs.Prelude.{ℕ, ◌<◌, ◌≤◌, ◌≡◌, ◌^◌, Bool, if◌then◌else◌, List, [], ◌∷◌, ◌++◌, length, map, drop, slice_get, slice_index, Option, Some, None}
use Rattle.std.specs.List.{AllByRecursion}
use Rattle.afdx_units.specs.Time.{last_instant}
use Rattle.afdx_pcap.specs.Text.{capture_text}
use Rattle.afdx_table.specs.declared.rows.PortRow.{PortRow}
use Rattle.afdx_table.specs.Content.{Content}
use Rattle.afdx_table.specs.WellFormed.{IsWellFormed}
use Rattle.afdx_core.specs.State.{State}
use Rattle.afdx_core.specs.Merge.{Arrival, merged}
use Rattle.afdx_count.specs.Tally.{Tally}
use Rattle.afdx_count.specs.Run.{counts_so_far}
use Rattle.afdx_session.specs.declared.lane.Lane.{Lane}
use Rattle.afdx_session.specs.Output.{rows_of, written}
use Rattle.afdx_session.specs.Streams.{Stream, frontier, sent_up_to}
use Rattle.afdx_session.specs.Inner.Settled.{IsSettling, IsGiven}
use Rattle.afdx_session.specs.Inner.Lanes.{HasRead, waiting_of}

-- a lane agrees with the records that were read of its capture
pub record IsLaneOf {Z : Type 0} (l : Lane Z) (s : Stream) : Type 0 where
  pub port : s.port ≡ l.port
  pub ended : s.closed ≡ l.ended
  pub read : HasRead l s.records

-- the lanes agree with the records that were read of their captures, port by port
abbrev pub AreLanesOf : {Z : Type 0} → List (Lane Z) → List Stream → Type 0
AreLanesOf [] [] = Unit {0}
AreLanesOf [] (s ∷ streams) = ⊥
AreLanesOf (l ∷ lanes) [] = ⊥
AreLanesOf (l ∷ lanes) (s ∷ streams) = IsLaneOf l s × AreLanesOf lanes streams

-- there is one lane for each port of a table, by rising number
pub record AreOfTable {Z : Type 0} (t : Content) (lanes : List (Lane Z)) : Type 0 where
  pub formed : IsWellFormed t
  pub ports : map (λ (l : Lane Z). l.port) lanes ≡ map (λ (p : PortRow). p.id) t.ports

-- the instant that a switch comes to: the frontier, or the last instant if all captures have ended
abbrev pub come_to : Option ℕ → ℕ
come_to None = last_instant
come_to (Some h) = h

-- what a port sends of these arrivals up to an instant, as a capture
abbrev pub text_up_to : Content → List Arrival → ℕ → PortRow → List ℕ
text_up_to t given h p = capture_text (map (written given) (sent_up_to t given (Some h) p))

-- the port at a place handed out what it sends up to an instant, and this is what is left of that text without its first n bytes
pub record IsOutAt (t : Content) (given : List Arrival) (h : ℕ) (s : State) (p : PortRow) (place n : ℕ) (out : List ℕ) : Type 0 where
  pub count : slice_index s.run.handed place ≡ length (sent_up_to t given (Some h) p)
  pub taken : n ≤ length (text_up_to t given h p)
  pub left : out ≡ drop n (text_up_to t given h p)

-- the port at a place handed out what it sends up to an instant, and its lane has of that text what was not taken
abbrev pub IsOut : {Z : Type 0} → Content → List Arrival → ℕ → State → PortRow → ℕ → Lane Z → Type 0
IsOut t given h s p place l = IsOutAt t given h s p place l.taken l.out.items

-- the ports at these places handed out what they send up to an instant
abbrev pub AreOut : {Z : Type 0} → Content → List Arrival → ℕ → State → List (Lane Z) → (ℕ → Type 0) → Type 0
AreOut {Z} t given h s lanes In = (place : ℕ) (p : PortRow) (l : Lane Z) → In place → slice_get t.ports place ≡ Some p → slice_get lanes place ≡ Some l → IsOut t given h s p place l

-- all places
abbrev pub Every : ℕ → Type 0
Every place = Unit {0}

-- how lanes, switch and counters agree with what came: these arrivals were given to the switch, and all that they lead to up to an
-- instant has gone out
pub record IsGoing {Z : Type 0} (t : Content) (lanes : List (Lane Z)) (s : State) (counts : Tally) : Type 0 where
  pub streams : List Stream
  pub given : List Arrival
  pub since : ℕ
  pub lanes_are : AreLanesOf lanes streams
  pub settling : IsSettling streams given (map waiting_of lanes)
  pub is_given : IsGiven t given s
  pub come : since ≤ s.run.latest
  -- what waits comes at the instant of the switch or later, and the switch is not past the frontier
  pub later : AllByRecursion (λ a. s.run.latest ≤ a.frame.stamp) (merged (map waiting_of lanes))
  pub until : s.run.latest ≤ come_to (frontier streams)
  pub counts_are : counts ≡ counts_so_far t (rows_of t given)
  pub few : length given ≤ 2 ^ 64
  pub outs : AreOut t given since s lanes Every

-- the switch has come to the frontier
pub record HasCome {Z : Type 0} (t : Content) (lanes : List (Lane Z)) (s : State) (counts : Tally) : Type 0 where
  pub going : IsGoing t lanes s counts
  pub at : s.run.latest ≡ come_to (frontier going.streams)

-- all has gone out up to the frontier
pub record IsRunning {Z : Type 0} (t : Content) (lanes : List (Lane Z)) (s : State) (counts : Tally) : Type 0 where
  pub going : IsGoing t lanes s counts
  -- a table without ports takes no arrival
  pub out : 0 < length lanes → going.since ≡ come_to (frontier going.streams)

-- a lane in the course of a call: it is as it was, but for what waits, for its last stamp and for its output, which may have grown
pub record IsTouched {Z : Type 0} (old new : Lane Z) : Type 0 where
  pub port : new.port ≡ old.port
  pub reader : new.reader ≡ old.reader
  pub ended : new.ended ≡ old.ended
  pub undone : new.undone ≡ old.undone
  pub closed : new.closed ≡ old.closed
  pub ready : new.ready ≡ old.ready
  pub taken : new.taken ≡ old.taken
  pub more : List ℕ
  pub out : new.out.items ≡ old.out.items ++ more

-- each lane is as it was in the course of a call, but for what waits, for its last stamp and for its output
abbrev pub AreTouched : {Z : Type 0} → List (Lane Z) → List (Lane Z) → Type 0
AreTouched [] [] = Unit {0}
AreTouched [] (n ∷ new) = ⊥
AreTouched (l ∷ old) [] = ⊥
AreTouched (l ∷ old) (n ∷ new) = IsTouched l n × AreTouched old new

-- a port was drained to its lane: the lane's output may have grown, and nothing else of it has changed
pub record IsGrown {Z : Type 0} (old new : Lane Z) : Type 0 where
  pub touched : IsTouched old new
  pub last : new.last ≡ old.last
  pub waiting : new.waiting ≡ old.waiting

-- each port was drained to its lane, and nothing else has changed
abbrev pub AreGrown : {Z : Type 0} → List (Lane Z) → List (Lane Z) → Type 0
AreGrown [] [] = Unit {0}
AreGrown [] (n ∷ new) = ⊥
AreGrown (l ∷ old) [] = ⊥
AreGrown (l ∷ old) (n ∷ new) = IsGrown l n × AreGrown old new

-- a lane as it was, but for what waits, for its last stamp, for its output and for how much of that was taken
pub record IsAlike {Z : Type 0} (old new : Lane Z) : Type 0 where
  pub port : new.port ≡ old.port
  pub reader : new.reader ≡ old.reader
  pub ended : new.ended ≡ old.ended
  pub undone : new.undone ≡ old.undone
  pub closed : new.closed ≡ old.closed
  pub ready : new.ready ≡ old.ready

-- each lane is as it was, but for what waits, for its last stamp, for its output and for how much of that was taken
abbrev pub AreAlike : {Z : Type 0} → List (Lane Z) → List (Lane Z) → Type 0
AreAlike [] [] = Unit {0}
AreAlike [] (n ∷ new) = ⊥
AreAlike (l ∷ old) [] = ⊥
AreAlike (l ∷ old) (n ∷ new) = IsAlike l n × AreAlike old new

-- a lane as it was, but for its output and for how much of that was taken
pub record IsDrawnOff {Z : Type 0} (old new : Lane Z) : Type 0 where
  pub alike : IsAlike old new
  pub last : new.last ≡ old.last
  pub waiting : new.waiting ≡ old.waiting

-- each lane is as it was, but for its output and for how much of that was taken
abbrev pub AreDrawnOff : {Z : Type 0} → List (Lane Z) → List (Lane Z) → Type 0
AreDrawnOff [] [] = Unit {0}
AreDrawnOff [] (n ∷ new) = ⊥
AreDrawnOff (l ∷ old) [] = ⊥
AreDrawnOff (l ∷ old) (n ∷ new) = IsDrawnOff l n × AreDrawnOff old new

-- a switch is over the same table, accepted or not as before, and keeps its lists or lets go of them as before
pub record IsOfSameTable (old new : State) : Type 0 where
  pub table : new.run.table ≡ old.run.table
  pub accepted : new.accepted ≡ old.accepted
  pub keeps : new.keeps ≡ old.keeps
  pub handed : length new.run.handed ≡ length old.run.handed

-- the call before has answered Ok: its bytes and its end count, and so does what has gone out, once a call has brought something
pub record IsMarked {Z : Type 0} (begun : Bool) (l : Lane Z) : Type 0 where
  pub undone : l.undone ≡ 0
  pub closed : l.closed ≡ l.reader.closed
  pub ready : l.ready ≡ (if begun then length l.out.items else 0)
