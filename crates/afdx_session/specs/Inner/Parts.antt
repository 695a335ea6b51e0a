-- Captures that come in pieces, while the outputs go to files in parts.
use Rattle.std.specs.Prelude.{ℕ, ◌+◌, ◌<◌, ◌≡◌, ◌^◌, true, List, ◌++◌, length, map, drop, set, slice_get, Option, Some}
use Rattle.std.specs.List.{flat_map}
use Rattle.std.specs.Io.KnownBytes.{Appends}
use Rattle.afdx_pcap.specs.Text.{record_text}
use Rattle.afdx_table.specs.declared.rows.PortRow.{PortRow}
use Rattle.afdx_table.specs.Content.{Content}
use Rattle.afdx_core.specs.State.{State, place_of}
use Rattle.afdx_core.specs.Merge.{Arrival}
use Rattle.afdx_session.specs.declared.lane.Lane.{Lane}
use Rattle.afdx_session.specs.declared.machine.Machine.{Machine}
use Rattle.afdx_session.specs.declared.plan.RunFault.{RunFault}
use Rattle.afdx_session.specs.declared.plan.RunFault.TheVariants as run
use Rattle.afdx_session.specs.Output.{written}
use Rattle.afdx_session.specs.Session.{Intake, fed, closed_intake}
use Rattle.afdx_session.specs.Inner.Replay.{HasBytesOf, left_at, IsDrained}
use Rattle.afdx_session.specs.Inner.Settled.{Draws}
use Rattle.afdx_session.specs.Inner.Lanes.{intake_of}
use Rattle.afdx_session.specs.Inner.Kept.{AreOfTable, text_up_to, IsRunning, AreAlike, IsDrawnOff, IsOfSameTable}
use Rattle.afdx_session.specs.Inner.View.{intakes_of, IsReady}
use Rattle.afdx_session.specs.Inner.Sources.{HaveSameBytes}

-- ---- a port is drained to a file

-- what was taken of a lane's output, what it has of it and what its port sent and did not hand out can be counted: they are together
-- fewer than 2 ^ 128 bytes
pub record CanTake {Z : Type 0} (given : List Arrival) (s : State) (l : Lane Z) : Type 0 where
  pub long : length given ≡ length s.run.rows
  pub frames : HasBytesOf given s
  pub bound : (place : ℕ) → place_of s.run l.port ≡ Some place
      → l.taken + length l.out.items + length (flat_map record_text (map (written given) (left_at s.run (Some place)))) < 2 ^ 128

-- a port has handed out more, and the first bytes that its lane had then went to a file
pub record DrainsInto {F Z : Type 0} (contents : F → Option (List ℕ)) (start : State) (old : Lane Z) (f : F) (now : State) (new : Lane Z) (g : F) : Type 0 where
  pub drained : IsDrained old.port start now
  pub off : IsDrawnOff old new
  pub bytes : List ℕ
  pub taken : new.taken ≡ old.taken + length bytes
  pub draws : (given : List Arrival) (place : ℕ) → place_of start.run old.port ≡ Some place → length given ≡ length start.run.rows → HasBytesOf given start
      → Draws given old.port place start now old.out.items (bytes ++ new.out.items)
  pub appended : Appends (contents f) (contents g) bytes

-- ---- a machine goes on

-- of what a port sends up to an instant these bytes, the first that were not taken, went to a file, and its lane has the rest
pub record HasPut {F Z : Type 0} (contents : F → Option (List ℕ)) (t : Content) (given : List Arrival) (h : ℕ) (p : PortRow) (old new : Lane Z) (f g : F) : Type 0 where
  pub bytes : List ℕ
  pub taken : new.taken ≡ old.taken + length bytes
  pub first : bytes ++ new.out.items ≡ drop old.taken (text_up_to t given h p)
  pub appended : Appends (contents f) (contents g) bytes

-- each port put so the first bytes that were not taken into the file at its place
pub record HavePut {F Z : Type 0} (contents : F → Option (List ℕ)) (t : Content) (given : List Arrival) (h : ℕ) (old new : List (Lane Z)) (files now : List F) : Type 0 where
  pub long : length now ≡ length files
  pub each : (place : ℕ) (p : PortRow) (l n : Lane Z) (f g : F) → slice_get t.ports place ≡ Some p → slice_get old place ≡ Some l → slice_get new place ≡ Some n
      → slice_get files place ≡ Some f → slice_get now place ≡ Some g → HasPut contents t given h p l n f g

-- all has gone out up to the frontier, and the first of what was not taken went to the files
pub record RunsInto {F Z : Type 0} (contents : F → Option (List ℕ)) (old : Machine Z) (files : List F) (m : Machine Z) (now : List F) : Type 0 where
  pub same : IsOfSameTable old.switch m.switch
  pub alike : AreAlike old.lanes.items m.lanes.items
  pub running : IsRunning m.switch.run.table m.lanes.items m.switch m.counts
  pub put : HavePut contents m.switch.run.table running.going.given running.going.since old.lanes.items m.lanes.items files now

-- ---- a call of a session

-- a call has answered Ok: contracts see these intakes, but for what was taken, and the first of what has gone out is in the files
pub record GoesOnInto {F Z : Type 0} (contents : F → Option (List ℕ)) (old : Machine Z) (files : List F) (m : Machine Z) (now : List F) (intakes : List Intake) : Type 0 where
  pub table : IsOfSameTable old.switch m.switch
  pub of : AreOfTable m.switch.run.table m.lanes.items
  pub ready : IsReady m true
  pub same : HaveSameBytes intakes (intakes_of m.lanes.items)
  pub put : HavePut contents m.switch.run.table ready.running.going.given ready.running.going.since old.lanes.items m.lanes.items files now

-- a piece came at a place, and the first of what has gone out is in the files
pub record IsFedInto {F Z : Type 0} (contents : F → Option (List ℕ)) (old : Machine Z) (files : List F) (m : Machine Z) (now : List F) (place : ℕ) (piece : List ℕ) : Type 0 where
  pub lane : Lane Z
  pub at : slice_get old.lanes.items place ≡ Some lane
  pub on : GoesOnInto contents old files m now (set (intakes_of old.lanes.items) place (fed piece (intake_of lane)))

-- the capture at a place ended, and the first of what has gone out is in the files
pub record IsEndedInto {F Z : Type 0} (contents : F → Option (List ℕ)) (old : Machine Z) (files : List F) (m : Machine Z) (now : List F) (place : ℕ) : Type 0 where
  pub lane : Lane Z
  pub at : slice_get old.lanes.items place ≡ Some lane
  pub on : GoesOnInto contents old files m now (set (intakes_of old.lanes.items) place (closed_intake (intake_of lane)))

-- a call failed: for memory, or for the bytes at a place, and then no other lane has changed
abbrev pub StopsAt : {Z : Type 0} → List (Lane Z) → List (Lane Z) → ℕ → RunFault → Type 0 → Type 0
StopsAt old new place run.Memory Why = Unit {0}
StopsAt {Z} old new place (run.Capture port why) Why = Why × ((lane : Lane Z) × (new ≡ set old place lane))
StopsAt old new place run.WrongPorts Why = ⊥
StopsAt old new place run.Closed Why = ⊥
StopsAt old new place run.Failed Why = ⊥
