-- Captures that were lent whole: a record is read when the one before it has gone.
use Rattle.std.specs.Prelude.{ℕ, ◌+◌, ◌-◌, ◌<◌, ◌≡◌, Bool, true, false, if◌then◌else◌, List, [], ◌∷◌, length, map, slice_get, Some}
use Rattle.std.specs.List.{AllByRecursion}
use Rattle.afdx_pcap.specs.Record.{Record}
use Rattle.afdx_pcap.specs.Fault.{IsFault}
use Rattle.afdx_table.specs.Content.{Content}
use Rattle.afdx_session.specs.declared.lane.Lane.{Lane}
use Rattle.afdx_session.specs.declared.machine.Machine.{Machine}
use Rattle.afdx_session.specs.declared.plan.RunFault.{RunFault}
use Rattle.afdx_session.specs.declared.plan.RunFault.TheVariants as run
use Rattle.afdx_session.specs.Texts.{Text, AreOfPorts}
use Rattle.afdx_session.specs.Reading.{IsSound}
use Rattle.afdx_session.specs.Inner.Lanes.{HasReadAll}
use Rattle.afdx_session.specs.Inner.Kept.{AreOfTable, IsGoing, IsOfSameTable}

-- a lane over a whole capture: the last record that was read waits, or all were read and have gone
pub record IsOver {Z : Type 0} (l : Lane Z) : Type 0 where
  pub closed : l.reader.closed ≡ true
  pub head : l.ended ≡ false → (frame : Record) × (l.waiting.items ≡ frame ∷ []) × (l.last ≡ frame.stamp)
  pub read : l.ended ≡ true → (l.waiting.items ≡ []) × HasReadAll l

-- the captures that lanes are over
abbrev pub texts_over : {Z : Type 0} → List (Lane Z) → List Text
texts_over lanes = map (λ l. (l.port, l.reader.bytes)) lanes

-- how many bytes of each lane's output were taken
abbrev pub taken_by : {Z : Type 0} → List (Lane Z) → List ℕ
taken_by lanes = map (λ l. l.taken) lanes

-- how many records are still to be read at most, with one more for the end of the capture; 0 once it has ended
abbrev pub left_of : {Z : Type 0} → Lane Z → ℕ
left_of l = if l.ended then 0 else length l.reader.bytes - l.reader.given + 1

-- how many records are still to be read in all lanes, at most
abbrev pub left_in : {Z : Type 0} → List (Lane Z) → ℕ
left_in [] = 0
left_in (l ∷ lanes) = left_of l + left_in lanes

-- each of these texts is a capture
abbrev pub AreSound : List Text → Type 0
AreSound texts = AllByRecursion IsSound texts

-- memory ran out, or one of these captures has this fault
abbrev pub IsOneFault : List Text → RunFault → Type 0
IsOneFault texts run.Memory = Unit {0}
IsOneFault texts (run.Capture port why) = (place : ℕ) × (bytes : List ℕ) × (slice_get texts place ≡ Some (port, bytes)) × IsFault bytes why
IsOneFault texts run.WrongPorts = ⊥
IsOneFault texts run.Closed = ⊥
IsOneFault texts run.Failed = ⊥

-- a machine over whole captures, some of whose records have gone to the switch
pub record IsCarrying {Z : Type 0} (m : Machine Z) : Type 0 where
  pub of : AreOfTable m.switch.run.table m.lanes.items
  pub handed : length m.switch.run.handed ≡ length m.switch.run.table.ports
  pub going : IsGoing m.switch.run.table m.lanes.items m.switch m.counts
  pub over : AllByRecursion IsOver m.lanes.items

-- more records have gone, or all have
pub record CarriesOn {Z : Type 0} (more : Bool) (old new : Machine Z) : Type 0 where
  pub carrying : IsCarrying new
  pub texts : texts_over new.lanes.items ≡ texts_over old.lanes.items
  pub taken : taken_by new.lanes.items ≡ taken_by old.lanes.items
  pub fewer : more ≡ true → left_in new.lanes.items < left_in old.lanes.items
  pub all : more ≡ false → AllByRecursion (λ (l : Lane Z). l.ended ≡ true) new.lanes.items

-- what has left was let out or not, and nothing else was done
pub record HandsOn {Z : Type 0} (old new : Machine Z) : Type 0 where
  pub carrying : IsCarrying new
  pub same : IsOfSameTable old.switch new.switch
  pub texts : texts_over new.lanes.items ≡ texts_over old.lanes.items
  pub taken : taken_by new.lanes.items ≡ taken_by old.lanes.items
  pub left : left_in new.lanes.items ≡ left_in old.lanes.items

-- all records of these captures have gone to the switch
pub record HaveGone {Z : Type 0} (texts : List Text) (m : Machine Z) : Type 0 where
  pub carrying : IsCarrying m
  pub over : texts_over m.lanes.items ≡ texts
  pub all : AllByRecursion (λ (l : Lane Z). l.ended ≡ true) m.lanes.items

-- the machine of a plan over this table, whose switch took all records of these captures of the table's ports and keeps its lists
pub record HasPassed {Z : Type 0} (cleared : Bool) (t : Content) (texts : List Text) (m : Machine Z) : Type 0 where
  pub ports : AreOfPorts t texts
  pub table : m.switch.run.table ≡ t
  pub accepted : m.switch.accepted ≡ cleared
  pub keeps : m.switch.keeps ≡ true
  pub gone : HaveGone texts m
