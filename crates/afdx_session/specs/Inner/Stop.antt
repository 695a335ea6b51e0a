-- A run over readers that has stopped: what is read on of the captures, to find which failure is the first.
use Rattle.std.specs.Prelude.{ℕ, ◌<◌, ◌≡◌, ◌⊎◌, true, false, List, [], ◌∷◌, ◌++◌, length, map, slice_get, Option, Some, None, Vec}
use Rattle.std.specs.Io.KnownBytes.{Consumes, IsAtEnd}
use Rattle.afdx_pcap.specs.declared.fault.PcapFault.{PcapFault}
use Rattle.afdx_pcap.specs.Record.{Record}
use Rattle.afdx_pcap.specs.Capture.{IsCapture}
use Rattle.afdx_pcap.specs.Fault.{IsFault, IsEarlyFault}
use Rattle.afdx_folder.specs.Input.{AreGiven}
use Rattle.afdx_table.specs.Content.{Content}
use Rattle.afdx_session.specs.declared.lane.Lane.{Lane}
use Rattle.afdx_session.specs.declared.plan.RunFault.{RunFault}
use Rattle.afdx_session.specs.declared.plan.RunFault.TheVariants as run
use Rattle.afdx_session.specs.declared.sources.SourceFault.{SourceFault}
use Rattle.afdx_session.specs.declared.sources.SourceFault.TheVariants as fault
use Rattle.afdx_session.specs.declared.stop.Stop.{Stop}
use Rattle.afdx_session.specs.declared.stop.Stop.TheVariants as stop
use Rattle.afdx_session.specs.Session.{Intake, Seen}
use Rattle.afdx_session.specs.Texts.{Text, AreOfPorts}
use Rattle.afdx_session.specs.Reading.{IsFirstFault}
use Rattle.afdx_session.specs.Inner.Lanes.{HasRead, HasReadAll}
use Rattle.afdx_session.specs.Inner.Lent.{AreSound}
use Rattle.afdx_session.specs.Inner.Sources.{AreReadUpTo}

-- ---- the lanes of a session that has failed

-- a lane's reader may read on by itself
pub record MayReadOn {Z : Type 0} (l : Lane Z) : Type 0 where
  pub records : List Record
  pub has_read : HasRead l records
  pub done : l.undone ≡ 0
  pub all : HasReadAll l

-- a lane has read what came of its capture
pub record IsLeftAt {Z : Type 0} (i : Intake) (l : Lane Z) : Type 0 where
  pub may : MayReadOn l
  pub bytes : l.reader.bytes ≡ i.bytes
  pub closed : l.reader.closed ≡ i.closed

-- all lanes but that of this port have read what came of their captures
pub record AreLeft {Z : Type 0} (v : Seen) (port : ℕ) (lanes : List (Lane Z)) : Type 0 where
  pub ports : map (λ (l : Lane Z). l.port) lanes ≡ map (λ (i : Intake). i.port) v.intakes
  pub others : (place : ℕ) (i : Intake) (l : Lane Z) → slice_get v.intakes place ≡ Some i → slice_get lanes place ≡ Some l → (i.port ≡ port → ⊥) → IsLeftAt i l

-- why a call at a port failed: for memory, or for its bytes, and then these lanes are left
abbrev pub IsStoppedBy : {Z : Type 0} → Seen → ℕ → RunFault → List (Lane Z) → Type 0 → Type 0
IsStoppedBy v port run.Memory lanes Why = Unit {0}
IsStoppedBy v port (run.Capture at why) lanes Why = Why × AreLeft v port lanes
IsStoppedBy v port run.WrongPorts lanes Why = ⊥
IsStoppedBy v port run.Closed lanes Why = ⊥
IsStoppedBy v port run.Failed lanes Why = ⊥

-- ---- where a run stopped

-- whatever else a reader gives, all that it gives has this fault
abbrev pub IsKnown : Option (List ℕ) → List ℕ → PcapFault → Type 0
IsKnown remaining bytes why = IsEarlyFault bytes why ⊎ (IsFault bytes why × IsAtEnd remaining)

-- a lane may read on what its reader gives, which is nothing if the capture has ended
pub record IsOn {Z : Type 0} (remaining : Option (List ℕ)) (l : Lane Z) : Type 0 where
  pub may : MayReadOn l
  pub ended : l.reader.closed ≡ true → IsAtEnd remaining

-- the lanes before this place may read on what their readers give
abbrev pub AreOn : {R Z : Type 0} → (R → Option (List ℕ)) → ℕ → List R → List (Lane Z) → Type 0
AreOn {R} {Z} remaining place readers lanes = (k : ℕ) (r : R) (l : Lane Z) → k < place → slice_get readers k ≡ Some r → slice_get lanes k ≡ Some l → IsOn (remaining r) l

-- these bytes came of the captures of a table's ports; the capture at this place has a fault, and the lanes before it may read on
pub record AreStoppedAt {R Z : Type 0} (remaining : R → Option (List ℕ)) (t : Content) (first now : List R) (place : ℕ) (why : PcapFault) (lanes : List (Lane Z)) : Type 0 where
  pub came : List Text
  pub ports : AreOfPorts t came
  pub lane_ports : map (λ (l : Lane Z). l.port) lanes ≡ map (λ (text : Text). text.0) came
  pub many : length now ≡ length came
  pub long : length first ≡ length came
  pub within : place < length came
  pub gave : (k : ℕ) (f r : R) (text : Text) → slice_get first k ≡ Some f → slice_get now k ≡ Some r → slice_get came k ≡ Some text → Consumes (remaining f) (remaining r) text.1
  pub here : (r : R) (text : Text) → slice_get now place ≡ Some r → slice_get came place ≡ Some text → IsKnown (remaining r) text.1 why
  pub before : AreOn remaining place now lanes
  pub bytes : (k : ℕ) (l : Lane Z) (text : Text) → k < place → slice_get lanes k ≡ Some l → slice_get came k ≡ Some text → l.reader.bytes ≡ text.1

-- where a run over the captures of a table's ports stopped: its readers gave this at first, and give that now
abbrev pub IsStop : {R Z : Type 0} → (R → Option (List ℕ)) → Content → List R → List R → Stop Z → Type 0
IsStop remaining t first now stop.Memory = Unit {0}
IsStop remaining t first now (stop.Read place) = (place < length first) × (length now ≡ length first)
IsStop remaining t first now (stop.Capture place why lanes) = AreStoppedAt remaining t first now place why lanes.items

-- where it stopped, if this was the fault of the capture at a place
abbrev pub stop_of : {Z : Type 0} → ℕ → RunFault → Vec (Lane Z) Z → Stop Z
stop_of place (run.Capture port why) lanes = stop.Capture place why lanes
stop_of place _ lanes = stop.Memory

-- where a run stopped, whatever the readers gave before
abbrev pub IsStopSince : {R Z : Type 0} → (R → Option (List ℕ)) → Seen → List R → List R → Stop Z → Type 0
IsStopSince {R} remaining v readers now why = (first : List R) → AreReadUpTo remaining v first readers → IsStop remaining v.table first now why

-- ---- captures that are read on to their ends

-- a piece came, with this fault or none
abbrev pub IsSkimmed : {Z : Type 0} → Lane Z → Lane Z → List ℕ → Option PcapFault → Type 0
IsSkimmed old new piece None = (new.port ≡ old.port) × (new.reader.bytes ≡ old.reader.bytes ++ piece) × (new.reader.closed ≡ false) × MayReadOn new
IsSkimmed old new piece (Some why) = IsEarlyFault (old.reader.bytes ++ piece) why

-- all of a capture came, with this fault or none
abbrev pub IsEndOf : List ℕ → Option PcapFault → Type 0
IsEndOf bytes None = (records : List Record) × IsCapture bytes records
IsEndOf bytes (Some why) = IsFault bytes why

-- this more came of each capture, which is all that its reader still had to give
abbrev pub AreReadOut : {R Z : Type 0} → (R → Option (List ℕ)) → List (Lane Z) → List R → List Text → Type 0
AreReadOut remaining [] [] [] = Unit {0}
AreReadOut remaining (l ∷ lanes) (r ∷ readers) (text ∷ texts) =
    (text.0 ≡ l.port) × ((more : List ℕ) × AreGiven (remaining r) more × (text.1 ≡ l.reader.bytes ++ more)) × AreReadOut remaining lanes readers texts
AreReadOut remaining _ _ _ = ⊥

-- the first fault of these captures, if there is one
abbrev pub IsFoundIn : List Text → Option (ℕ × PcapFault) → Type 0
IsFoundIn texts None = AreSound texts
IsFoundIn texts (Some found) = IsFirstFault texts found.0 found.1

-- the fault that was found before, if there is one, or else this one of a port
abbrev pub first_found : Option (ℕ × PcapFault) → ℕ → Option PcapFault → Option (ℕ × PcapFault)
first_found (Some found) port why = Some found
first_found None port None = None
first_found None port (Some why) = Some (port, why)

-- of one of so many readers it is not known what it gives: memory ran out, or it failed
abbrev pub IsUnread : ℕ → SourceFault → Type 0
IsUnread count fault.Memory = Unit {0}
IsUnread count (fault.Read place) = place < count
IsUnread count (fault.Capture port why) = ⊥
