-- Captures that are read in pieces, one by one.
use Rattle.std.specs.Prelude.{◌≡◌, ◌⊎◌, ℕ, Bool, true, false, List, [], ◌++◌, length, Option, Some, None, option_to_list}
use Rattle.std.specs.Io.KnownBytes.{Consumes, IsAtEnd}
use Rattle.afdx_pcap.specs.declared.fault.PcapFault.{PcapFault}
use Rattle.afdx_pcap.specs.Record.{Record}
use Rattle.afdx_pcap.specs.Capture.{IsCapture}
use Rattle.afdx_pcap.specs.Fault.{IsFault, IsEarlyFault}
use Rattle.afdx_pcap.specs.Reading.{HasTaken, IsSound, IsWrong}
use Rattle.afdx_pairing.specs.Events.{Numbered}
use Rattle.afdx_folder.specs.Input.{AreGiven}
use Rattle.afdx_merging.specs.declared.clock.Clock.{Clock}
use Rattle.afdx_merging.specs.declared.lane.Lane.{Lane}
use Rattle.afdx_merging.specs.declared.lane.LaneFault.{LaneFault}
use Rattle.afdx_merging.specs.declared.lane.LaneFault.TheVariants as fault
use Rattle.afdx_merging.specs.Merge.{numbered_from}

-- a lane of which nothing was read
abbrev pub fresh_lane : {Z : Type 0} → Clock → Lane Z
fresh_lane c = record { clock = c; reader = record { bytes = []; given = 0; closed = false; fault = None; lent = false }; head = None; count = 0 }

-- a lane after its next record was taken from it
abbrev pub without_head : {Z : Type 0} → Lane Z → Lane Z
without_head l = record l { head = None }

-- a lane handed out these records of what was read, and has the one after them at hand if it was read
pub record HasGiven {Z : Type 0} (l : Lane Z) (given : List Numbered) : Type 0 where
  pub records : List Record
  pub no_fault : l.reader.fault ≡ None
  pub taken : HasTaken (record { bytes = l.reader.bytes; given = l.reader.given }) records
  pub count : l.count ≡ length records
  pub numbered : given ++ option_to_list l.head ≡ numbered_from 1 l.clock records

-- the next record is at hand, or there is none, and all is a capture
abbrev pub IsAtHand : {Z : Type 0} → Lane Z → Type 0
IsAtHand l = l.head ≡ None → (l.reader.closed ≡ true) × IsSound l.reader.bytes l.reader.given true

-- the next record of what was read came to hand, or there is none
pub record Draws {Z : Type 0} (done : Bool) (old new : Lane Z) : Type 0 where
  pub clock : new.clock ≡ old.clock
  pub no_fault : new.reader.fault ≡ None
  pub bytes : new.reader.bytes ≡ old.reader.bytes
  pub closed : new.reader.closed ≡ old.reader.closed
  pub on : (given : List Numbered) → HasGiven old given → HasGiven new given
  pub at_hand : done ≡ true → IsAtHand new
  pub more : done ≡ false → (new.head ≡ None) × (new.reader.closed ≡ false)

-- why a lane is not read on: for memory, for its reader, or for its bytes
abbrev pub IsLaneFault : List ℕ → Bool → LaneFault → Type 0
IsLaneFault bytes closed fault.Memory = Unit {0}
IsLaneFault bytes closed fault.Read = Unit {0}
IsLaneFault bytes closed (fault.Capture why) = IsWrong bytes closed why

-- a lane has what its reader gave, and handed out these records of it
pub record IsReadBy {R Z : Type 0} (remaining : R → Option (List ℕ)) (first now : R) (l : Lane Z) (given : List Numbered) : Type 0 where
  pub has : HasGiven l given
  pub bytes : Consumes (remaining first) (remaining now) l.reader.bytes
  pub ended : l.reader.closed ≡ true → IsAtEnd (remaining now)

-- a reader failed, or memory ran out
abbrev pub IsOfReader : LaneFault → Type 0
IsOfReader fault.Memory = Unit {0}
IsOfReader fault.Read = Unit {0}
IsOfReader (fault.Capture why) = ⊥

-- whatever else its reader gives, all that it gives has this fault
abbrev pub IsKnown : Option (List ℕ) → List ℕ → PcapFault → Type 0
IsKnown remaining bytes why = IsEarlyFault bytes why ⊎ (IsFault bytes why × IsAtEnd remaining)

-- why a lane of which a reader gave all was not read on
abbrev pub IsStopped : {R : Type 0} → (R → Option (List ℕ)) → R → R → LaneFault → Type 0
IsStopped remaining first now fault.Memory = Unit {0}
IsStopped remaining first now fault.Read = Unit {0}
IsStopped remaining first now (fault.Capture why) = (bytes : List ℕ) × Consumes (remaining first) (remaining now) bytes × IsKnown (remaining now) bytes why

-- all of a capture came, with this fault or none
abbrev pub IsEndOf : List ℕ → Option PcapFault → Type 0
IsEndOf bytes None = (records : List Record) × IsCapture bytes records
IsEndOf bytes (Some why) = IsFault bytes why

-- all that a reader gives, with this fault or none
pub record IsReadOut {R : Type 0} (remaining : R → Option (List ℕ)) (first : R) (found : Option PcapFault) : Type 0 where
  pub text : List ℕ
  pub all : AreGiven (remaining first) text
  pub end : IsEndOf text found
