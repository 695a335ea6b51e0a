-- Captures that are read in pieces, from readers.
use Rattle.std.specs.Prelude.{ℕ, ◌<◌, ◌≡◌, List, length, slice_get, Option, Some}
use Rattle.afdx_pcap.specs.declared.fault.PcapFault.{PcapFault}
use Rattle.afdx_folder.specs.Input.{AreGiven}
use Rattle.afdx_table.specs.Content.{Content}
use Rattle.afdx_session.specs.declared.sources.SourceFault.{SourceFault}
use Rattle.afdx_session.specs.declared.sources.SourceFault.TheVariants as fault
use Rattle.afdx_session.specs.Texts.{Text, AreOfPorts}
use Rattle.afdx_session.specs.Reading.{IsFirstFault}

-- each text has all the bytes that the reader at its place gives, if these are known
pub record AreRead {R : Type 0} (remaining : R → Option (List ℕ)) (readers : List R) (texts : List Text) : Type 0 where
  pub many : length texts ≡ length readers
  pub each : (place : ℕ) (reader : R) (text : Text) → slice_get readers place ≡ Some reader → slice_get texts place ≡ Some text → AreGiven (remaining reader) text.1

-- the readers give the texts of the table's ports, and the first of these that is no capture is that of this port, with this fault
pub record HasFirstFault {R : Type 0} (remaining : R → Option (List ℕ)) (t : Content) (readers : List R) (port : ℕ) (why : PcapFault) : Type 0 where
  pub texts : List Text
  pub ports : AreOfPorts t texts
  pub read : AreRead remaining readers texts
  pub first : IsFirstFault texts port why

-- why there is no outcome: memory ran out or a reader failed, which may be at any time; or of what the readers give a text has a fault
abbrev pub IsSourceFault : {R : Type 0} → (R → Option (List ℕ)) → Content → List R → SourceFault → Type 0
IsSourceFault remaining t readers fault.Memory = Unit {0}
IsSourceFault remaining t readers (fault.Read place) = place < length readers
IsSourceFault remaining t readers (fault.Capture port why) = HasFirstFault remaining t readers port why
