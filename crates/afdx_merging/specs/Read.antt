-- Captures that readers give.
use Rattle.std.specs.Prelude.{◌≡◌, ℕ, ◌<◌, List, length, slice_get, Option, Some}
use Rattle.std.specs.Io.KnownBytes.{IsAtEnd}
use Rattle.afdx_pcap.specs.declared.fault.PcapFault.{PcapFault}
use Rattle.afdx_pcap.specs.Record.{Record}
use Rattle.afdx_pcap.specs.Capture.{IsCapture}
use Rattle.afdx_pcap.specs.Fault.{IsFault}
use Rattle.afdx_folder.specs.Input.{AreGiven}
use Rattle.afdx_merging.specs.declared.clock.Clock.{Clock}
use Rattle.afdx_merging.specs.declared.fault.MergeFault.{MergeFault}
use Rattle.afdx_merging.specs.declared.fault.MergeFault.TheVariants as fault
use Rattle.afdx_merging.specs.Merge.{Arrival, IsMergeOf}

-- each text has all the bytes that the reader at its place gives, if that is known
pub record AreRead {R : Type 0} (remaining : R → Option (List ℕ)) (readers : List R) (texts : List (List ℕ)) : Type 0 where
  pub many : length texts ≡ length readers
  pub each : (place : ℕ) (r : R) (text : List ℕ) → slice_get readers place ≡ Some r → slice_get texts place ≡ Some text → AreGiven (remaining r) text

-- the text at each place is the capture of the records there
pub record AreCaptures (texts : List (List ℕ)) (captures : List (List Record)) : Type 0 where
  pub many : length captures ≡ length texts
  pub each : (place : ℕ) (text : List ℕ) (rs : List Record) → slice_get texts place ≡ Some text → slice_get captures place ≡ Some rs → IsCapture text rs

-- the readers give captures, and these are all their records
pub record AreMerged {R : Type 0} (remaining : R → Option (List ℕ)) (clocks : List Clock) (readers : List R) (arrivals : List Arrival) : Type 0 where
  pub texts : List (List ℕ)
  pub captures : List (List Record)
  pub read : AreRead remaining readers texts
  pub are : AreCaptures texts captures
  pub merge : IsMergeOf clocks captures arrivals

-- what the reader at a place gives has this fault, and those at lower places give captures
pub record HasFirstFault {R : Type 0} (remaining : R → Option (List ℕ)) (readers : List R) (place : ℕ) (why : PcapFault) : Type 0 where
  pub texts : List (List ℕ)
  pub read : AreRead remaining readers texts
  pub here : (text : List ℕ) → slice_get texts place ≡ Some text → IsFault text why
  pub within : place < length texts
  pub before : (k : ℕ) (text : List ℕ) → k < place → slice_get texts k ≡ Some text → (rs : List Record) × IsCapture text rs

-- why nothing comes of it: memory ran out or a reader failed, which may be at any time; or of what the readers give one has a fault
abbrev pub IsMergeFault : {R : Type 0} → (R → Option (List ℕ)) → List R → MergeFault → Type 0
IsMergeFault remaining readers fault.Memory = Unit {0}
IsMergeFault remaining readers (fault.Read place) = place < length readers
IsMergeFault remaining readers (fault.Capture place why) = HasFirstFault remaining readers place why

-- if a reader failed, those before it are at their ends; if one has a fault, all are
abbrev pub WereAllRead : {R : Type 0} → (R → Option (List ℕ)) → List R → MergeFault → Type 0
WereAllRead remaining now fault.Memory = Unit {0}
WereAllRead {R} remaining now (fault.Read place) = (k : ℕ) (r : R) → k < place → slice_get now k ≡ Some r → IsAtEnd (remaining r)
WereAllRead {R} remaining now (fault.Capture place why) = (k : ℕ) (r : R) → slice_get now k ≡ Some r → IsAtEnd (remaining r)
