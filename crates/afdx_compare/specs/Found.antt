-- What is found out from captures that readers give, and why nothing is (profile).
use Rattle.std.specs.Prelude.{◌≡◌, ℕ, ◌<◌, Bool, true, false, List, length, Option, Some, slice_get}
use Rattle.std.specs.Io.KnownBytes.{IsAtEnd}
use Rattle.afdx_pcap.specs.declared.fault.PcapFault.{PcapFault}
use Rattle.afdx_table.specs.Content.{Content}
use Rattle.afdx_merging.specs.Merge.{Arrival}
use Rattle.afdx_merging.specs.Read.{AreMerged, HasFirstFault}
use Rattle.afdx_recordings.specs.declared.recordings.Recordings.{Recordings}
use Rattle.afdx_compare.specs.declared.sources.Source.{Source}
use Rattle.afdx_compare.specs.declared.sources.CompareFault.{CompareFault}
use Rattle.afdx_compare.specs.declared.sources.CompareFault.TheVariants as fault
use Rattle.afdx_compare.specs.Comparison.{Comparison, IsBegun, with_until, with_end}
use Rattle.afdx_compare.specs.Sources.{sources_of}
use Rattle.afdx_compare.specs.Arrivals.{with_arrivals, least_of, greatest_of, begin_of, end_of}

-- ---- what is found out

-- what is known of a table's links and ports after all of these captures were read, from when to when they count, and their first and their last stamp
pub record IsFound {R : Type 0} (remaining : R → Option (List ℕ)) (t : Content) (r : Recordings) (keeping : Bool) (readers : List R) (from until : ℕ) (first last : Option ℕ)
    (found : Comparison) : Type 0 where
  pub arrivals : List Arrival
  pub start : Comparison
  pub are_merged : AreMerged remaining (sources_of t r).clocks readers arrivals
  pub from_is : from ≡ begin_of r arrivals
  pub until_is : until ≡ end_of r arrivals
  pub first_is : first ≡ least_of arrivals
  pub last_is : last ≡ greatest_of arrivals
  pub begun : IsBegun t r from keeping start
  pub found_is : found ≡ with_end (with_arrivals (sources_of t r).captures arrivals (with_until until start))

-- ---- faults

-- the capture at this place, of what left or of what came at a port, has the first fault of all
pub record IsFirstAt {R : Type 0} (remaining : R → Option (List ℕ)) (captures : List Source) (readers : List R) (leaves : Bool) (port : ℕ) (why : PcapFault) : Type 0 where
  pub place : ℕ
  pub source : Source
  pub there : slice_get captures place ≡ Some source
  pub of_what : source.leaves ≡ leaves
  pub of_port : source.port ≡ port
  pub first : HasFirstFault remaining readers place why

-- why captures are not compared: memory ran out or a reader failed, which may be at any time; or of what the readers give one has a fault
abbrev pub IsCompareFault : {R : Type 0} → (R → Option (List ℕ)) → List Source → List R → CompareFault → Type 0
IsCompareFault remaining captures readers fault.Memory = Unit {0}
IsCompareFault remaining captures readers (fault.Read place) = place < length readers
IsCompareFault remaining captures readers (fault.Came port why) = IsFirstAt remaining captures readers false port why
IsCompareFault remaining captures readers (fault.Left port why) = IsFirstAt remaining captures readers true port why

-- if a reader failed, those before it are at their ends; if a text is refused, all are
abbrev pub WereAllRead : {R : Type 0} → (R → Option (List ℕ)) → List R → CompareFault → Type 0
WereAllRead remaining now fault.Memory = Unit {0}
WereAllRead {R} remaining now (fault.Read place) = (k : ℕ) (r : R) → k < place → slice_get now k ≡ Some r → IsAtEnd (remaining r)
WereAllRead {R} remaining now (fault.Came port why) = (k : ℕ) (r : R) → slice_get now k ≡ Some r → IsAtEnd (remaining r)
WereAllRead {R} remaining now (fault.Left port why) = (k : ℕ) (r : R) → slice_get now k ≡ Some r → IsAtEnd (remaining r)
