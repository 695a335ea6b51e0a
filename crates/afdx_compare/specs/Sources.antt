-- Which captures are compared: of what came at each port, and then of what left at each output port that was recorded (profile).
use Rattle.std.specs.Prelude.{◌≡◌, ℕ, ◌+◌, ◌*◌, ◌<◌, ℤ, pos, negsuc, Bool, true, false, List, [], ◌∷◌, ◌++◌, map, Some, slice_get, if◌then◌else◌}
use Rattle.afdx_units.specs.Line.{tick_of}
use Rattle.afdx_pcap.specs.declared.fault.PcapFault.{PcapFault}
use Rattle.afdx_table.specs.declared.rows.PortRow.{PortRow}
use Rattle.afdx_table.specs.Content.{Content}
use Rattle.afdx_merging.specs.declared.clock.Clock.{Clock}
use Rattle.afdx_merging.specs.declared.fault.MergeFault.{MergeFault}
use Rattle.afdx_merging.specs.declared.fault.MergeFault.TheVariants as merge
use Rattle.afdx_recordings.specs.declared.recordings.Recordings.{Recordings}
use Rattle.afdx_recordings.specs.declared.outputs.Outputs.{Outputs}
use Rattle.afdx_recordings.specs.Recordings.{gap_of, offset_at, is_recorded}
use Rattle.afdx_compare.specs.declared.sources.Source.{Source}
use Rattle.afdx_compare.specs.declared.sources.CompareFault.{CompareFault}
use Rattle.afdx_compare.specs.declared.sources.CompareFault.TheVariants.{Memory, Read, Came, Left}

-- which captures are compared, and by which clock each
pub record Sources : Type 0 where
  pub captures : List Source
  pub clocks : List Clock

-- ---- clocks

-- what came is by the clock that all is compared by
abbrev pub input_clock : Clock
input_clock = record { later = 0; sooner = 0; delay = 0 }

-- by how many ns an offset makes stamps later
abbrev pub later_by : ℤ → ℕ
later_by (pos ns) = ns
later_by (negsuc ns) = 0

-- by how many ns an offset makes stamps sooner
abbrev pub sooner_by : ℤ → ℕ
sooner_by (pos ns) = 0
sooner_by (negsuc ns) = ns + 1

-- what left at a port is in order by the latest instant at which by the stamps the line was free again
abbrev pub output_clock : Recordings → PortRow → Clock
output_clock r p = record {
  later = later_by (offset_at r.offsets p.id);
  sooner = sooner_by (offset_at r.offsets p.id);
  delay = gap_of r.stamps * tick_of p.speed + r.tolerance;
}

-- ---- captures

-- the capture of the port at a place: of what left there (true), or of what came
abbrev pub source_of : ℕ → Bool → PortRow → Source
source_of place leaves p = record { port = p.id; place = place; leaves = leaves }

-- the captures of what came at ports, which are in the table from this place on
abbrev pub inputs_from : ℕ → List PortRow → List Source
inputs_from place [] = []
inputs_from place (p ∷ ps) = source_of place false p ∷ inputs_from (place + 1) ps

-- the captures of what left at those of them that were recorded
abbrev pub outputs_from : Outputs → ℕ → List PortRow → List Source
outputs_from recorded place [] = []
outputs_from recorded place (p ∷ ps) = (if is_recorded recorded p.id then source_of place true p ∷ [] else []) ++ outputs_from recorded (place + 1) ps

-- the clocks of these captures, in the same order
abbrev pub output_clocks : Recordings → List PortRow → List Clock
output_clocks r [] = []
output_clocks r (p ∷ ps) = (if is_recorded r.outputs p.id then output_clock r p ∷ [] else []) ++ output_clocks r ps

-- all captures of what came, for a run of our own switch
abbrev pub inputs_of : Content → Sources
inputs_of t = record { captures = inputs_from 0 t.ports; clocks = map (λ p. input_clock) t.ports }

-- all captures that are compared: of what came at each port, and then of what left at each that was recorded
abbrev pub sources_of : Content → Recordings → Sources
sources_of t r = record {
  captures = inputs_from 0 t.ports ++ outputs_from r.outputs 0 t.ports;
  clocks = map (λ p. input_clock) t.ports ++ output_clocks r t.ports;
}

-- ---- faults

-- the fault of a capture, said of its port
abbrev pub port_fault : Source → PcapFault → CompareFault
port_fault s why = if s.leaves then Left s.port why else Came s.port why

-- the fault of captures that are merged, said of ports
abbrev pub IsFaultOf : List Source → MergeFault → CompareFault → Type 0
IsFaultOf captures merge.Memory fault = fault ≡ Memory
IsFaultOf captures (merge.Read place) fault = fault ≡ Read place
IsFaultOf captures (merge.Capture place why) fault = (s : Source) × (slice_get captures place ≡ Some s) × (fault ≡ port_fault s why)

-- a fault of captures of which there are so many
abbrev pub IsWithin : ℕ → MergeFault → Type 0
IsWithin count merge.Memory = Unit {0}
IsWithin count (merge.Read place) = Unit {0}
IsWithin count (merge.Capture place why) = place < count
