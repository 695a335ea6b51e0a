-- What was taken of captures that are read side by side, and what was told of it.
use Rattle.std.specs.Prelude.{◌≡◌, ℕ, ◌<◌, ◌≤◌, List, map, slice_index_or, Option}
use Rattle.std.specs.List.{AllByRecursion}
use Rattle.afdx_table.specs.declared.rows.PortRow.{PortRow}
use Rattle.afdx_table.specs.Content.{Content}
use Rattle.afdx_merging.specs.declared.clock.Clock.{Clock}
use Rattle.afdx_merging.specs.declared.fault.MergeFault.{MergeFault}
use Rattle.afdx_merging.specs.declared.fault.MergeFault.TheVariants as merge
use Rattle.afdx_merging.specs.declared.merging.Merging.{Merging}
use Rattle.afdx_merging.specs.Merge.{Arrival as Came, same_clock}
use Rattle.afdx_merging.specs.Read.{AreMerged}
use Rattle.afdx_merging.specs.Inner.Merging.{HasMerged}
use Rattle.afdx_core.specs.Isolation.{IsRun}
use Rattle.afdx_core.specs.Merge.{Arrival}
use Rattle.afdx_core.specs.State.{Run}
use Rattle.afdx_trace.specs.declared.shown.Selection.{Selection}
use Rattle.afdx_trace.specs.declared.tracing.Tracing.{Tracing}
use Rattle.afdx_trace.specs.Inner.Lines.{HasGone}
use Rattle.afdx_trace.specs.Inner.Telling.{Tells, HaveGone}
use Rattle.afdx_session.specs.Output.{rows_of}
use Rattle.afdx_session.specs.declared.sources.SourceFault.{SourceFault}
use Rattle.afdx_session.specs.declared.sources.SourceFault.TheVariants as source

-- the clocks of what comes in: the stamps as they are, at each port
abbrev pub clocks_of : List PortRow → List Clock
clocks_of ports = map (λ p. same_clock) ports

-- the number of the port at a place
abbrev pub number_at : List PortRow → ℕ → ℕ
number_at ports place = slice_index_or (map (λ p. p.id) ports) place 0

-- the number of the table's port at a place
abbrev pub port_at : Content → ℕ → ℕ
port_at t place = number_at t.ports place

-- an arrival at the port of its place
abbrev pub arrival_of : List PortRow → Came → Arrival
arrival_of ports a = record { port = number_at ports a.place; frame = a.head.frame }

-- all of these as arrivals, in order
abbrev pub arrivals_of : List PortRow → List Came → List Arrival
arrivals_of ports came = map (arrival_of ports) came

-- the switch took these arrivals
pub record TookAll (t : Content) (came : List Came) (r : Run) : Type 0 where
  pub table : r.table ≡ t
  pub rows : r.rows ≡ rows_of t (arrivals_of t.ports came)
  pub is_run : IsRun r
  pub latest : (n : ℕ) → AllByRecursion (λ a. a.due ≤ n) came → r.latest ≤ n

-- these arrivals were taken of what readers gave, and it was told of them
pub record HasTold {R F Z : Type 0} (remaining : R → Option (List ℕ)) (contents : F → Option (List ℕ)) (t : Content) (s : Selection) (first now : List R)
    (start file : F) (starts files : List F) (m : Merging Z) (telling : Tracing Z) : Type 0 where
  pub came : List Came
  pub run : Run
  pub merged : HasMerged remaining (clocks_of t.ports) first now m came
  pub took : TookAll t came run
  pub tells : Tells s run telling
  pub has : HasGone contents start file telling.lines
  pub have : HaveGone contents starts files telling.ports.items

-- the arrivals that were taken are all that the readers give
pub record HasTakenAll {R F Z : Type 0} (remaining : R → Option (List ℕ)) (contents : F → Option (List ℕ)) (t : Content) (s : Selection) (first : List R)
    (start file : F) (starts files : List F) (telling : Tracing Z) : Type 0 where
  pub came : List Came
  pub run : Run
  pub all : AreMerged remaining (clocks_of t.ports) first came
  pub took : TookAll t came run
  pub tells : Tells s run telling
  pub has : HasGone contents start file telling.lines
  pub have : HaveGone contents starts files telling.ports.items

-- the fault of captures that are merged, said of one of these ports
abbrev pub source_fault : List PortRow → MergeFault → SourceFault
source_fault ports merge.Memory = source.Memory
source_fault ports (merge.Read place) = source.Read place
source_fault ports (merge.Capture place why) = source.Capture (number_at ports place) why

-- if it is a fault of a capture, that is one of so many
abbrev pub IsAmong : ℕ → MergeFault → Type 0
IsAmong count merge.Memory = Unit {0}
IsAmong count (merge.Read place) = Unit {0}
IsAmong count (merge.Capture place why) = place < count
