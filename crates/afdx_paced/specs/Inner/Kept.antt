-- What is true of a switch that is fed by time, between its calls and in the course of one.
use Rattle.std.specs.Prelude.{ℕ, ◌≡◌, ◌+◌, ◌<◌, ◌≤◌, ◌^◌, ◌⊎◌, false, Bool, true, List, [], ◌++◌, length, map, slice_get, slice_index, Option, Some, None}
use Rattle.std.specs.List.{AllByRecursion}
use Rattle.afdx_units.specs.Time.{last_second}
use Rattle.afdx_earliest.specs.Instants.{instant_at, IsFirstUpTo}
use Rattle.afdx_pcap.specs.Record.{Record}
use Rattle.afdx_pcap.specs.Fault.{last_stamp}
use Rattle.afdx_table.specs.declared.rows.PortRow.{PortRow}
use Rattle.afdx_table.specs.WellFormed.{IsWellFormed}
use Rattle.afdx_core.specs.Merge.{Arrival, Rises, merged}
use Rattle.afdx_core.specs.Next.{IsNextEvent}
use Rattle.afdx_core.specs.State.{Run, State}
use Rattle.afdx_count.specs.Run.{counts_so_far}
use Rattle.afdx_session.specs.Output.{rows_of}
use Rattle.afdx_session.specs.Inner.Settled.{IsGiven}
use Rattle.afdx_paced.specs.Paced.{Paced, captures_of, out_up_to}
use Rattle.afdx_paced.specs.Inner.Parts.{Parts, lanes_of, gone_of, waiting_of}
use Rattle.afdx_paced.specs.declared.feeder.Feeder.{Feeder}

-- a feeder as contracts see it
abbrev pub paced_of : {Z : Type 0} → Feeder Z → ℕ → Bool → Paced
paced_of f reached failed = record { table = f.switch.run.table; lanes = lanes_of f.lanes.items; reached = reached; failed = failed; keeps = f.switch.keeps }

-- there is a lane for each port of the table, by rising number, and the switch counts what each has handed out
pub record IsOfTable {Z : Type 0} (f : Feeder Z) : Type 0 where
  pub formed : IsWellFormed f.switch.run.table
  pub ports : map (λ (l : Parts). l.port) f.lanes.items ≡ map (λ (p : PortRow). p.id) f.switch.run.table.ports
  pub handed : length f.switch.run.handed ≡ length f.switch.run.table.ports

-- a switch is over the same table, and has handed out as much
pub record IsSameTable (old new : State) : Type 0 where
  pub table : new.run.table ≡ old.run.table
  pub accepted : new.accepted ≡ old.accepted
  pub keeps : new.keeps ≡ old.keeps
  pub handed : new.run.handed ≡ old.run.handed

-- what came in at a port: no stamp falls, none lies in the last second, and the last one is known
pub record IsSorted (l : Parts) : Type 0 where
  pub rises : Rises (l.gone ++ l.waiting)
  pub early : AllByRecursion (λ (r : Record). r.stamp < last_second) (l.gone ++ l.waiting)
  pub last : l.last ≡ last_stamp 0 (l.gone ++ l.waiting)

-- ---- in the course of a call

-- these arrivals, which come before the instant, were given to the switch, and with what waits they are the program's merge
pub record IsPassing {Z : Type 0} (until : ℕ) (f : Feeder Z) : Type 0 where
  pub given : List Arrival
  pub whole : merged (captures_of (lanes_of f.lanes.items)) ≡ given ++ merged (map waiting_of f.lanes.items)
  pub is_given : IsGiven f.switch.run.table given f.switch
  pub before : AllByRecursion (λ a. a.frame.stamp < until) given
  pub latest : f.switch.run.latest ≤ until
  pub later : AllByRecursion (λ a. f.switch.run.latest ≤ a.frame.stamp) (merged (map waiting_of f.lanes.items))
  pub sorted : AllByRecursion IsSorted f.lanes.items
  pub gone_before : AllByRecursion (λ (l : Parts). AllByRecursion (λ (r : Record). r.stamp < until) l.gone) f.lanes.items
  pub counts_are : f.counts ≡ counts_so_far f.switch.run.table (rows_of f.switch.run.table given)
  pub few : length given ≤ 2 ^ 64

-- the first of these instants is at this place, and lies before another one
pub record IsFirstBefore (until : ℕ) (heads : List (Option ℕ)) (place : ℕ) : Type 0 where
  pub stamp : ℕ
  pub first : IsFirstUpTo heads (length heads) place stamp
  pub before : stamp < until

-- none of these instants lies before another one
abbrev pub NoneBefore : ℕ → List (Option ℕ) → Type 0
NoneBefore until heads = (place at : ℕ) → place < length heads → instant_at heads place ≡ Some at → until ≤ at

-- what no record that goes changes: what came in and what left
pub record ComesTo {Z : Type 0} (old new : Feeder Z) : Type 0 where
  pub lanes : lanes_of new.lanes.items ≡ lanes_of old.lanes.items

-- more records went, or none that waits comes before the instant
pub record PassesOn {Z : Type 0} (until : ℕ) (more : Bool) (old new : Feeder Z) : Type 0 where
  pub passing : IsPassing until new
  pub comes : ComesTo old new
  pub fewer : more ≡ true → length (merged (map waiting_of new.lanes.items)) < length (merged (map waiting_of old.lanes.items))
  pub none : more ≡ false → AllByRecursion (λ (l : Parts). AllByRecursion (λ (r : Record). until ≤ r.stamp) l.waiting) new.lanes.items

-- ---- between calls

-- what came in before an instant went to the switch, and the rest waits
pub record IsCut (h : ℕ) (l : Parts) : Type 0 where
  pub sorted : IsSorted l
  pub gone : AllByRecursion (λ (r : Record). r.stamp < h) l.gone
  pub waiting : AllByRecursion (λ (r : Record). h ≤ r.stamp) l.waiting

-- the arrivals that went to the switch
abbrev pub given_of : List Parts → List Arrival
given_of lanes = merged (map gone_of lanes)

-- what the port at a place handed out is what left there, and is the first part of what leaves it up to the instant
pub record HasLeft {Z : Type 0} (h : ℕ) (f : Feeder Z) (place : ℕ) (p : PortRow) (l : Parts) : Type 0 where
  pub count : slice_index f.switch.run.handed place ≡ length l.left
  pub rest : List Record
  pub prefix : out_up_to (paced_of f h false) (Some h) p ≡ l.left ++ rest

-- what each port of the switch handed out is what left there
abbrev pub HaveLeft : {Z : Type 0} → ℕ → Feeder Z → Type 0
HaveLeft h f = (place : ℕ) (p : PortRow) (l : Parts) → slice_get f.switch.run.table.ports place ≡ Some p → slice_get f.lanes.items place ≡ Some l → HasLeft h f place p l

-- the switch took what came in before the instant, and has come to it
pub record IsGoing {Z : Type 0} (h : ℕ) (f : Feeder Z) : Type 0 where
  pub cut : AllByRecursion (IsCut h) f.lanes.items
  pub is_given : IsGiven f.switch.run.table (given_of f.lanes.items) f.switch
  pub latest : f.switch.run.latest ≡ h
  pub counts_are : f.counts ≡ counts_so_far f.switch.run.table (rows_of f.switch.run.table (given_of f.lanes.items))
  pub few : length (given_of f.lanes.items) ≤ 2 ^ 64
  pub left : HaveLeft h f

-- ---- what comes next

-- nothing that waits came before this instant; if there is none, nothing waits
abbrev pub IsFirstHead : List Parts → Option ℕ → Type 0
IsFirstHead lanes None = AllByRecursion (λ (l : Parts). l.waiting ≡ []) lanes
IsFirstHead lanes (Some n) = AllByRecursion (λ (l : Parts). AllByRecursion (λ (r : Record). n ≤ r.stamp) l.waiting) lanes

-- the next event does not lie before what the instant reaches, unless that instant is 0; if there is none, each event was carried out
abbrev pub IsNextStart : Run → Option ℕ → Type 0
IsNextStart r None = IsNextEvent r None
IsNextStart r (Some n) = (at : ℕ) × IsNextEvent r (Some at) × ((n ≡ 0) ⊎ (n + r.table.latency ≤ at))
