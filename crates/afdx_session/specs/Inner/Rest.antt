-- A run that is over, the rest of whose outputs is still to be written.
use Rattle.std.specs.Prelude.{ℕ, ◌<◌, ◌≤◌, ◌≡◌, List, ◌++◌, length, map, take, slice_get, Option, Some}
use Rattle.std.specs.List.{flat_map}
use Rattle.std.specs.Io.KnownBytes.{Appends}
use Rattle.afdx_pcap.specs.Text.{record_text}
use Rattle.afdx_table.specs.declared.rows.PortRow.{PortRow}
use Rattle.afdx_table.specs.Content.{Content}
use Rattle.afdx_table.specs.WellFormed.{IsWellFormed}
use Rattle.afdx_core.specs.State.{State}
use Rattle.afdx_core.specs.Merge.{Arrival}
use Rattle.afdx_count.specs.Tally.{Tally}
use Rattle.afdx_count.specs.Run.{counts_of}
use Rattle.afdx_session.specs.Texts.{Text, AreOfPorts}
use Rattle.afdx_session.specs.Output.{rows_of, written, output_text}
use Rattle.afdx_session.specs.Inner.Replay.{HasBytesOf, left_at}

-- a finished switch, the counts of the run, and by rising port how many bytes of its output went before, and which bytes are there
pub record Rest : Type 0 where
  pub state : State
  pub counts : Tally
  pub taken : List ℕ
  pub texts : List Text

-- these arrivals went through the table's switch; for each port from this place on, what went before, what is there, and then the
-- records that it did not hand out are its output
pub record IsLeft (t : Content) (arrivals : List Arrival) (n : ℕ) (r : Rest) : Type 0 where
  pub formed : IsWellFormed t
  pub table : r.state.run.table ≡ t
  pub long : length arrivals ≡ length r.state.run.rows
  pub handed : length r.state.run.handed ≡ length r.state.run.table.ports
  pub frames : HasBytesOf arrivals r.state
  pub ports : AreOfPorts t r.texts
  pub many : length r.taken ≡ length t.ports
  pub counts : r.counts ≡ counts_of t (rows_of t arrivals)
  pub rest : (place k : ℕ) (p : PortRow) (text : Text) → n ≤ place → slice_get t.ports place ≡ Some p → slice_get r.taken place ≡ Some k → slice_get r.texts place ≡ Some text
      → take k (output_text t arrivals p) ++ text.1 ++ flat_map record_text (map (written arrivals) (left_at r.state.run (Some place))) ≡ output_text t arrivals p

-- the files before a place have the rest of their ports' outputs after what went before, and the others have no more
pub record HaveRests {F : Type 0} (contents : F → Option (List ℕ)) (t : Content) (arrivals : List Arrival) (taken : List ℕ) (n : ℕ) (files now : List F) : Type 0 where
  pub long : length now ≡ length files
  pub rests : (place k : ℕ) (p : PortRow) (f g : F) → place < n → slice_get t.ports place ≡ Some p → slice_get taken place ≡ Some k → slice_get files place ≡ Some f → slice_get now place ≡ Some g
      → (bytes : List ℕ) × Appends (contents f) (contents g) bytes × (take k (output_text t arrivals p) ++ bytes ≡ output_text t arrivals p)
  pub others : (place : ℕ) → n ≤ place → slice_get now place ≡ slice_get files place

-- but for what was handed out the switch is as it was
pub record IsAsBefore (old new : State) : Type 0 where
  pub table : new.run.table ≡ old.run.table
  pub rows : new.run.rows ≡ old.run.rows
  pub latest : new.run.latest ≡ old.run.latest
  pub finished : new.run.finished ≡ old.run.finished
  pub accepted : new.accepted ≡ old.accepted
