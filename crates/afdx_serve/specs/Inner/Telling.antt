-- What is told of the captures of a folder, in new files that are still apart: one of the arrivals, one of the copies, and one for each port.
use Rattle.std.specs.Prelude.{◌≡◌, ◌+◌, true, ℕ, Bool, List, length, slice_get, Option, Some, flat_map}
use Rattle.std.specs.Io.KnownBytes.{Appends}
use Rattle.afdx_table.specs.declared.rows.PortRow.{PortRow}
use Rattle.afdx_table.specs.Content.{Content}
use Rattle.afdx_core.specs.Isolation.{IsIsolatedRun}
use Rattle.afdx_core.specs.State.{State}
use Rattle.afdx_trace.specs.declared.shown.Selection.{Selection}
use Rattle.afdx_trace.specs.Shown.{shown_of}
use Rattle.afdx_trace.specs.Arrivals.{arrivals_text}
use Rattle.afdx_trace.specs.Departures.{departures_heading, port_lines}
use Rattle.afdx_session.specs.Texts.{Text}
use Rattle.afdx_session.specs.Outcome.{IsDoneOf}
use Rattle.afdx_folder.specs.Files.{Files}
use Rattle.afdx_serve.specs.Runs.{HasCaptures}

-- these bytes were appended to the file at a place
abbrev pub HasMore : {N : Type 0} → (N → Option (List ℕ)) → List N → List N → ℕ → List ℕ → Type 0
HasMore {N} contents old new place bytes = (f g : N) → slice_get old place ≡ Some f → slice_get new place ≡ Some g → Appends (contents f) (contents g) bytes

-- the folder has captures of the table's ports, and what is told of their run was appended to these files
pub record IsTold {N : Type 0} (contents : N → Option (List ℕ)) (shown : Option Files) (path : List ℕ) (cleared : Bool) (t : Content) (s : Selection) (old new : List N) : Type 0 where
  pub texts : List Text
  pub state : State
  pub captures : HasCaptures shown path t texts
  pub done : IsDoneOf cleared t texts state
  pub isolated : cleared ≡ true → IsIsolatedRun state.run
  pub many : length new ≡ length old
  pub arrivals : HasMore contents old new 0 (arrivals_text s state.run)
  pub heading : HasMore contents old new 1 departures_heading
  pub parts : (k : ℕ) (p : PortRow) → slice_get t.ports k ≡ Some p → HasMore contents old new (k + 2) (port_lines (shown_of s state.run.rows) state.run p)

-- the bytes of all of these, one after the other
abbrev pub joined : List (List ℕ) → List ℕ
joined parts = flat_map (λ part. part) parts
