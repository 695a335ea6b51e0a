-- A run of which it was told while it went on.
use Rattle.std.specs.Prelude.{◌≡◌, true, ℕ, Bool, List, Option}
use Rattle.std.specs.Io.KnownBytes.{Appends}
use Rattle.afdx_table.specs.Content.{Content}
use Rattle.afdx_core.specs.Isolation.{IsIsolatedRun}
use Rattle.afdx_core.specs.State.{State}
use Rattle.afdx_trace.specs.declared.shown.Selection.{Selection}
use Rattle.afdx_trace.specs.Arrivals.{arrivals_text}
use Rattle.afdx_trace.specs.Departures.{LinesAreAppended}
use Rattle.afdx_session.specs.Texts.{Text}
use Rattle.afdx_session.specs.Sources.{AreRead}
use Rattle.afdx_session.specs.Outcome.{IsDoneOf}

-- the readers give captures of the table's ports, and a finished switch took the program's merge of their records. The lines of its
-- arrivals were appended to a file, and those of each port to the file at its place. Over a checked table the headline holds of it
pub record IsTraced {R F : Type 0} (remaining : R → Option (List ℕ)) (contents : F → Option (List ℕ)) (cleared : Bool) (t : Content) (s : Selection) (readers : List R)
    (old new : F) (olds news : List F) : Type 0 where
  pub texts : List Text
  pub state : State
  pub read : AreRead remaining readers texts
  pub done : IsDoneOf cleared t texts state
  pub isolated : cleared ≡ true → IsIsolatedRun state.run
  pub arrivals : Appends (contents old) (contents new) (arrivals_text s state.run)
  pub departures : LinesAreAppended contents s state.run olds news
