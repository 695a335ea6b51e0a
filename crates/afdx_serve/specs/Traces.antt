-- What is put of what became of each frame of a folder's captures.
use Rattle.std.specs.Prelude.{◌≡◌, ℕ, false, not, codes, List, [], ◌∷◌, ◌++◌, Option}
use Rattle.afdx_table.specs.Content.{Content}
use Rattle.afdx_core.specs.Isolation.{IsIsolatedRun}
use Rattle.afdx_core.specs.State.{Run, State}
use Rattle.afdx_trace.specs.declared.shown.Selection.{Selection}
use Rattle.afdx_trace.specs.Arrivals.{arrivals_text}
use Rattle.afdx_trace.specs.Departures.{departures_text}
use Rattle.afdx_session.specs.Texts.{Text}
use Rattle.afdx_session.specs.Outcome.{IsDoneOf}
use Rattle.afdx_arguments.specs.declared.request.Paths.{Paths}
use Rattle.afdx_arguments.specs.declared.request.TraceOptions.{TraceOptions}
use Rattle.afdx_messages.specs.declared.failure.Failure.{Failure}
use Rattle.afdx_folder.specs.Files.{Files, PutsFiles, DeviceLog}
use Rattle.afdx_serve.specs.Runs.{inputs_of, HasPlan, HasCaptures, StopsAt, EndsAt, FailsToEnd}

-- profile: the name of the file of arrivals in a folder
abbrev pub arrivals_name : List ℕ → List ℕ
arrivals_name folder = folder ++ codes "/arrivals.csv"

-- profile: the name of the file of departures in a folder
abbrev pub departures_name : List ℕ → List ℕ
departures_name folder = folder ++ codes "/departures.csv"

-- both names, in the order in which the files are put
abbrev pub trace_names : List ℕ → List (List ℕ)
trace_names folder = arrivals_name folder ∷ departures_name folder ∷ []

-- what is reported of a finished switch
abbrev pub trace_texts : Selection → Run → List (List ℕ)
trace_texts selection r = arrivals_text selection r ∷ departures_text selection r ∷ []

-- what is reported of a finished switch is these texts, if the selection is what the options say
abbrev pub AreTracesOf : TraceOptions → Run → List (List ℕ) → Type 0
AreTracesOf options r texts =
    (selection : Selection) × (selection.links.now ≡ options.links.items) × (selection.relative ≡ options.relative) × (texts ≡ trace_texts selection r)

-- the files hold a table and captures, and this is the finished switch of them; over a checked table the headline holds of it
pub record TracesTo (paths : Paths) (files : Option Files) (s : State) : Type 0 where
  pub table : Content
  pub captures : List Text
  pub has_plan : HasPlan files (inputs_of paths) table
  pub has_captures : HasCaptures files paths.input.now table captures
  pub is_done : IsDoneOf (not paths.unchecked) table captures s
  pub isolated : paths.unchecked ≡ false → IsIsolatedRun s.run

-- the files lead to these two texts
abbrev pub IsTraceIn : Paths → TraceOptions → Option Files → List (List ℕ) → Type 0
IsTraceIn paths options files texts = (s : State) × TracesTo paths files s × AreTracesOf options s.run texts

-- the two texts of a trace were put
abbrev pub PutsTrace : Paths → TraceOptions → Option Files → Option Files → Type 0
PutsTrace paths options old new = (texts : List (List ℕ)) × IsTraceIn paths options old texts × PutsFiles old new (trace_names paths.output.now) texts

-- the texts of a trace were put as far as those before this name
abbrev pub StopsTrace : List ℕ → Paths → TraceOptions → Option Files → Option Files → Type 0
StopsTrace name paths options old new =
    (texts : List (List ℕ)) × IsTraceIn paths options old texts × StopsAt name (trace_names paths.output.now) texts old new

-- the texts of a trace were not put, since this name failed
abbrev pub EndsTrace : List ℕ → Paths → TraceOptions → Option Files → Option Files → DeviceLog → DeviceLog → Type 0
EndsTrace name paths options old new before after =
    (texts : List (List ℕ)) × IsTraceIn paths options old texts × EndsAt name (trace_names paths.output.now) texts old new before after

-- the texts of a trace were not put
abbrev pub FailsToTrace : Failure → Paths → TraceOptions → Option Files → Option Files → DeviceLog → DeviceLog → Type 0
FailsToTrace f paths options old new before after =
    FailsToEnd (λ name. EndsTrace name paths options old new before after) (λ name. StopsTrace name paths options old new) f paths old new before after
