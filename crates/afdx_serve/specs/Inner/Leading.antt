-- What the files of a run lead to, in parts: its plan, readers of its captures, and new files for its outputs.
use Rattle.std.specs.Prelude.{Bool, not, false, ◌≡◌, ◌⊎◌, ℕ, List, length, slice_get, Option, Some, Ok, Err}
use Rattle.afdx_table.specs.Content.{Content}
use Rattle.afdx_table.specs.Text.{table_of}
use Rattle.afdx_load.specs.Accepted.{IsAccepted, first_fault}
use Rattle.afdx_count.specs.Tally.{Tally}
use Rattle.afdx_session.specs.Texts.{Text}
use Rattle.afdx_session.specs.declared.plan.Plan.{Plan}
use Rattle.afdx_session.specs.Outcome.{Results, table_in, is_cleared, IsOutcome}
use Rattle.afdx_arguments.specs.declared.request.Paths.{Paths}
use Rattle.afdx_messages.specs.declared.failure.Failure.{Failure}
use Rattle.afdx_messages.specs.declared.failure.Failure.TheVariants as failure
use Rattle.afdx_folder.specs.Files.{Files, IsOpened, DeviceLog}
use Rattle.afdx_serve.specs.Runs.{HasCaptures, LeadsTo, port_names, names_in, bytes_of_captures, FailsToGetAll, FailsToLead}
use Rattle.afdx_serve.specs.Inner.Outputs.{HaveBytes}

-- ---- a plan

-- the plan is over the table of this text, which is accepted unless the run is unchecked
pub record IsPlanOf (text : List ℕ) (unchecked : Bool) (plan : Plan) : Type 0 where
  pub is_table : table_of text ≡ Ok (table_in plan)
  pub cleared : is_cleared plan ≡ not unchecked
  pub accepted : unchecked ≡ false → IsAccepted (table_in plan)

-- a text has no such plan
abbrev pub FailsToReadPlan : Failure → List ℕ → Bool → Type 0
FailsToReadPlan (failure.Table refusal) text unchecked = table_of text ≡ Err refusal
FailsToReadPlan (failure.Load fault) text unchecked =
    (unchecked ≡ false) × ((t : Content) × (table_of text ≡ Ok t) × (first_fault t.latency t.links t.ports ≡ Some fault))
FailsToReadPlan failure.Memory text unchecked = Unit {0}
FailsToReadPlan _ text unchecked = ⊥

-- ---- captures

-- each reader has the bytes that are under the name at its place
pub record AreOpened {R : Type 0} (remaining : R → Option (List ℕ)) (files : Option Files) (names : List (List ℕ)) (readers : List R) : Type 0 where
  pub many : length readers ≡ length names
  pub each : (place : ℕ) (reader : R) (name : List ℕ) → slice_get readers place ≡ Some reader → slice_get names place ≡ Some name → IsOpened files name (remaining reader)

-- these are the names of the captures of the table's ports in a folder, by rising number, and these their readers
pub record AreOpenedPorts {R : Type 0} (remaining : R → Option (List ℕ)) (files : Option Files) (path : List ℕ) (t : Content) (names : List (List ℕ)) (readers : List R) : Type 0 where
  pub named : names ≡ port_names path t
  pub opened : AreOpened remaining files names readers

-- ---- new files

-- the outcome of these captures is in new files, and these are its counts
pub record IsInFiles {N : Type 0} (contents : N → Option (List ℕ)) (shown : Option Files) (t : Content) (texts : List Text) (files : List N) (counts : Tally) : Type 0 where
  pub results : Results
  pub outcome : IsOutcome t texts results
  pub have : HaveBytes contents shown files (bytes_of_captures results.captures)
  pub counted : counts ≡ results.counts

-- captures were not got, or lead to nothing
abbrev pub FailsToLeadFrom : Failure → Option Files → List ℕ → Content → DeviceLog → DeviceLog → Type 0
FailsToLeadFrom f files path t before after =
    FailsToGetAll f files path t before after ⊎ ((texts : List Text) × HasCaptures files path t texts × FailsToLead f t texts × (after ≡ before))

-- what the files of a run lead to is in these new files, which are to be put under these names, and these are its counts
pub record IsLed {N : Type 0} (contents : N → Option (List ℕ)) (paths : Paths) (shown : Option Files) (files : List N) (names : List (List ℕ)) (counts : Tally) : Type 0 where
  pub results : Results
  pub leads : LeadsTo paths shown results
  pub named : names ≡ names_in paths.output.now results.captures
  pub many : length (bytes_of_captures results.captures) ≡ length names
  pub have : HaveBytes contents shown files (bytes_of_captures results.captures)
  pub counted : counts ≡ results.counts
