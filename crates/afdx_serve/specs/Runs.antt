-- What a run does to a folder.
use Rattle.std.specs.Prelude.{Bool, false, not, ◌≡◌, ◌⊎◌, ℕ, codes, List, ◌++◌, map, length, take, slice_get, Option, Some, Ok, Err, string_bytes}
use Rattle.std.specs.Fmt.{decimal}
use Rattle.afdx_table.specs.declared.fault.TableFault.{TableFault}
use Rattle.afdx_table.specs.Content.{Content}
use Rattle.afdx_table.specs.Text.{table_of}
use Rattle.afdx_load.specs.Accepted.{IsAccepted, first_fault}
use Rattle.afdx_session.specs.Texts.{Text, AreOfPorts}
use Rattle.afdx_session.specs.Reading.{IsFirstFault}
use Rattle.afdx_session.specs.declared.plan.Plan.{Plan}
use Rattle.afdx_session.specs.Outcome.{Results, table_in, is_cleared, IsOutcome}
use Rattle.afdx_session.specs.Headline.{IsIsolated}
use Rattle.afdx_arguments.specs.declared.request.Paths.{Paths}
use Rattle.afdx_arguments.specs.declared.request.Inputs.{Inputs}
use Rattle.afdx_messages.specs.declared.failure.Failure.{Failure}
use Rattle.afdx_messages.specs.declared.failure.Failure.TheVariants as failure
use Rattle.afdx_folder.specs.Files.{Files, Shows, ShowsAll, KeepsFiles, KeepsOthers, PutsFiles, DeviceLog, one_more, one_unread, settled_after}

-- ---- names

-- profile: the name of a port's capture in a folder
abbrev pub capture_name : List ℕ → ℕ → List ℕ
capture_name folder port = folder ++ codes "/port-" ++ decimal port ++ codes ".pcap"

-- the names of these captures in a folder
abbrev pub names_in : List ℕ → List Text → List (List ℕ)
names_in folder captures = map (λ c. capture_name folder c.0) captures

-- the bytes of these captures
abbrev pub bytes_of_captures : List Text → List (List ℕ)
bytes_of_captures captures = map (λ c. c.1) captures

-- ---- what is got

-- the file is the text of this table
abbrev pub HasTable : Option Files → List ℕ → Content → Type 0
HasTable files path t = (text : List ℕ) × Shows files path text × (table_of text ≡ Ok t)

-- the file is the text of a table with this first refusal
abbrev pub HasNoTable : Option Files → List ℕ → TableFault → Type 0
HasNoTable files path refusal = (text : List ℕ) × Shows files path text × (table_of text ≡ Err refusal)

-- what a run is made of, beside where it goes
abbrev pub inputs_of : Paths → Inputs
inputs_of paths = record { table = paths.table; input = paths.input; unchecked = paths.unchecked }

-- the file is the text of this table, which is accepted unless the run is unchecked
abbrev pub HasPlan : Option Files → Inputs → Content → Type 0
HasPlan files inputs t = HasTable files inputs.table.now t × (inputs.unchecked ≡ false → IsAccepted t)

-- these are the captures of the table's ports in the folder
abbrev pub HasCaptures : Option Files → List ℕ → Content → List Text → Type 0
HasCaptures files path t captures = AreOfPorts t captures × ShowsAll files (names_in path captures) (bytes_of_captures captures)

-- the files hold a table and captures, which lead to this
pub record LeadsTo (paths : Paths) (files : Option Files) (results : Results) : Type 0 where
  pub table : Content
  pub captures : List Text
  pub has_plan : HasPlan files (inputs_of paths) table
  pub has_captures : HasCaptures files paths.input.now table captures
  pub outcome : IsOutcome table captures results
  -- the headline, of what is put: no link disturbs another, none is lost, each is in time
  pub isolated : paths.unchecked ≡ false → IsIsolated table captures results

-- the files hold a table and captures of its ports: what is planned, and what it is to run over
pub record IsRunOf (inputs : Inputs) (files : Option Files) (plan : Plan) (captures : List Text) : Type 0 where
  pub has_plan : HasPlan files inputs (table_in plan)
  pub cleared : is_cleared plan ≡ not inputs.unchecked
  pub has_captures : HasCaptures files inputs.input.now (table_in plan) captures

-- the names of the captures of a table's ports in a folder, by rising number
abbrev pub port_names : List ℕ → Content → List (List ℕ)
port_names path t = map (λ p. capture_name path p.id) t.ports

-- the name is that of a port's capture, and the captures of the ports before it were got; nothing is said of what is under it
pub record GetsUpTo (name : List ℕ) (files : Option Files) (path : List ℕ) (t : Content) : Type 0 where
  pub place : ℕ
  pub got : List (List ℕ)
  pub is_there : slice_get (port_names path t) place ≡ Some name
  pub earlier : ShowsAll files (take place (port_names path t)) got

-- the name is one of these, and those before it were got
pub record GetsNamed (name : List ℕ) (files : Option Files) (names : List (List ℕ)) : Type 0 where
  pub place : ℕ
  pub got : List (List ℕ)
  pub is_there : slice_get names place ≡ Some name
  pub earlier : ShowsAll files (take place names) got

-- ---- what is put

-- the files before this name were put, in order; nothing is said of what is under it, and nothing else has changed
pub record StopsAt (name : List ℕ) (names all : List (List ℕ)) (old new : Option Files) : Type 0 where
  pub place : ℕ
  pub before : Option Files
  pub is_there : slice_get names place ≡ Some name
  pub earlier : PutsFiles old before (take place names) (take place all)
  pub others : KeepsOthers before new name

-- the device has not taken the new file of this name, but those of the names before it
abbrev pub StopsSettling : List ℕ → List (List ℕ) → DeviceLog → DeviceLog → Type 0
StopsSettling name names before after = (place : ℕ) × (slice_get names place ≡ Some name) × (after ≡ one_more name (settled_after place before))

-- this name failed: the device has not taken its new file, and no file has changed; or the device has taken the new files of all
-- names, and the files before it were put
abbrev pub EndsAt : List ℕ → List (List ℕ) → List (List ℕ) → Option Files → Option Files → DeviceLog → DeviceLog → Type 0
EndsAt name names all old new before after =
    (StopsSettling name names before after × KeepsFiles old new)
    ⊎ (StopsAt name names all old new × (after ≡ one_more name (settled_after (length names) before)))

-- ---- why something was not done, and the failures before and after

-- a file was not got
abbrev pub FailsToGet : Failure → List ℕ → DeviceLog → DeviceLog → Type 0
FailsToGet (failure.Get name) path before after = (string_bytes name ≡ path) × (after ≡ one_more path before)
FailsToGet failure.Memory path before after = Unit {0}
FailsToGet _ path before after = ⊥

-- a table was not read
abbrev pub FailsToRead : Failure → Option Files → List ℕ → DeviceLog → DeviceLog → Type 0
FailsToRead (failure.Table refusal) files path before after = HasNoTable files path refusal × (after ≡ before)
FailsToRead f files path before after = FailsToGet f path before after

-- a capture was not opened, or what was opened could not be read
abbrev pub WasNotRead : List ℕ → DeviceLog → DeviceLog → Type 0
WasNotRead name before after = (after ≡ one_more name before) ⊎ (after ≡ one_unread name before)

-- not all captures of the table's ports were got: the first that failed is reported
abbrev pub FailsToGetAll : Failure → Option Files → List ℕ → Content → DeviceLog → DeviceLog → Type 0
FailsToGetAll (failure.Get name) files path t before after = GetsUpTo (string_bytes name) files path t × WasNotRead (string_bytes name) before after
FailsToGetAll failure.Memory files path t before after = Unit {0}
FailsToGetAll _ files path t before after = ⊥

-- the load of a table was not accepted for a run, which is not unchecked
abbrev pub FailsToPlan : Failure → Bool → Content → Type 0
FailsToPlan (failure.Load fault) unchecked t = (unchecked ≡ false) × (first_fault t.latency t.links t.ports ≡ Some fault)
FailsToPlan _ unchecked t = ⊥

-- captures lead to nothing
abbrev pub FailsToLead : Failure → Content → List Text → Type 0
FailsToLead (failure.PortCapture port fault) t captures = IsFirstFault captures port fault
FailsToLead failure.Memory t captures = Unit {0}
FailsToLead _ t captures = ⊥

-- the files lead to nothing
abbrev pub FailsToGather : Failure → Inputs → Option Files → DeviceLog → DeviceLog → Type 0
FailsToGather (failure.Table refusal) inputs files before after = HasNoTable files inputs.table.now refusal × (after ≡ before)
FailsToGather (failure.Get name) inputs files before after =
    FailsToGet (failure.Get name) inputs.table.now before after
    ⊎ ((t : Content) × HasPlan files inputs t × FailsToGetAll (failure.Get name) files inputs.input.now t before after)
FailsToGather (failure.PortCapture port fault) inputs files before after =
    (t : Content) × (captures : List Text) × HasPlan files inputs t × HasCaptures files inputs.input.now t captures
    × IsFirstFault captures port fault × (after ≡ before)
FailsToGather (failure.Load fault) inputs files before after =
    (inputs.unchecked ≡ false) × ((t : Content) × HasTable files inputs.table.now t × (first_fault t.latency t.links t.ports ≡ Some fault) × (after ≡ before))
FailsToGather failure.Memory inputs files before after = Unit {0}
FailsToGather _ inputs files before after = ⊥

-- a file was not put
abbrev pub FailsToPutOne : Failure → List ℕ → DeviceLog → DeviceLog → Type 0
FailsToPutOne (failure.Put name) path before after = (string_bytes name ≡ path) × (after ≡ one_more path before)
FailsToPutOne failure.Memory path before after = Unit {0}
FailsToPutOne _ path before after = ⊥

-- not all was put
abbrev pub FailsToPut : Failure → List (List ℕ) → List (List ℕ) → Option Files → Option Files → DeviceLog → DeviceLog → Type 0
FailsToPut (failure.Put name) names all old new before after = EndsAt (string_bytes name) names all old new before after
FailsToPut failure.Memory names all old new before after = KeepsFiles old new ⊎ ((name : List ℕ) × StopsAt name names all old new)
FailsToPut _ names all old new before after = ⊥

-- ---- a whole run

-- the files lead to results, of which those before this name were put
abbrev pub StopsRun : List ℕ → Paths → Option Files → Option Files → Type 0
StopsRun name paths old new =
    (results : Results) × LeadsTo paths old results × StopsAt name (names_in paths.output.now results.captures) (bytes_of_captures results.captures) old new

-- the files lead to results, and this name failed
abbrev pub EndsRun : List ℕ → Paths → Option Files → Option Files → DeviceLog → DeviceLog → Type 0
EndsRun name paths old new before after =
    (results : Results) × LeadsTo paths old results
    × EndsAt name (names_in paths.output.now results.captures) (bytes_of_captures results.captures) old new before after

-- what the files of a run lead to was not put; `Ends` says of a name that it failed, and `Stops` that the files before it were put
abbrev pub FailsToEnd : (List ℕ → Type 0) → (List ℕ → Type 0) → Failure → Paths → Option Files → Option Files → DeviceLog → DeviceLog → Type 0
FailsToEnd Ends Stops (failure.Put name) paths old new before after = Ends (string_bytes name)
FailsToEnd Ends Stops failure.Memory paths old new before after = KeepsFiles old new ⊎ ((name : List ℕ) × Stops name)
FailsToEnd Ends Stops f paths old new before after = FailsToGather f (inputs_of paths) old before after × KeepsFiles old new

-- the results of a run were not put
abbrev pub FailsToRun : Failure → Paths → Option Files → Option Files → DeviceLog → DeviceLog → Type 0
FailsToRun f paths old new before after =
    FailsToEnd (λ name. EndsRun name paths old new before after) (λ name. StopsRun name paths old new) f paths old new before after
