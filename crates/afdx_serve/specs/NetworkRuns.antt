-- What a run of a network does to a folder.
use Rattle.std.specs.Prelude.{Bool, false, ◌≡◌, ◌⊎◌, ℕ, ◌+◌, codes, List, [], ◌∷◌, ◌++◌, map, filter, flat_map, take, slice_get, Option, Some, string_bytes}
use Rattle.afdx_table.specs.Content.{Content}
use Rattle.afdx_count.specs.Tally.{Tally}
use Rattle.afdx_count.specs.Report.{report_of as counts_text}
use Rattle.afdx_session.specs.Texts.{Text}
use Rattle.afdx_session.specs.Outcome.{Results}
use Rattle.afdx_network_check.specs.Net.{Network}
use Rattle.afdx_network_check.specs.Rules.{IsAcceptedNetwork}
use Rattle.afdx_network.specs.Runs.{Given, IsRunOf, IsUncheckedRunOf}
use Rattle.afdx_network.specs.Given.{is_open, AreGiven, IsUncheckedRefusal}
use Rattle.afdx_network.specs.Outage.{given_up}
use Rattle.afdx_network.specs.Way.{Stage, Leg, IsDelivered}
use Rattle.afdx_network.specs.Ways.{IsWayIn}
use Rattle.afdx_network.specs.declared.fault.NetworkRunFault.TheVariants as run
use Rattle.afdx_network_report.specs.Lines.{Names, name_of, report_of}
use Rattle.afdx_csv.specs.declared.form.Form.{Form}
use Rattle.afdx_csv.specs.declared.form.Form.TheVariants.{Lines, Csv}
use Rattle.afdx_rows.specs.Counts.{network_run_columns, counts_rows}
use Rattle.afdx_arguments.specs.declared.request.NetworkPaths.{NetworkPaths}
use Rattle.afdx_messages.specs.declared.network_failure.NetworkFailure.TheVariants as network
use Rattle.afdx_messages.specs.declared.failure.Failure.{Failure}
use Rattle.afdx_messages.specs.declared.failure.Failure.TheVariants as failure
use Rattle.afdx_folder.specs.Files.{Files, ShowsAll, KeepsFiles, DeviceLog}
use Rattle.afdx_serve.specs.Checks.{heading_in}
use Rattle.afdx_serve.specs.Runs.{capture_name, names_in, bytes_of_captures, WasNotRead, StopsAt, EndsAt}
use Rattle.afdx_serve.specs.Networks.{names_of, HasNetwork, FailsToGetNetwork, FailsToAcceptNetwork}

-- ---- names

-- profile: the captures of a switch are in the folder of its name
abbrev pub switch_folder : List ℕ → List ℕ → List ℕ
switch_folder folder name = folder ++ codes "/" ++ name

-- the names of these captures, each switch's in its own folder
abbrev pub names_at : List ℕ → Names → List (List Text) → List (List ℕ)
names_at path (name ∷ names) (texts ∷ more) = names_in (switch_folder path name) texts ++ names_at path names more
names_at path _ _ = []

-- the bytes of all captures, by switch and then by port
abbrev pub bytes_at : List (List Text) → List (List ℕ)
bytes_at all = flat_map bytes_of_captures all

-- the captures that the switches led to
abbrev pub captures_of : List Results → List (List Text)
captures_of left = map (λ r. r.captures) left

-- what is said of each switch, by its name
abbrev pub of_switches : (List ℕ → Results → List ℕ) → Names → List Results → List ℕ
of_switches said (name ∷ names) (r ∷ more) = said name r ++ of_switches said names more
of_switches said _ _ = []

-- the counts of the switch of this name, in a form: its report, with its name before each line, or its rows under these columns
abbrev pub counts_of : Form → (columns : List (List ℕ)) → (name : List ℕ) → Tally → List ℕ
counts_of Lines columns name counts = report_of name (counts_text counts)
counts_of Csv columns name counts = counts_rows columns name counts

-- what is written of all switches
abbrev pub runs_text : Form → Names → List Results → List ℕ
runs_text form names left = heading_in form network_run_columns ++ of_switches (λ name r. counts_of form network_run_columns name r.counts) names left

-- ---- what the files lead to

-- these captures were given, one for each port of each switch to which no wire goes
abbrev pub HasGiven : Option Files → List ℕ → Names → Given → Type 0
HasGiven files path names given = ShowsAll files (names_at path names given) (bytes_at given)

-- what is promised of a run of an accepted network: the headline of each switch, and that each way delivers
pub record IsPromised (net : Network) (given : Given) (came : List (List Text)) (left : List Results) : Type 0 where
  pub accepted : IsAcceptedNetwork net
  pub is_run : IsRunOf net given came left
  pub delivered : (x : Stage) (legs : List Leg) → IsWayIn net is_run.runs x legs → IsDelivered x legs

-- the files hold a network, accepted unless the run is unchecked, and captures, which lead to this; those of a switch that is down do not
-- come in
pub record LeadsToNetwork (paths : NetworkPaths) (files : Option Files) (net : Network) (left : List Results) : Type 0 where
  pub given : Given
  pub came : List (List Text)
  pub has_network : HasNetwork files paths.network.now net
  pub has_given : HasGiven files paths.input.now (names_of net.layout.switches) given
  pub are_given : AreGiven net given
  pub led : IsUncheckedRunOf net (given_up net.layout given) came left
  pub promised : paths.unchecked ≡ false → IsPromised net (given_up net.layout given) came left

-- ---- why they lead to nothing, and the failures before and after

-- the names of the captures of the ports to which no wire goes, by switch, of which n come before these
abbrev pub open_names : List ℕ → Names → Network → ℕ → List Content → List (List ℕ)
open_names path (name ∷ names) net n (t ∷ ts) =
    map (capture_name (switch_folder path name)) (filter (is_open net n) (map (λ p. p.id) t.ports)) ++ open_names path names net (n + 1) ts
open_names path _ net n _ = []

-- the name is that of a given capture, and those before it were got
pub record GetsGiven (name : List ℕ) (files : Option Files) (path : List ℕ) (net : Network) : Type 0 where
  pub place : ℕ
  pub got : List (List ℕ)
  pub is_there : slice_get (open_names path (names_of net.layout.switches) net 0 net.tables) place ≡ Some name
  pub earlier : ShowsAll files (take place (open_names path (names_of net.layout.switches) net 0 net.tables)) got

-- not all captures of a network's run were got, or they lead to nothing
abbrev pub FailsToGetGiven : Failure → Option Files → List ℕ → Network → DeviceLog → DeviceLog → Type 0
FailsToGetGiven (failure.Get name) files path net before after = GetsGiven (string_bytes name) files path net × WasNotRead (string_bytes name) before after
FailsToGetGiven failure.Memory files path net before after = Unit {0}
FailsToGetGiven (failure.Network (network.Capture port why name)) files path net before after =
    ((given : Given) × (switch : ℕ) × HasGiven files path (names_of net.layout.switches) given × IsUncheckedRefusal net (given_up net.layout given) (run.Capture switch port why)
    × (string_bytes name ≡ name_of (names_of net.layout.switches) switch)) × (after ≡ before)
FailsToGetGiven (failure.Network (network.Line port number name)) files path net before after =
    ((given : Given) × (switch : ℕ) × HasGiven files path (names_of net.layout.switches) given × IsUncheckedRefusal net (given_up net.layout given) (run.Line switch port number)
    × (string_bytes name ≡ name_of (names_of net.layout.switches) switch)) × (after ≡ before)
FailsToGetGiven _ files path net before after = ⊥

-- a network was not accepted for a run, which is not unchecked
abbrev pub FailsToPlanNetwork : Failure → Bool → Network → Type 0
FailsToPlanNetwork f unchecked net = (unchecked ≡ false) × FailsToAcceptNetwork f net

-- the files of a network and of a folder lead to no run
abbrev pub FailsToLeadFrom : Failure → (network : List ℕ) → (unchecked : Bool) → (input : List ℕ) → Option Files → DeviceLog → DeviceLog → Type 0
FailsToLeadFrom f network unchecked input files before after =
    FailsToGetNetwork f files network before after
    ⊎ ((net : Network) × HasNetwork files network net
    × ((FailsToPlanNetwork f unchecked net × (after ≡ before))
    ⊎ ((unchecked ≡ false → IsAcceptedNetwork net) × FailsToGetGiven f files input net before after)))

-- the files that a command names lead to no run
abbrev pub FailsToLeadNetwork : Failure → NetworkPaths → Option Files → DeviceLog → DeviceLog → Type 0
FailsToLeadNetwork f paths files before after = FailsToLeadFrom f paths.network.now paths.unchecked paths.input.now files before after

-- the captures of a network's run were put as far as those before this name
abbrev pub StopsNetwork : List ℕ → NetworkPaths → Option Files → Option Files → Type 0
StopsNetwork name paths old new =
    (net : Network) × (left : List Results) × LeadsToNetwork paths old net left
    × StopsAt name (names_at paths.output.now (names_of net.layout.switches) (captures_of left)) (bytes_at (captures_of left)) old new

-- the captures of a network's run were not put, since this name failed
abbrev pub EndsNetwork : List ℕ → NetworkPaths → Option Files → Option Files → DeviceLog → DeviceLog → Type 0
EndsNetwork name paths old new before after =
    (net : Network) × (left : List Results) × LeadsToNetwork paths old net left
    × EndsAt name (names_at paths.output.now (names_of net.layout.switches) (captures_of left)) (bytes_at (captures_of left)) old new before after

-- the captures of a network's run were not put
abbrev pub FailsToPutNetwork : Failure → NetworkPaths → Option Files → Option Files → DeviceLog → DeviceLog → Type 0
FailsToPutNetwork (failure.Put name) paths old new before after = EndsNetwork (string_bytes name) paths old new before after
FailsToPutNetwork failure.Memory paths old new before after = KeepsFiles old new ⊎ ((name : List ℕ) × StopsNetwork name paths old new)
FailsToPutNetwork f paths old new before after = FailsToLeadNetwork f paths old before after × KeepsFiles old new
