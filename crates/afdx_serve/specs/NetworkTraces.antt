-- What is put of what became of each frame at each switch of a network.
use Rattle.std.specs.Prelude.{◌≡◌, ◌⊎◌, ℕ, false, List, [], ◌∷◌, ◌++◌, length, map, flat_map, Option, string_bytes}
use Rattle.afdx_core.specs.State.{Run, State}
use Rattle.afdx_trace.specs.declared.shown.Selection.{Selection}
use Rattle.afdx_trace.specs.Arrivals.{arrivals_text}
use Rattle.afdx_trace.specs.Departures.{departures_text}
use Rattle.afdx_count.specs.Tally.{Tally}
use Rattle.afdx_network_check.specs.Net.{Network}
use Rattle.afdx_network_check.specs.Rules.{IsAcceptedNetwork}
use Rattle.afdx_origins.specs.Origins.{Origins}
use Rattle.afdx_network_report.specs.Lines.{Names}
use Rattle.afdx_network_trace.specs.First.{HaveFirstNumbers}
use Rattle.afdx_network_trace.specs.Column.{with_column}
use Rattle.afdx_arguments.specs.declared.request.NetworkPaths.{NetworkPaths}
use Rattle.afdx_messages.specs.declared.failure.Failure.{Failure}
use Rattle.afdx_messages.specs.declared.failure.Failure.TheVariants as failure
use Rattle.afdx_folder.specs.Files.{Files, PutsFiles, KeepsFiles, DeviceLog, settled_after}
use Rattle.afdx_serve.specs.Networks.{names_of, HasNetwork}
use Rattle.afdx_serve.specs.NetworkMeasures.{WatchesFrom}
use Rattle.afdx_serve.specs.NetworkRuns.{switch_folder, FailsToLeadFrom}
use Rattle.afdx_serve.specs.Runs.{StopsAt, EndsAt}
use Rattle.afdx_serve.specs.Traces.{trace_names}

-- the names of the two files of each switch, in its folder
abbrev pub network_trace_names : List ℕ → Names → List (List ℕ)
network_trace_names path names = flat_map (λ name. trace_names (switch_folder path name)) names

-- what is reported of finished switches: of all arrivals, with the numbers that their frames had at their first switches, and of all copies
abbrev pub switch_texts : Selection → List (Option ℕ) → Run → List (List ℕ)
switch_texts selection firsts r = with_column 0 firsts (arrivals_text selection r) ∷ departures_text selection r ∷ []

-- the texts of all switches, two for each
abbrev pub network_trace_texts : Selection → List (List (Option ℕ)) → List State → List (List ℕ)
network_trace_texts selection (firsts ∷ more) (s ∷ runs) = switch_texts selection firsts s.run ++ network_trace_texts selection more runs
network_trace_texts selection _ _ = []

-- all lines are shown, and stamps as they are
abbrev pub ShowsAllLines : Selection → Type 0
ShowsAllLines selection = (selection.links.now ≡ []) × (selection.relative ≡ false)

-- the files hold a network, accepted unless the run is unchecked, and captures, and these are the finished switches of their run
pub record TracesNetworkTo (paths : NetworkPaths) (files : Option Files) (net : Network) (switches : List (Tally × State)) : Type 0 where
  pub origins : Origins
  pub has_network : HasNetwork files paths.network.now net
  pub watched : WatchesFrom files paths.input.now net switches origins
  pub accepted : paths.unchecked ≡ false → IsAcceptedNetwork net

-- the files lead to these texts, two for each switch
pub record IsNetworkTraceIn (paths : NetworkPaths) (files : Option Files) (net : Network) (texts : List (List ℕ)) : Type 0 where
  pub switches : List (Tally × State)
  pub runs : List State
  pub firsts : List (List (Option ℕ))
  pub selection : Selection
  pub traces : TracesNetworkTo paths files net switches
  pub runs_are : runs ≡ map (λ (both : Tally × State). both.1) switches
  pub numbered : HaveFirstNumbers net runs firsts
  pub whole : ShowsAllLines selection
  pub texts_are : texts ≡ network_trace_texts selection firsts runs

-- the texts of a network's trace were put
abbrev pub PutsNetworkTrace : NetworkPaths → Option Files → Option Files → DeviceLog → DeviceLog → Type 0
PutsNetworkTrace paths old new before after =
    (net : Network) × (texts : List (List ℕ)) × IsNetworkTraceIn paths old net texts × PutsFiles old new (network_trace_names paths.output.now (names_of net.layout.switches)) texts
    × (after ≡ settled_after (length (network_trace_names paths.output.now (names_of net.layout.switches))) before)

-- the texts of a network's trace were put as far as those before this name
abbrev pub StopsNetworkTrace : List ℕ → NetworkPaths → Option Files → Option Files → Type 0
StopsNetworkTrace name paths old new =
    (net : Network) × (texts : List (List ℕ)) × IsNetworkTraceIn paths old net texts × StopsAt name (network_trace_names paths.output.now (names_of net.layout.switches)) texts old new

-- the texts of a network's trace were not put, since this name failed
abbrev pub EndsNetworkTrace : List ℕ → NetworkPaths → Option Files → Option Files → DeviceLog → DeviceLog → Type 0
EndsNetworkTrace name paths old new before after =
    (net : Network) × (texts : List (List ℕ)) × IsNetworkTraceIn paths old net texts
    × EndsAt name (network_trace_names paths.output.now (names_of net.layout.switches)) texts old new before after

-- the texts of a network's trace were not put
abbrev pub FailsToTraceNetwork : Failure → NetworkPaths → Option Files → Option Files → DeviceLog → DeviceLog → Type 0
FailsToTraceNetwork (failure.Put name) paths old new before after = EndsNetworkTrace (string_bytes name) paths old new before after
FailsToTraceNetwork failure.Memory paths old new before after = KeepsFiles old new ⊎ ((name : List ℕ) × StopsNetworkTrace name paths old new)
FailsToTraceNetwork f paths old new before after =
    FailsToLeadFrom f paths.network.now paths.unchecked paths.input.now old before after × KeepsFiles old new
