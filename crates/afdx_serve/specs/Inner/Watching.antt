-- What the run of a network is made over, of which nothing is put.
use Rattle.std.specs.Prelude.{◌≡◌, ◌++◌, ℕ, false, not, length, map, List, Option, Ok, string_bytes}
use Rattle.afdx_core.specs.State.{State}
use Rattle.afdx_count.specs.Tally.{Tally}
use Rattle.afdx_trace.specs.declared.shown.Selection.{Selection}
use Rattle.afdx_origins.specs.Origins.{Origins}
use Rattle.afdx_network_check.specs.Order.{misfit}
use Rattle.afdx_network_check.specs.Rules.{IsAcceptedNetwork}
use Rattle.afdx_network_check.specs.Net.{Network}
use Rattle.afdx_network.specs.Given.{NoneShareAPort}
use Rattle.afdx_arguments.specs.declared.request.NetworkInputs.{NetworkInputs}
use Rattle.afdx_folder.specs.Files.{Files}
use Rattle.afdx_network_report.specs.Lines.{Names}
use Rattle.afdx_csv.specs.declared.form.Form.{Form}
use Rattle.afdx_rows.specs.Spells.{network_survey_columns}
use Rattle.afdx_network_trace.specs.First.{HaveFirstNumbers}
use Rattle.afdx_serve.specs.declared.network_watched.Planned.{Planned}
use Rattle.afdx_serve.specs.declared.network_survey.Parts.{Parts}
use Rattle.afdx_serve.specs.Checks.{heading_in}
use Rattle.afdx_serve.specs.NetworkRuns.{counts_of}
use Rattle.afdx_serve.specs.NetworkMeasures.{buffers_of, spells_of, buffers_in, counts_in, policing_in, WatchesFrom}
use Rattle.afdx_serve.specs.NetworkTraces.{ShowsAllLines, network_trace_texts}
use Rattle.afdx_serve.specs.Networks.{names_of, HasNetwork}
use Rattle.afdx_serve.specs.Inner.NetworkRunning.{network_in, is_accepted}

-- the files hold a network, accepted unless the run is unchecked
pub record IsPlanned (inputs : NetworkInputs) (files : Option Files) (p : Planned) : Type 0 where
  pub has_network : HasNetwork files inputs.network.now (network_in p.plan)
  pub names : map string_bytes p.names.items ≡ names_of (network_in p.plan).layout.switches
  pub tables : length (network_in p.plan).tables ≡ length (network_in p.plan).layout.switches
  pub one_each : NoneShareAPort (network_in p.plan)
  pub chosen : is_accepted p.plan ≡ not inputs.unchecked
  pub accepted : inputs.unchecked ≡ false → IsAcceptedNetwork (network_in p.plan)
  pub kept : inputs.unchecked ≡ false → misfit (network_in p.plan) ≡ Ok tt

-- what is written of the switches has more of one: its counts, how full its buffers were, and when its links were policed
pub record HasPartsMore (form : Form) (name : List ℕ) (counts : Tally) (s : State) (old new : Parts) : Type 0 where
  pub counts_are : new.counts.items ≡ old.counts.items ++ counts_of form network_survey_columns name counts
  pub buffers : new.buffers.items ≡ old.buffers.items ++ buffers_of form network_survey_columns name s
  pub policing : new.policing.items ≡ old.policing.items ++ spells_of form name s

-- what is written of the switches is of these, their counts below a heading
pub record ArePartsOf (form : Form) (names : Names) (switches : List (Tally × State)) (p : Parts) : Type 0 where
  pub counts : p.counts.items ≡ heading_in form network_survey_columns ++ counts_in form names switches
  pub buffers : p.buffers.items ≡ buffers_in form network_survey_columns names switches
  pub policing : p.policing.items ≡ policing_in form names switches

-- the run over the captures of a folder came to finished switches that lead to these texts of a trace
pub record HasTraced (files : Option Files) (path : List ℕ) (net : Network) (texts : List (List ℕ)) : Type 0 where
  pub switches : List (Tally × State)
  pub origins : Origins
  pub firsts : List (List (Option ℕ))
  pub selection : Selection
  pub watched : WatchesFrom files path net switches origins
  pub numbered : HaveFirstNumbers net (map (λ (both : Tally × State). both.1) switches) firsts
  pub whole : ShowsAllLines selection
  pub texts_are : texts ≡ network_trace_texts selection firsts (map (λ (both : Tally × State). both.1) switches)

-- a network's run came to these counts and finished switches, and sent these copies, of which this is so
pub record HasMeasured (Says : List (Tally × State) → Origins → Type 0) (files : Option Files) (path : List ℕ) (net : Network) : Type 0 where
  pub switches : List (Tally × State)
  pub origins : Origins
  pub watched : WatchesFrom files path net switches origins
  pub says : Says switches origins
