-- A network's run: what it is made over, what that leads to, and its failures.
use Rattle.std.specs.Prelude.{◌≡◌, ℕ, Bool, true, false, List, map, Option, string_bytes}
use Rattle.afdx_session.specs.Texts.{Text}
use Rattle.afdx_session.specs.Outcome.{Results}
use Rattle.afdx_wiring.specs.declared.layout.End.{End}
use Rattle.afdx_network_check.specs.Net.{Network}
use Rattle.afdx_network.specs.Runs.{Given, IsRunOf, IsUncheckedRunOf}
use Rattle.afdx_network.specs.Given.{open_ends, AreGiven}
use Rattle.afdx_network.specs.Outage.{given_up, AreComing}
use Rattle.afdx_network.specs.declared.outage.Incoming.{Incoming}
use Rattle.afdx_network.specs.declared.fault.NetworkRunFault.{NetworkRunFault}
use Rattle.afdx_network.specs.declared.fault.NetworkRunFault.TheVariants as run
use Rattle.afdx_network_report.specs.Lines.{Names, name_of}
use Rattle.afdx_messages.specs.declared.network_failure.NetworkFailure.TheVariants as network
use Rattle.afdx_messages.specs.declared.failure.Failure.{Failure}
use Rattle.afdx_messages.specs.declared.failure.Failure.TheVariants as failure
use Rattle.afdx_folder.specs.Files.{Files}
use Rattle.afdx_serve.specs.declared.network_plan.NetworkPlan.{NetworkPlan}
use Rattle.afdx_serve.specs.declared.network_plan.NetworkPlan.TheVariants.{Unchecked, Accepted}
use Rattle.afdx_serve.specs.Runs.{capture_name}
use Rattle.afdx_serve.specs.Networks.{names_of}
use Rattle.afdx_serve.specs.NetworkRuns.{switch_folder, HasGiven}
use Rattle.afdx_serve.specs.Inner.Leading.{AreOpened}

-- the network that a plan holds
abbrev pub network_in : NetworkPlan → Network
network_in (Unchecked net) = net
network_in (Accepted net) = net

-- whether it was accepted
abbrev pub is_accepted : NetworkPlan → Bool
is_accepted (Unchecked net) = false
is_accepted (Accepted net) = true

-- what was given leads to this; of an accepted network the headline of each switch holds
abbrev pub HasRun : NetworkPlan → Given → List Results → Type 0
HasRun plan given left =
    (came : List (List Text)) × IsUncheckedRunOf (network_in plan) given came left × (is_accepted plan ≡ true → IsRunOf (network_in plan) given came left)

-- the captures of a folder lead to this; those of a switch that is down do not come in
pub record LeadsFrom (files : Option Files) (path : List ℕ) (plan : NetworkPlan) (left : List Results) : Type 0 where
  pub given : Given
  pub has_given : HasGiven files path (names_of (network_in plan).layout.switches) given
  pub are_given : AreGiven (network_in plan) given
  pub led : HasRun plan (given_up (network_in plan).layout given) left

-- the names of the captures of these ports in a folder, each in that of its switch
abbrev pub end_names : List ℕ → Names → List End → List (List ℕ)
end_names path names ends = map (λ e. capture_name (switch_folder path (name_of names e.switch)) e.port) ends

-- these are the names of the captures of the ports to which no wire goes, and this comes in there
pub record AreOpenedEnds {R : Type 0} (remaining : R → Option (List ℕ)) (files : Option Files) (path : List ℕ) (net : Network) (names : List (List ℕ)) (all : List (Incoming R)) : Type 0 where
  pub readers : List R
  pub named : names ≡ end_names path (names_of net.layout.switches) (open_ends net)
  pub opened : AreOpened remaining files names readers
  pub come : AreComing remaining net.layout (open_ends net) readers all

-- the failure of a fault of what is given for the switch at a place among these names; or memory
abbrev pub IsGivenFailure : Names → Failure → NetworkRunFault → Type 0
IsGivenFailure names (failure.Network (network.Capture at reason name)) (run.Capture switch port why) = (at ≡ port) × (reason ≡ why) × (string_bytes name ≡ name_of names switch)
IsGivenFailure names (failure.Network (network.Line at which name)) (run.Line switch port number) = (at ≡ port) × (which ≡ number) × (string_bytes name ≡ name_of names switch)
IsGivenFailure names failure.Memory why = Unit {0}
IsGivenFailure names _ why = ⊥
