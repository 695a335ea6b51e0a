-- What is reported of the jitters that the rows of a network need (profile).
use Rattle.std.specs.Prelude.{◌≡◌, ◌≢◌, ℕ, ◌+◌, List, [], ◌∷◌, Option, None, Ok, Err}
use Rattle.std.specs.Option.{option_or}
use Rattle.afdx_table.specs.declared.rows.PortRow.{PortRow}
use Rattle.afdx_table.specs.Link.{Link}
use Rattle.afdx_table.specs.Content.{Content}
use Rattle.afdx_load.specs.Load.{load_of}
use Rattle.afdx_account.specs.Policing.{parts}
use Rattle.afdx_load.specs.Accepted.{past}
use Rattle.afdx_load.specs.declared.fault.Rule.TheVariants.{Rate}
use Rattle.afdx_load.specs.declared.fault.LoadFault.{LoadFault}
use Rattle.afdx_network_check.specs.Net.{Network}
use Rattle.afdx_network_check.specs.Order.{Answer, load_fits, lost_latency, misfit}
use Rattle.afdx_wiring.specs.Refusal.{◌>>=◌}
use Rattle.afdx_network_check.specs.Needs.{AreNeeds}
use Rattle.afdx_wiring.specs.declared.fault.Short.{Short}
use Rattle.afdx_wiring.specs.declared.fault.NetworkFault.{NetworkFault}
use Rattle.afdx_wiring.specs.declared.fault.NetworkFault.TheVariants as fault
use Rattle.afdx_network_check.specs.declared.jitters.RowNeed.{RowNeed}
use Rattle.afdx_network_report.specs.Lines.{Names, jitter_text}
use Rattle.afdx_network_report.specs.Rows.{needs_rows}
use Rattle.afdx_csv.specs.declared.form.Form.{Form}
use Rattle.afdx_csv.specs.declared.form.Form.TheVariants.{Lines, Csv}
use Rattle.afdx_messages.specs.declared.failure.Failure.{Failure}
use Rattle.afdx_folder.specs.Files.{Files}
use Rattle.afdx_serve.specs.Networks.{names_of, HasNetwork, IsRefused}

-- the fault of a port whose links ask for more than its line: the one rule of loads that no jitter bears on
abbrev pub rate_fault : ℕ → List Link → PortRow → Option LoadFault
rate_fault latency links row = past row.id Rate parts (load_of latency row.speed row.id links).rate

-- the fault of the first port whose links ask for more than its line
abbrev pub first_rate_fault : ℕ → List Link → List PortRow → Option LoadFault
first_rate_fault latency links [] = None
first_rate_fault latency links (row ∷ rows) = option_or (rate_fault latency links row) (first_rate_fault latency links rows)

-- no port's links ask for more than its line, by switch, of which n come before these
abbrev pub rates_fit : ℕ → List Content → Answer
rates_fit n [] = Ok tt
rates_fit n (t ∷ ts) = load_fits n (first_rate_fault t.latency t.links t.ports) >>= λ _. rates_fit (n + 1) ts

-- the first refusal of a network whose jitters are not judged
unfoldable pub fit_of : Network → Answer
fit_of net = do
  latencies ← lost_latency net 0 net.tables
  rates ← rates_fit 0 net.tables
  misfit net

-- the rates or the tables of a network were not accepted
abbrev pub FailsToFit : Failure → Network → Type 0
FailsToFit f net = (e : NetworkFault) × (e ≢ fault.Memory → fit_of net ≡ Err e) × IsRefused (names_of net.layout.switches) e f

-- what is written of the jitters that rows need
abbrev pub needs_text : Form → Names → List RowNeed → List ℕ
needs_text Lines = jitter_text
needs_text Csv = needs_rows

-- the file's network fits, so that jitters are asked for: these are what its rows need, and the first that is past what a table can
-- have; this text lists them
pub record JittersAre (form : Form) (files : Option Files) (path : List ℕ) (net : Network) (rows : List RowNeed) (past : Option Short) (text : List ℕ) : Type 0 where
  pub has_network : HasNetwork files path net
  pub fits : fit_of net ≡ Ok tt
  pub needs : AreNeeds net rows past
  pub reported : text ≡ needs_text form (names_of net.layout.switches) rows

-- `network jitter` reports this, whether one is past that or not
abbrev pub GivesJittersTo : Form → List ℕ → Option Files → List ℕ → Type 0
GivesJittersTo form path files text = (net : Network) × (rows : List RowNeed) × (past : Option Short) × JittersAre form files path net rows past text
