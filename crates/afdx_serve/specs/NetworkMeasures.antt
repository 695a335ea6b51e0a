-- What is reported of the run of a network of which nothing is put (profile).
use Rattle.std.specs.Prelude.{◌≡◌, ℕ, ◌≤◌, false, not, Bool, true, List, [], ◌∷◌, ◌++◌, map, flat_map, Option, None, option_map, option_and_then, IfSome, All}
use Rattle.std.specs.List.Sorted.{IsPermutation, IsSorted}
use Rattle.afdx_core.specs.State.{State}
use Rattle.afdx_count.specs.Tally.{Tally}
use Rattle.afdx_measure.specs.declared.delays.Delays.{Delays}
use Rattle.afdx_measure.specs.Report.{port_line}
use Rattle.afdx_measure.specs.Policing.{policing_of}
use Rattle.afdx_session.specs.Texts.{Text}
use Rattle.afdx_session.specs.Outcome.{Results}
use Rattle.afdx_network_check.specs.declared.exit.Exit.{Exit}
use Rattle.afdx_network_check.specs.declared.ways.Way.{Way}
use Rattle.afdx_wiring.specs.Lines.{as_line}
use Rattle.afdx_network_check.specs.Net.{Network, ingress, row_at}
use Rattle.afdx_network_check.specs.Order.{most_rows, source_within}
use Rattle.afdx_network_check.specs.Rules.{IsAcceptedNetwork}
use Rattle.afdx_network_check.specs.Ways.{end_of, exits_of, by_link, AreWaysOf}
use Rattle.afdx_origins.specs.Origins.{Origins, IsSummary}
use Rattle.afdx_network.specs.Runs.{Given, IsUncheckedRunOf}
use Rattle.afdx_network.specs.Given.{AreGiven}
use Rattle.afdx_network.specs.Outage.{given_up}
use Rattle.afdx_network.specs.Watched.{AreEnded, HaveSent}
use Rattle.afdx_network_report.specs.Lines.{Names, report_of}
use Rattle.afdx_network_report.specs.declared.link_ends.LinkEnd.{LinkEnd}
use Rattle.afdx_network_report.specs.LinkEnds.{link_end_of, link_end_text}
use Rattle.afdx_network_report.specs.Rows.{link_end_row}
use Rattle.afdx_csv.specs.declared.form.Form.{Form}
use Rattle.afdx_csv.specs.declared.form.Form.TheVariants.{Lines, Csv}
use Rattle.afdx_rows.specs.Delays.{network_measure_columns, buffers_rows}
use Rattle.afdx_rows.specs.Spells.{network_survey_columns, policing_rows}
use Rattle.afdx_arguments.specs.declared.request.NetworkInputs.{NetworkInputs}
use Rattle.afdx_folder.specs.Files.{Files}
use Rattle.afdx_serve.specs.Checks.{heading_in}
use Rattle.afdx_serve.specs.Networks.{names_of, HasNetwork}
use Rattle.afdx_serve.specs.NetworkRuns.{counts_of, HasGiven}

-- ---- the ends of links

-- the end of an exit, of which nothing is promised: its frames come in where the way back from it ends
abbrev pub unchecked_end : Network → Exit → LinkEnd
unchecked_end net x = record {
  link = x.link;
  from = option_and_then (λ r. option_map ingress (source_within most_rows net r)) (row_at net x.switch x.link);
  to = end_of x;
  bounds = None;
}

-- the ends of links: of an accepted network those of its ways, of any other those of its exits; by link, then by switch and port
abbrev pub AreEndsOf : (accepted : Bool) → Network → List LinkEnd → Type 0
AreEndsOf true net ends = (ways : List Way) × AreWaysOf net ways × (ends ≡ map link_end_of ways)
AreEndsOf false net ends = (exits : List Exit) × IsPermutation (exits_of net) exits × IsSorted by_link exits × (ends ≡ map (unchecked_end net) exits)

-- what is said of ends, with the delays of the copies that were sent there
abbrev pub HaveEndTexts : (LinkEnd → Delays → List ℕ) → Origins → List LinkEnd → List ℕ → Type 0
HaveEndTexts said o [] text = text ≡ []
HaveEndTexts said o (e ∷ ends) text =
    (d : Delays) × (more : List ℕ) × IsSummary o.net o.sent e.link e.to d × HaveEndTexts said o ends more × (text ≡ said e d ++ more)

-- what is said of an end in a form: a line, or a row under these columns
abbrev pub end_text : Form → (columns : List (List ℕ)) → Names → LinkEnd → Delays → List ℕ
end_text Lines columns names e d = as_line (link_end_text names e d)
end_text Csv columns names e d = link_end_row columns names e d

-- what is said of these ends in a form, with the delays of the copies that were sent there
abbrev pub HaveEnds : Form → (columns : List (List ℕ)) → Names → Origins → List LinkEnd → List ℕ → Type 0
HaveEnds form columns names = HaveEndTexts (end_text form columns names)

-- no delay at the end of a link is greater than the most that is promised
abbrev pub IsWithinItsWay : Origins → LinkEnd → Type 0
IsWithinItsWay o e = (d : Delays) → IsSummary o.net o.sent e.link e.to d → IfSome d.range (λ range. IfSome e.bounds (λ bounds. range.greatest ≤ bounds.most))

-- ---- the switches

-- what is said of each switch, by its name
abbrev pub said_of : (List ℕ → Tally → State → List ℕ) → Names → List (Tally × State) → List ℕ
said_of said (name ∷ names) (both ∷ switches) = said name both.0 both.1 ++ said_of said names switches
said_of said _ _ = []

-- how full the buffers of the switch of this name were, in a form: lines, each after its name, or rows under these columns
abbrev pub buffers_of : Form → (columns : List (List ℕ)) → (name : List ℕ) → State → List ℕ
buffers_of Lines columns name s = report_of name (flat_map (port_line s.run) s.run.table.ports)
buffers_of Csv columns name s = buffers_rows columns name s.run

-- when the links of the switch of this name were policed and frames came, in a form
abbrev pub spells_of : Form → (name : List ℕ) → State → List ℕ
spells_of Lines name s = report_of name (policing_of s.run)
spells_of Csv name s = policing_rows name s.run

-- how full the buffers of all switches were
abbrev pub buffers_in : Form → (columns : List (List ℕ)) → Names → List (Tally × State) → List ℕ
buffers_in form columns = said_of (λ name counts s. buffers_of form columns name s)

-- the counts of all switches
abbrev pub counts_in : Form → Names → List (Tally × State) → List ℕ
counts_in form = said_of (λ name counts s. counts_of form network_survey_columns name counts)

-- when the links of all switches were policed, and when frames came
abbrev pub policing_in : Form → Names → List (Tally × State) → List ℕ
policing_in form = said_of (λ name counts s. spells_of form name s)

-- ---- the run

-- the run of a network over the captures of a folder, of which those of switches that are down do not come in, came to these counts and
-- finished switches, and sent these copies
pub record WatchesFrom (files : Option Files) (path : List ℕ) (net : Network) (switches : List (Tally × State)) (o : Origins) : Type 0 where
  pub given : Given
  pub came : List (List Text)
  pub left : List Results
  pub has_given : HasGiven files path (names_of net.layout.switches) given
  pub are_given : AreGiven net given
  pub led : IsUncheckedRunOf net (given_up net.layout given) came left
  pub ended : AreEnded net.tables came left switches
  pub sent : HaveSent net switches o

-- the run of the network of a file, which is accepted unless the run is unchecked, came to these
pub record IsMeasuredNetwork (inputs : NetworkInputs) (files : Option Files) (net : Network) (switches : List (Tally × State)) (o : Origins) : Type 0 where
  pub has_network : HasNetwork files inputs.network.now net
  pub watched : WatchesFrom files inputs.input.now net switches o
  pub accepted : inputs.unchecked ≡ false → IsAcceptedNetwork net

-- ---- the texts of a run, whatever it is over

-- what is measured of a network's run: what is said of the ends of links, and how full buffers were
pub record IsMeasuredText (form : Form) (columns : List (List ℕ)) (accepted : Bool) (net : Network) (names : Names) (switches : List (Tally × State)) (o : Origins) (text : List ℕ) : Type 0 where
  pub ends : List LinkEnd
  pub lines : List ℕ
  pub are_ends : AreEndsOf accepted net ends
  pub lines_are : HaveEnds form columns names o ends lines
  pub text_is : text ≡ lines ++ buffers_in form columns names switches

-- what `network measure` writes
pub record HasMeasuredText (form : Form) (accepted : Bool) (net : Network) (names : Names) (switches : List (Tally × State)) (o : Origins) (text : List ℕ) : Type 0 where
  pub measured : List ℕ
  pub has_measured : IsMeasuredText form network_measure_columns accepted net names switches o measured
  pub text_is : text ≡ heading_in form network_measure_columns ++ measured

-- what `network survey` writes
pub record HasSurveyText (form : Form) (accepted : Bool) (net : Network) (names : Names) (switches : List (Tally × State)) (o : Origins) (text : List ℕ) : Type 0 where
  pub measured : List ℕ
  pub has_measured : IsMeasuredText form network_survey_columns accepted net names switches o measured
  pub text_is : text ≡ heading_in form network_survey_columns ++ counts_in form names switches ++ measured ++ policing_in form names switches

-- `network measure` reports this: the delays from end to end, and how full buffers were; of an accepted network no delay is greater than
-- what is promised
pub record MeasuresNetworkTo (form : Form) (inputs : NetworkInputs) (files : Option Files) (text : List ℕ) : Type 0 where
  pub net : Network
  pub switches : List (Tally × State)
  pub origins : Origins
  pub measured : IsMeasuredNetwork inputs files net switches origins
  pub has_text : HasMeasuredText form (not inputs.unchecked) net (names_of net.layout.switches) switches origins text
  pub within : inputs.unchecked ≡ false → All (IsWithinItsWay origins) has_text.has_measured.ends

-- `network survey` reports this: the reports of `network run`, what `network measure` says, and when links were policed and frames came
pub record SurveysNetworkTo (form : Form) (inputs : NetworkInputs) (files : Option Files) (text : List ℕ) : Type 0 where
  pub net : Network
  pub switches : List (Tally × State)
  pub origins : Origins
  pub measured : IsMeasuredNetwork inputs files net switches origins
  pub has_text : HasSurveyText form (not inputs.unchecked) net (names_of net.layout.switches) switches origins text
  pub within : inputs.unchecked ≡ false → All (IsWithinItsWay origins) has_text.has_measured.ends
