-- What serving arguments does: to what a reader gives, and to what a writer and a folder hold before and after.
use Rattle.std.specs.Prelude.{Bool, true, false, length, Some, None, ◌≡◌, ◌⊎◌, ℕ, List, Option}
use Rattle.std.specs.Io.KnownBytes.{Appends, Keeps}
use Rattle.afdx_pcap.specs.Fault.{IsFault}
use Rattle.afdx_alone.specs.declared.link.Alone.{Alone}
use Rattle.afdx_arguments.specs.declared.request.Paths.{Paths}
use Rattle.afdx_arguments.specs.declared.request.RunOptions.{RunOptions}
use Rattle.afdx_arguments.specs.declared.request.Inputs.{Inputs}
use Rattle.afdx_arguments.specs.declared.request.Compare.{Compare}
use Rattle.afdx_arguments.specs.declared.request.Request.{Request}
use Rattle.afdx_arguments.specs.declared.request.Request.TheVariants as request
use Rattle.afdx_arguments.specs.Requests.{Asks, AskForHelp, AreRefused}
use Rattle.afdx_messages.specs.declared.failure.Failure.{Failure}
use Rattle.afdx_messages.specs.declared.failure.Failure.TheVariants as failure
use Rattle.afdx_alone.specs.Answer.{IsAnswerTo}
use Rattle.afdx_table.specs.Content.{Content}
use Rattle.afdx_load.specs.Accepted.{first_fault}
use Rattle.afdx_recordings.specs.declared.recordings.Recordings.{Recordings}
use Rattle.afdx_compare.specs.Comparison.{Comparison, conform}
use Rattle.afdx_compare.specs.Report.{report_of}
use Rattle.afdx_serve.specs.Checks.{ChecksTo}
use Rattle.afdx_csv.specs.declared.form.Form.{Form}
use Rattle.afdx_serve.specs.Sizes.{SizesTo, SizesNetworkTo}
use Rattle.afdx_network_check.specs.Net.{Network}
use Rattle.afdx_wiring.specs.declared.fault.Short.{Short}
use Rattle.afdx_network_check.specs.declared.jitters.RowNeed.{RowNeed}
use Rattle.afdx_network_check.specs.Needs.{all_past}
use Rattle.afdx_messages.specs.declared.network_failure.JitterRule.TheVariants as jitter
use Rattle.afdx_arguments.specs.declared.request.NetworkInputs.{NetworkInputs}
use Rattle.afdx_arguments.specs.declared.request.NetworkPaths.{NetworkPaths}
use Rattle.afdx_arguments.specs.declared.request.NetworkRequest.{NetworkRequest}
use Rattle.afdx_arguments.specs.declared.request.NetworkRequest.TheVariants as ask
use Rattle.afdx_serve.specs.Networks.{names_of, AreRefusedRows, FailsToGetNetwork, FailsToTakeNetwork, FailsToAcceptNetwork}
use Rattle.afdx_serve.specs.NetworkChecks.{ChecksNetworkTo}
use Rattle.afdx_serve.specs.NetworkJitters.{JittersAre, GivesJittersTo, FailsToFit}
use Rattle.afdx_serve.specs.NetworkMeasures.{MeasuresNetworkTo, SurveysNetworkTo}
use Rattle.afdx_serve.specs.NetworkTraces.{PutsNetworkTrace, FailsToTraceNetwork}
use Rattle.afdx_serve.specs.NetworkRuns.{FailsToLeadFrom, LeadsToNetwork, FailsToPutNetwork, names_at, bytes_at, captures_of, runs_text}
use Rattle.afdx_folder.specs.Files.{Files, DeviceLog, KeepsFiles, PutsFiles, settled_after}
use Rattle.afdx_session.specs.Outcome.{Results}
use Rattle.afdx_folder.specs.Input.{AreGiven}
use Rattle.afdx_folder.specs.Output.{AppendsPrefix}
use Rattle.afdx_verdict.specs.Verdict.{verdict_of}
use Rattle.afdx_serve.specs.Measures.{MeasuresTo, SurveysTo}
use Rattle.afdx_serve.specs.Verdicts.{text_of, is_found}
use Rattle.afdx_serve.specs.Traces.{PutsTrace, FailsToTrace}
use Rattle.afdx_serve.specs.Compares.{PutsRows, FailsToCompare}
use Rattle.afdx_serve.specs.Runs.{HasTable, LeadsTo, FailsToRead, FailsToGather, FailsToRun, names_in, bytes_of_captures}

-- what commands work on, as far as contracts see it
pub record World : Type 0 where
  -- what the writer holds
  pub written : Option (List ℕ)
  -- what the folder holds
  pub files : Option Files
  -- how often the folder failed, how often what it had opened could not be read, each for which name at last, and how many new files its
  -- device has taken
  pub failed : DeviceLog

-- what commands work on, of a writer, a folder and its log
abbrev pub world : Option (List ℕ) → Option Files → DeviceLog → World
world written files failed = record { written = written; files = files; failed = failed }

-- ---- what is done to a writer and to a folder

-- a text of which this is so was written
abbrev pub Writes : (List ℕ → Type 0) → Option (List ℕ) → Option (List ℕ) → Type 0
Writes IsText old new = (text : List ℕ) × IsText text × Appends old new text

-- a prefix of a text of which this is so was written
abbrev pub WritesSome : (List ℕ → Type 0) → Option (List ℕ) → Option (List ℕ) → Type 0
WritesSome IsText old new = (text : List ℕ) × IsText text × AppendsPrefix old new text

-- nothing was written
abbrev pub WritesNothing : World → World → Type 0
WritesNothing old new = Keeps old.written new.written

-- the folder is as it was
abbrev pub KeepsFolder : World → World → Type 0
KeepsFolder old new = KeepsFiles old.files new.files × (new.failed ≡ old.failed)

-- a text of which this is so was written, and nothing was put
abbrev pub Reports : (List ℕ → Type 0) → World → World → Type 0
Reports IsText old new = Writes IsText old.written new.written × KeepsFolder old new

-- no such text was written whole, and nothing was put: the writer failed, or memory ran out, or this is why there is none
abbrev pub FailsToReport : Failure → (List ℕ → Type 0) → Type 0 → World → World → Type 0
FailsToReport failure.Write IsText why old new = WritesSome IsText old.written new.written × KeepsFolder old new
FailsToReport failure.Memory IsText why old new = KeepsFiles old.files new.files × WritesNothing old new
FailsToReport f IsText why old new = why × KeepsFiles old.files new.files × WritesNothing old new

-- ---- one link

-- the answer to all that the reader gave was written
abbrev pub Answers : Alone → Option (List ℕ) → Option (List ℕ) → Option (List ℕ) → Type 0
Answers link input old new = Writes (IsAnswerTo input link) old new

-- why a link was not answered for, and what was written
abbrev pub FailsToAnswer : Failure → Alone → Option (List ℕ) → Option (List ℕ) → Option (List ℕ) → Type 0
FailsToAnswer (failure.Capture fault) link input old new = ((bytes : List ℕ) × AreGiven input bytes × IsFault bytes fault) × Keeps old new
FailsToAnswer failure.Read link input old new = Keeps old new
FailsToAnswer failure.Write link input old new = WritesSome (IsAnswerTo input link) old new
FailsToAnswer failure.Memory link input old new = Keeps old new
FailsToAnswer _ link input old new = ⊥

-- ---- a table

-- a table was not accepted
abbrev pub FailsToAccept : Failure → Content → Type 0
FailsToAccept (failure.Load fault) t = first_fault t.latency t.links t.ports ≡ Some fault
FailsToAccept failure.Memory t = Unit {0}
FailsToAccept _ t = ⊥

-- a file's table was not got, or is not accepted
abbrev pub FailsToTake : Failure → Option Files → List ℕ → DeviceLog → DeviceLog → Type 0
FailsToTake (failure.Load fault) files path before after = (t : Content) × HasTable files path t × FailsToAccept (failure.Load fault) t × (after ≡ before)
FailsToTake f files path before after = FailsToRead f files path before after

-- the lines of the file's table, which is accepted, were written
abbrev pub Checks : Form → List ℕ → World → World → Type 0
Checks form path old new = Reports (ChecksTo form path old.files) old new

-- the lines of a check were not written: why, and how much was
abbrev pub FailsToCheck : Failure → Form → List ℕ → World → World → Type 0
FailsToCheck f form path old new = FailsToReport f (ChecksTo form path old.files) (FailsToTake f old.files path old.failed new.failed) old new

-- what its ports need and have was written, whether it fits or not
abbrev pub Sizes : Form → List ℕ → World → World → Type 0
Sizes form path old new = Reports (SizesTo form path old.files) old new

-- what ports need and have was not written
abbrev pub FailsToSize : Failure → Form → List ℕ → World → World → Type 0
FailsToSize f form path old new = FailsToReport f (SizesTo form path old.files) (FailsToRead f old.files path old.failed new.failed) old new

-- ---- networks

-- the lines of the file's network, which is accepted, were written
abbrev pub ChecksNetwork : Form → List ℕ → World → World → Type 0
ChecksNetwork form path old new = Reports (ChecksNetworkTo form path old.files) old new

-- the lines of a network's check were not written
abbrev pub FailsToCheckNetwork : Failure → Form → List ℕ → World → World → Type 0
FailsToCheckNetwork f form path old new =
    FailsToReport f (ChecksNetworkTo form path old.files) (FailsToTakeNetwork FailsToAcceptNetwork f old.files path old.failed new.failed) old new

-- what the ports of its tables need and have was written, whether they fit or not
abbrev pub SizesNetwork : Form → List ℕ → World → World → Type 0
SizesNetwork form path old new = Reports (SizesNetworkTo form path old.files) old new

-- what the ports of a network's tables need and have was not written
abbrev pub FailsToSizeNetwork : Failure → Form → List ℕ → World → World → Type 0
FailsToSizeNetwork f form path old new = FailsToReport f (SizesNetworkTo form path old.files) (FailsToGetNetwork f old.files path old.failed new.failed) old new

-- the jitters that the rows of the file's network need were written; this is the first past what a table can have
abbrev pub SaysJitters : Form → List ℕ → Network → List RowNeed → Option Short → World → World → Type 0
SaysJitters form path net rows past old new = Reports (JittersAre form old.files path net rows past) old new

-- the jitters that the rows of the file's network need were written, and none is past what a table can have; so the check of the network
-- accepts them
abbrev pub GivesJitters : Form → List ℕ → World → World → Type 0
GivesJitters form path old new = (net : Network) × (rows : List RowNeed) × SaysJitters form path net rows None old new

-- the jitters that rows need were written, and some are more than a table can have: these rows are refused
abbrev pub FailsPastJitters : Failure → Form → List ℕ → World → World → Type 0
FailsPastJitters f form path old new =
    (net : Network) × (rows : List RowNeed) × (short : Short) × SaysJitters form path net rows (Some short) old new
    × AreRefusedRows (names_of net.layout.switches) jitter.NoJitter (all_past rows) f

-- the jitters that rows need were not written, or some are more than a table can have
abbrev pub FailsToGiveJitters : Failure → Form → List ℕ → World → World → Type 0
FailsToGiveJitters f form path old new =
    FailsToReport f (GivesJittersTo form path old.files) (FailsToTakeNetwork FailsToFit f old.files path old.failed new.failed) old new
    ⊎ FailsPastJitters f form path old new

-- the files lead to a run of a network, of which the captures were put
abbrev pub PutsNetwork : NetworkPaths → World → World → Network → List Results → Type 0
PutsNetwork paths old new net left =
    LeadsToNetwork paths old.files net left
    × PutsFiles old.files new.files (names_at paths.output.now (names_of net.layout.switches) (captures_of left)) (bytes_at (captures_of left))
    × (new.failed ≡ settled_after (length (names_at paths.output.now (names_of net.layout.switches) (captures_of left))) old.failed)

-- the captures of a network's run were put, and these are its reports
abbrev pub RunsNetworkTo : Form → NetworkPaths → World → World → List ℕ → Type 0
RunsNetworkTo form paths old new text =
    (net : Network) × (left : List Results) × PutsNetwork paths old new net left × (text ≡ runs_text form (names_of net.layout.switches) left)

-- the captures of a network's run were put, and its reports were written
abbrev pub RunsNetwork : Form → NetworkPaths → World → World → Type 0
RunsNetwork form paths old new = Writes (RunsNetworkTo form paths old new) old.written new.written

-- why a network's run was not put or not reported, and what was done
abbrev pub FailsToRunNetwork : Failure → Form → NetworkPaths → World → World → Type 0
FailsToRunNetwork failure.Write form paths old new = WritesSome (RunsNetworkTo form paths old new) old.written new.written
FailsToRunNetwork f form paths old new = FailsToPutNetwork f paths old.files new.files old.failed new.failed × WritesNothing old new

-- what was measured of a network's run was written
abbrev pub MeasuresNetwork : Form → NetworkInputs → World → World → Type 0
MeasuresNetwork form inputs old new = Reports (MeasuresNetworkTo form inputs old.files) old new

-- a text of a network's run of which nothing is put was not written
abbrev pub FailsToWatchNetwork : (List ℕ → Type 0) → Failure → NetworkInputs → World → World → Type 0
FailsToWatchNetwork IsText f inputs old new =
    FailsToReport f IsText (FailsToLeadFrom f inputs.network.now inputs.unchecked inputs.input.now old.files old.failed new.failed) old new

-- what was measured of a network's run was not written
abbrev pub FailsToMeasureNetwork : Failure → Form → NetworkInputs → World → World → Type 0
FailsToMeasureNetwork f form inputs old new = FailsToWatchNetwork (MeasuresNetworkTo form inputs old.files) f inputs old new

-- a survey of a network's run was written: what was measured, the counts, and when links were policed
abbrev pub SurveysNetwork : Form → NetworkInputs → World → World → Type 0
SurveysNetwork form inputs old new = Reports (SurveysNetworkTo form inputs old.files) old new

-- a survey of a network's run was not written
abbrev pub FailsToSurveyNetwork : Failure → Form → NetworkInputs → World → World → Type 0
FailsToSurveyNetwork f form inputs old new = FailsToWatchNetwork (SurveysNetworkTo form inputs old.files) f inputs old new

-- what a request of networks asks for was done
abbrev pub PerformsNetwork : NetworkRequest → World → World → Type 0
PerformsNetwork (ask.Check path form) old new = ChecksNetwork form path.now old new
PerformsNetwork (ask.Size path form) old new = SizesNetwork form path.now old new
PerformsNetwork (ask.Jitter path form) old new = GivesJitters form path.now old new
PerformsNetwork (ask.Run paths form) old new = RunsNetwork form paths old new
PerformsNetwork (ask.Measure inputs form) old new = MeasuresNetwork form inputs old new
PerformsNetwork (ask.Survey inputs form) old new = SurveysNetwork form inputs old new
PerformsNetwork (ask.Trace paths) old new = PutsNetworkTrace paths old.files new.files old.failed new.failed × WritesNothing old new

-- why a request of networks was not done, and what was done
abbrev pub FailsToPerformNetwork : Failure → NetworkRequest → World → World → Type 0
FailsToPerformNetwork f (ask.Check path form) old new = FailsToCheckNetwork f form path.now old new
FailsToPerformNetwork f (ask.Size path form) old new = FailsToSizeNetwork f form path.now old new
FailsToPerformNetwork f (ask.Jitter path form) old new = FailsToGiveJitters f form path.now old new
FailsToPerformNetwork f (ask.Run paths form) old new = FailsToRunNetwork f form paths old new
FailsToPerformNetwork f (ask.Measure inputs form) old new = FailsToMeasureNetwork f form inputs old new
FailsToPerformNetwork f (ask.Survey inputs form) old new = FailsToSurveyNetwork f form inputs old new
FailsToPerformNetwork f (ask.Trace paths) old new = FailsToTraceNetwork f paths old.files new.files old.failed new.failed × WritesNothing old new

-- ---- runs

-- the files lead to results, which were put
abbrev pub PutsResults : Paths → World → World → Results → Type 0
PutsResults paths old new results =
    LeadsTo paths old.files results × PutsFiles old.files new.files (names_in paths.output.now results.captures) (bytes_of_captures results.captures)
    × (new.failed ≡ settled_after (length (names_in paths.output.now results.captures)) old.failed)

-- the results of a run were put, and this is their report; it found something that the run is to fail on (true), or nothing
abbrev pub RunsTo : Bool → Paths → RunOptions → World → World → List ℕ → Type 0
RunsTo found paths options old new text =
    (results : Results) × PutsResults paths old new results × (text ≡ text_of options results.counts) × (is_found options.fail_on (verdict_of results.counts) ≡ found)

-- the results of a run were put and its report was written, and there is nothing that it is to fail on
abbrev pub Runs : Paths → RunOptions → World → World → Type 0
Runs paths options old new = Writes (RunsTo false paths options old new) old.written new.written

-- a run found something that it is to fail on; or why it was not put or not reported, and what was done
abbrev pub FailsToRunAll : Failure → Paths → RunOptions → World → World → Type 0
FailsToRunAll failure.Found paths options old new = Writes (RunsTo true paths options old new) old.written new.written
FailsToRunAll failure.Write paths options old new = (found : Bool) × WritesSome (RunsTo found paths options old new) old.written new.written
FailsToRunAll f paths options old new = FailsToRun f paths old.files new.files old.failed new.failed × WritesNothing old new

-- what was measured of a run was written
abbrev pub Measures : Form → Inputs → World → World → Type 0
Measures form inputs old new = Reports (MeasuresTo form inputs old.files) old new

-- what was measured of a run was not written
abbrev pub FailsToMeasure : Failure → Form → Inputs → World → World → Type 0
FailsToMeasure f form inputs old new = FailsToReport f (MeasuresTo form inputs old.files) (FailsToGather f inputs old.files old.failed new.failed) old new

-- a survey of a run was written: what was measured, the counts, and when links were policed
abbrev pub Surveys : Form → Inputs → World → World → Type 0
Surveys form inputs old new = Reports (SurveysTo form inputs old.files) old new

-- a survey of a run was not written
abbrev pub FailsToSurvey : Failure → Form → Inputs → World → World → Type 0
FailsToSurvey f form inputs old new = FailsToReport f (SurveysTo form inputs old.files) (FailsToGather f inputs old.files old.failed new.failed) old new

-- ---- recordings

-- what was found out from the files was put, if a folder is named for it, and this is its report; nothing speaks against the switch (true),
-- or something does
abbrev pub ComparesTo : Form → Bool → Compare → Recordings → World → World → List ℕ → Type 0
ComparesTo form conforms c r old new text =
    (from until : ℕ) × (found : Comparison) × PutsRows c r old.files new.files old.failed new.failed from until found
    × (text ≡ report_of form r from until found) × (conform found ≡ conforms)

-- the report of recordings was written, and nothing speaks against the switch
abbrev pub Compares : Form → Compare → Recordings → World → World → Type 0
Compares form c r old new = Writes (ComparesTo form true c r old new) old.written new.written

-- something speaks against the switch; or why recordings were not compared or not reported, and what was done
abbrev pub FailsToCompareAll : Failure → Form → Compare → Recordings → World → World → Type 0
FailsToCompareAll failure.Found form c r old new = Writes (ComparesTo form false c r old new) old.written new.written
FailsToCompareAll failure.Write form c r old new = (conforms : Bool) × WritesSome (ComparesTo form conforms c r old new) old.written new.written
FailsToCompareAll f form c r old new = FailsToCompare f c r old.files new.files old.failed new.failed × WritesNothing old new

-- ---- what MESSAGES says of a code

-- the entry of a code was written
abbrev pub WritesEntry : List ℕ → Option (List ℕ) → Option (List ℕ) → Type 0
WritesEntry entry old new = Appends old new entry

-- why the entry of a code was not written, and what was
abbrev pub FailsToWriteEntry : Failure → List ℕ → Option (List ℕ) → Option (List ℕ) → Type 0
FailsToWriteEntry failure.Write entry old new = AppendsPrefix old new entry
FailsToWriteEntry _ entry old new = ⊥

-- ---- any request

-- what a request asks for was done, and nothing else
abbrev pub Performs : Request → Option (List ℕ) → World → World → Type 0
Performs (request.Alone link) input old new = Answers link input old.written new.written × KeepsFolder old new
Performs (request.Check path form) input old new = Checks form path.now old new
Performs (request.Size path form) input old new = Sizes form path.now old new
Performs (request.Run paths options) input old new = Runs paths options old new
Performs (request.Measure inputs form) input old new = Measures form inputs old new
Performs (request.Survey inputs form) input old new = Surveys form inputs old new
Performs (request.Trace paths options) input old new =
    PutsTrace paths options old.files new.files × (new.failed ≡ settled_after 2 old.failed) × WritesNothing old new
Performs (request.Compare c r form) input old new = Compares form c r old new
Performs (request.Explain entry) input old new = WritesEntry entry.now old.written new.written × KeepsFolder old new
Performs (request.Network r) input old new = PerformsNetwork r old new

-- why a request was not done, and what was done
abbrev pub FailsToPerform : Failure → Request → Option (List ℕ) → World → World → Type 0
FailsToPerform f (request.Alone link) input old new = FailsToAnswer f link input old.written new.written × KeepsFolder old new
FailsToPerform f (request.Check path form) input old new = FailsToCheck f form path.now old new
FailsToPerform f (request.Size path form) input old new = FailsToSize f form path.now old new
FailsToPerform f (request.Run paths options) input old new = FailsToRunAll f paths options old new
FailsToPerform f (request.Measure inputs form) input old new = FailsToMeasure f form inputs old new
FailsToPerform f (request.Survey inputs form) input old new = FailsToSurvey f form inputs old new
FailsToPerform f (request.Trace paths options) input old new = FailsToTrace f paths options old.files new.files old.failed new.failed × WritesNothing old new
FailsToPerform f (request.Compare c r form) input old new = FailsToCompareAll f form c r old new
FailsToPerform f (request.Explain entry) input old new = FailsToWriteEntry f entry.now old.written new.written × KeepsFolder old new
FailsToPerform f (request.Network r) input old new = FailsToPerformNetwork f r old new

-- help or the version was asked for, and some text was written
abbrev pub Helps : List (List ℕ) → World → World → Type 0
Helps arguments old new = AskForHelp arguments × ((text : List ℕ) × Appends old.written new.written text) × KeepsFolder old new

-- help or the version was asked for and some text was written, or a request was done
abbrev pub Serves : List (List ℕ) → Option (List ℕ) → World → World → Type 0
Serves arguments input old new = Helps arguments old new ⊎ ((r : Request) × Asks arguments r × Performs r input old new)

-- what may be there if memory ran out: some of a run's files, and nothing written
abbrev pub RunsOut : List (List ℕ) → Option (List ℕ) → World → World → Type 0
RunsOut arguments input old new =
    (WritesNothing old new × KeepsFiles old.files new.files) ⊎ ((r : Request) × Asks arguments r × FailsToPerform failure.Memory r input old new)

-- why arguments were not served, and what was done
abbrev pub Fails : Failure → List (List ℕ) → Option (List ℕ) → World → World → Type 0
Fails failure.Usage arguments input old new = AreRefused arguments × WritesNothing old new × KeepsFolder old new
Fails failure.Write arguments input old new = Helps arguments old new ⊎ ((r : Request) × Asks arguments r × FailsToPerform failure.Write r input old new)
Fails failure.Memory arguments input old new = RunsOut arguments input old new
Fails f arguments input old new = (r : Request) × Asks arguments r × FailsToPerform f r input old new
