-- What the arguments ask for.
use Rattle.std.specs.Prelude.{◌≡◌, ◌≢◌, ◌⊎◌, ◌*◌, ◌≤◌, ℕ, Bool, codes, List, [], drop, slice_get, unwrap_or, Option, Some, None, Result, Ok, Err, true, false}
use Rattle.std.specs.Prelude.{IfSome, MatchOption, option_map}
use Rattle.std.specs.List.{AllZip}
use Rattle.std.specs.Option.{option_map_or}
use Rattle.std.specs.Str.{bytes_eq}
use Rattle.std.specs.Str.Parse.{ParsesUnsigned}
use Rattle.clap.specs.Words.{App, IsAmong, Kinds, Row, Text, all_of, fault_of, first_of, one_of, subcommand_of}
use Rattle.clap.specs.declared.error.kind.ErrorKind.{ErrorKind}
use Rattle.clap.specs.declared.error.kind.ErrorKind.TheVariants.{DisplayHelp, DisplayVersion, OutOfMemory}
use Rattle.afdx_alone.specs.declared.link.Alone.{Alone}
use Rattle.afdx_csv.specs.declared.form.Form.{Form}
use Rattle.afdx_csv.specs.declared.form.Form.TheVariants.{Lines, Csv}
use Rattle.afdx_arguments.specs.declared.request.Paths.{Paths}
use Rattle.afdx_arguments.specs.declared.request.RunOptions.{RunOptions}
use Rattle.afdx_arguments.specs.declared.request.TraceOptions.{TraceOptions}
use Rattle.afdx_arguments.specs.declared.request.Inputs.{Inputs}
use Rattle.afdx_arguments.specs.declared.request.Compare.{Compare}
use Rattle.afdx_arguments.specs.declared.request.NetworkInputs.{NetworkInputs}
use Rattle.afdx_arguments.specs.declared.request.NetworkPaths.{NetworkPaths}
use Rattle.afdx_arguments.specs.declared.request.NetworkRequest.{NetworkRequest}
use Rattle.afdx_arguments.specs.declared.request.NetworkRequest.TheVariants as network
use Rattle.afdx_arguments.specs.declared.request.Request.{Request}
use Rattle.afdx_arguments.specs.declared.request.Request.TheVariants as request
use Rattle.afdx_arguments.specs.declared.request.NoRequest.{NoRequest}
use Rattle.afdx_arguments.specs.declared.request.NoRequest.TheVariants.{Help, Usage, Memory}
use Rattle.afdx_alone.specs.Link.{HasNumbers}
use Rattle.afdx_recordings.specs.declared.offsets.Offsets.{Offsets}
use Rattle.afdx_recordings.specs.declared.outputs.Outputs.{Outputs}
use Rattle.afdx_recordings.specs.declared.recordings.Recordings.{Recordings}
use Rattle.afdx_recordings.specs.declared.stamps.Stamps.{Stamps}
use Rattle.afdx_recordings.specs.declared.stamps.Stamps.TheVariants.{End, Free}
use Rattle.afdx_recordings.specs.Recordings.{AreOffsetsOf, AreOutputsOf, all_outputs, no_offsets}
use Rattle.afdx_units.specs.Time.{IsInstant}
use Rattle.afdx_arguments.specs.FailOn.{Chooses}
use Rattle.afdx_arguments.specs.Commands.{program, network_program}
use Rattle.afdx_arguments.specs.Explaining.{HasEntry}

-- the entry of an option is this number
abbrev pub HasNumber : Text → List Row → ℕ → Type 0
HasNumber name rows n = (t : Text) × (one_of name rows ≡ Some t) × ParsesUnsigned {E = Unit {0}} 64 10 t (Ok n)

-- the entry of a flag says that it is set
abbrev pub is_set : Text → List Row → Bool
is_set name rows = option_map_or (λ t. bytes_eq t (codes "true")) (first_of name rows) false

-- the form of what is written: lines, or comma-separated values if the flag is set
abbrev pub form_by : Bool → Form
form_by false = Lines
form_by true = Csv

-- the form that the entries of --csv ask for
abbrev pub form_in : List Row → Form
form_in rows = form_by (is_set (codes "csv") rows)

-- the entries of the four options are the link's numbers, within the limits of links
pub record HasLink (rows : List Row) (link : Alone) : Type 0 where
  pub id : ℕ
  pub bag : ℕ
  pub jitter : ℕ
  pub size : ℕ
  pub has_id : HasNumber (codes "id") rows id
  pub has_bag : HasNumber (codes "bag") rows bag
  pub has_jitter : HasNumber (codes "jitter") rows jitter
  pub has_size : HasNumber (codes "size") rows size
  pub numbers : HasNumbers link id bag jitter size

-- the entries name the files of a run, and whether it is unchecked; profile: an empty argument names no folder
pub record HasPaths (rows : List Row) (paths : Paths) : Type 0 where
  pub table : first_of (codes "TABLE") rows ≡ Some paths.table.now
  pub input : first_of (codes "IN") rows ≡ Some paths.input.now
  pub output : first_of (codes "OUT") rows ≡ Some paths.output.now
  pub has_input : paths.input.now ≢ []
  pub has_output : paths.output.now ≢ []
  pub unchecked : paths.unchecked ≡ is_set (codes "unchecked") rows

-- the entries name the files of a run of which nothing is put, and whether it is unchecked
pub record HasInputs (rows : List Row) (inputs : Inputs) : Type 0 where
  pub table : first_of (codes "TABLE") rows ≡ Some inputs.table.now
  pub input : first_of (codes "IN") rows ≡ Some inputs.input.now
  pub has_input : inputs.input.now ≢ []
  pub unchecked : inputs.unchecked ≡ is_set (codes "unchecked") rows

-- the entries say what is asked of a run beside its files
pub record HasOptions (rows : List Row) (options : RunOptions) : Type 0 where
  pub verdict : options.verdict ≡ is_set (codes "verdict") rows
  pub fail_on : Chooses (first_of (codes "fail-on") rows) options.fail_on
  pub form : options.form ≡ form_in rows

-- these texts are these numbers of links, one by one
abbrev pub AreLinks : List Text → List ℕ → Type 0
AreLinks = AllZip (λ text link. ParsesUnsigned {E = Unit {0}} 16 10 text (Ok link))

-- the entries say what is asked of a trace beside its files: the links in the order of their options, none if there is no such option
pub record HasTraceOptions (rows : List Row) (options : TraceOptions) : Type 0 where
  pub links : AreLinks (unwrap_or (all_of (codes "link") rows) []) options.links.items
  pub relative : options.relative ≡ is_set (codes "relative") rows

-- ---- recordings

-- the entry of an option that may be left out is this number, if it is there
abbrev pub HasOptional : Text → List Row → Option ℕ → Type 0
HasOptional name rows n = MatchOption n ((m : ℕ) → HasNumber name rows m → ⊥) (HasNumber name rows)

-- the number of an option that may be left out, of which this is the greatest; 0 if it is left out
pub record HasUpTo (name : Text) (most : ℕ) (rows : List Row) (n : ℕ) : Type 0 where
  pub entry : Option ℕ
  pub has_entry : HasOptional name rows entry
  pub is : n ≡ unwrap_or entry 0
  pub limit : n ≤ most

-- the instant of an option that may be left out, if it is there
pub record HasInstant (name : Text) (rows : List Row) (instant : Option ℕ) : Type 0 where
  pub entry : HasOptional name rows instant
  pub limit : IfSome instant IsInstant

-- what stamps are: the ends of last bits if nothing is said of them
abbrev pub ChoosesStamps : Option Text → Stamps → Type 0
ChoosesStamps None stamps = stamps ≡ End
ChoosesStamps (Some text) End = text ≡ codes "end"
ChoosesStamps (Some text) Free = text ≡ codes "free"

-- what is added to stamps: nothing if no offset is said
abbrev pub ChoosesOffsets : Option Text → Offsets → Type 0
ChoosesOffsets None offsets = offsets ≡ no_offsets
ChoosesOffsets (Some text) offsets = AreOffsetsOf text offsets

-- which output ports were recorded: all if none is named
abbrev pub ChoosesOutputs : Option Text → Outputs → Type 0
ChoosesOutputs None outputs = outputs ≡ all_outputs
ChoosesOutputs (Some text) outputs = AreOutputsOf text outputs

-- the entries say what is known of the recordings, which begin at rest or at an instant, not both; the least latency is given in µs
pub record HasRecordings (rows : List Row) (recordings : Recordings) : Type 0 where
  pub us : ℕ
  pub has_us : HasUpTo (codes "least-latency") 100 rows us
  pub least : recordings.least ≡ us * 1000
  pub tolerance : HasUpTo (codes "tolerance") 1000000000 rows recordings.tolerance
  pub stamps : ChoosesStamps (first_of (codes "stamps") rows) recordings.stamps
  pub rest : recordings.rest ≡ is_set (codes "rest") rows
  pub from : HasInstant (codes "from") rows recordings.from
  pub until : HasInstant (codes "until") rows recordings.until
  pub offsets : ChoosesOffsets (first_of (codes "offset") rows) recordings.offsets
  pub outputs : ChoosesOutputs (first_of (codes "ports") rows) recordings.outputs
  pub one_start : recordings.rest ≡ true → recordings.from ≡ None

-- the entries name the files of recordings; profile: an empty argument names no folder
pub record HasCompare (rows : List Row) (compare : Compare) : Type 0 where
  pub table : first_of (codes "TABLE") rows ≡ Some compare.table.now
  pub input : first_of (codes "IN") rows ≡ Some compare.input.now
  pub output : first_of (codes "OUT") rows ≡ Some compare.output.now
  pub has_input : compare.input.now ≢ []
  pub has_output : compare.output.now ≢ []
  pub folder : first_of (codes "rows") rows ≡ option_map (λ w. w.now) compare.rows
  pub has_folder : first_of (codes "rows") rows ≢ Some []

-- ---- subcommands

-- the entries name the files of a network's run of which nothing is put, and whether it is unchecked
pub record HasNetworkInputs (rows : List Row) (inputs : NetworkInputs) : Type 0 where
  pub network : first_of (codes "NET") rows ≡ Some inputs.network.now
  pub input : first_of (codes "IN") rows ≡ Some inputs.input.now
  pub has_input : inputs.input.now ≢ []
  pub unchecked : inputs.unchecked ≡ is_set (codes "unchecked") rows

-- the entries name the files of a network's run, and whether it is unchecked
pub record HasNetworkPaths (rows : List Row) (paths : NetworkPaths) : Type 0 where
  pub network : first_of (codes "NET") rows ≡ Some paths.network.now
  pub input : first_of (codes "IN") rows ≡ Some paths.input.now
  pub output : first_of (codes "OUT") rows ≡ Some paths.output.now
  pub has_input : paths.input.now ≢ []
  pub has_output : paths.output.now ≢ []
  pub unchecked : paths.unchecked ≡ is_set (codes "unchecked") rows

-- the subcommand of networks and its entries ask for this
abbrev pub AsksOfNetwork : Option (Text × List Row) → NetworkRequest → Type 0
AsksOfNetwork None r = ⊥
AsksOfNetwork (Some (name, rows)) (network.Check path form) = (name ≡ codes "check") × (first_of (codes "NET") rows ≡ Some path.now) × (form ≡ form_in rows)
AsksOfNetwork (Some (name, rows)) (network.Size path form) = (name ≡ codes "size") × (first_of (codes "NET") rows ≡ Some path.now) × (form ≡ form_in rows)
AsksOfNetwork (Some (name, rows)) (network.Jitter path form) = (name ≡ codes "jitter") × (first_of (codes "NET") rows ≡ Some path.now) × (form ≡ form_in rows)
AsksOfNetwork (Some (name, rows)) (network.Run paths form) = (name ≡ codes "run") × HasNetworkPaths rows paths × (form ≡ form_in rows)
AsksOfNetwork (Some (name, rows)) (network.Measure inputs form) = (name ≡ codes "measure") × HasNetworkInputs rows inputs × (form ≡ form_in rows)
AsksOfNetwork (Some (name, rows)) (network.Survey inputs form) = (name ≡ codes "survey") × HasNetworkInputs rows inputs × (form ≡ form_in rows)
AsksOfNetwork (Some (name, rows)) (network.Trace paths) = (name ≡ codes "trace") × HasNetworkPaths rows paths

-- the subcommand and its entries ask for this
abbrev pub AsksFor : Option (Text × List Row) → Request → Type 0
AsksFor None r = ⊥
AsksFor (Some (name, rows)) (request.Alone link) = (name ≡ codes "alone") × HasLink rows link
AsksFor (Some (name, rows)) (request.Check table form) = (name ≡ codes "check") × (first_of (codes "TABLE") rows ≡ Some table.now) × (form ≡ form_in rows)
AsksFor (Some (name, rows)) (request.Size table form) = (name ≡ codes "size") × (first_of (codes "TABLE") rows ≡ Some table.now) × (form ≡ form_in rows)
AsksFor (Some (name, rows)) (request.Run paths options) = (name ≡ codes "run") × HasPaths rows paths × HasOptions rows options
AsksFor (Some (name, rows)) (request.Measure inputs form) = (name ≡ codes "measure") × HasInputs rows inputs × (form ≡ form_in rows)
AsksFor (Some (name, rows)) (request.Survey inputs form) = (name ≡ codes "survey") × HasInputs rows inputs × (form ≡ form_in rows)
AsksFor (Some (name, rows)) (request.Trace paths options) = (name ≡ codes "trace") × HasPaths rows paths × HasTraceOptions rows options
AsksFor (Some (name, rows)) (request.Explain entry) = (name ≡ codes "explain") × HasEntry rows entry.now
AsksFor (Some (name, rows)) (request.Compare compare recordings form) = (name ≡ codes "compare") × HasCompare rows compare × HasRecordings rows recordings × (form ≡ form_in rows)
AsksFor (Some (name, rows)) (request.Network r) = ⊥

-- ---- the two programs

-- the first argument after the program's name is `network`: what follows is read by a program of that name
abbrev pub is_network : List Text → Bool
is_network arguments = option_map_or (λ w. bytes_eq w (codes "network")) (slice_get arguments 1) false

-- what `clap` says against the arguments of a network's command (true), or of another
abbrev pub fault_in : Bool → List Text → Kinds
fault_in true arguments = fault_of network_program (drop 1 arguments)
fault_in false arguments = fault_of program arguments

-- what `clap` says against arguments
abbrev pub faults_of : List Text → Kinds
faults_of arguments = fault_in (is_network arguments) arguments

-- what the subcommand of one of the two and its entries ask for
abbrev pub AsksIn : Bool → List Text → Request → Type 0
AsksIn true arguments (request.Network r) = AsksOfNetwork (subcommand_of network_program (drop 1 arguments)) r
AsksIn true arguments r = ⊥
AsksIn false arguments r = AsksFor (subcommand_of program arguments) r

-- `clap` takes the arguments, and its entries ask for this
abbrev pub Asks : List Text → Request → Type 0
Asks arguments r = (faults_of arguments ≡ []) × AsksIn (is_network arguments) arguments r

-- an error of this kind has the text of help or of the version
abbrev pub IsShown : ErrorKind → Type 0
IsShown kind = (kind ≡ DisplayHelp) ⊎ (kind ≡ DisplayVersion)

-- the arguments ask `clap` for help, or for the version
abbrev pub AskForHelp : List Text → Type 0
AskForHelp arguments = (kind : ErrorKind) × IsAmong kind (faults_of arguments) × IsShown kind

-- `clap` refuses the arguments, or takes them and its entries ask for nothing within the limits
abbrev pub AreRefused : List Text → Type 0
AreRefused arguments =
    ((kind : ErrorKind) × IsAmong kind (faults_of arguments) × (IsShown kind → ⊥))
    ⊎ ((faults_of arguments ≡ []) × ((r : Request) → AsksIn (is_network arguments) arguments r → ⊥))

-- why an error of a kind leaves the arguments with no request
abbrev pub Explains : ErrorKind → NoRequest → Type 0
Explains kind (Help text) = IsShown kind
Explains kind Usage = (IsShown kind → ⊥) × (kind ≢ OutOfMemory)
Explains kind Memory = Unit {0}

-- what the arguments ask for, or why they ask for nothing
abbrev pub Reads : List Text → Result Request NoRequest → Type 0
Reads arguments (Ok r) = Asks arguments r
Reads arguments (Err (Help text)) = AskForHelp arguments
Reads arguments (Err Usage) = AreRefused arguments
Reads arguments (Err Memory) = Unit {0}

-- ---- what one program makes of arguments

-- `clap` gives matches of the arguments, with this subcommand and its entries
abbrev pub HasMatches : App → List Text → Option (Text × List Row) → Type 0
HasMatches app arguments sub = (fault_of app arguments ≡ []) × (sub ≡ subcommand_of app arguments)

-- `clap` gives no matches of the arguments, for a fault of one of these kinds
abbrev pub HasNoMatches : Kinds → NoRequest → Type 0
HasNoMatches kinds (Help text) = (kind : ErrorKind) × IsAmong kind kinds × IsShown kind
HasNoMatches kinds Usage = (kind : ErrorKind) × IsAmong kind kinds × (IsShown kind → ⊥)
HasNoMatches kinds Memory = Unit {0}
