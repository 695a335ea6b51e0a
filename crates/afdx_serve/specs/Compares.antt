-- What is found out from recordings in folders, and what is put of it (profile).
use Rattle.std.specs.Prelude.{◌≡◌, ◌⊎◌, ℕ, ◌-◌, nat_lt, ◌||◌, Bool, true, false, codes, List, [], ◌∷◌, ◌++◌, map, flat_map, length, Option, Some, is_some, option_to_list, string_bytes}
use Rattle.std.specs.Prelude.{if◌then◌else◌}
use Rattle.std.specs.Option.{option_map_or}
use Rattle.afdx_pcap.specs.declared.fault.PcapFault.{PcapFault}
use Rattle.afdx_table.specs.declared.rows.PortRow.{PortRow}
use Rattle.afdx_table.specs.Content.{Content}
use Rattle.afdx_load.specs.declared.fault.LoadFault.{LoadFault}
use Rattle.afdx_grouping.specs.Scatter.{IsAcceptedWith, first_scattered_fault}
use Rattle.afdx_recordings.specs.declared.recordings.Recordings.{Recordings}
use Rattle.afdx_recordings.specs.declared.outputs.Outputs.{Outputs}
use Rattle.afdx_recordings.specs.Recordings.{is_recorded}
use Rattle.afdx_compare.specs.Comparison.{Comparison}
use Rattle.afdx_compare.specs.Sources.{sources_of}
use Rattle.afdx_compare.specs.Found.{IsFound, IsFirstAt}
use Rattle.afdx_compare.specs.Differences.{differences_of}
use Rattle.afdx_arguments.specs.declared.request.Compare.{Compare}
use Rattle.afdx_messages.specs.declared.argument.ArgumentFault.{ArgumentFault}
use Rattle.afdx_messages.specs.declared.argument.ArgumentFault.TheVariants.{Span}
use Rattle.afdx_messages.specs.declared.failure.Failure.{Failure}
use Rattle.afdx_messages.specs.declared.failure.Failure.TheVariants as failure
use Rattle.afdx_folder.specs.Files.{Files, ShowsAll, KeepsFiles, PutsFiles, DeviceLog, settled_after}
use Rattle.afdx_serve.specs.Fits.{Fits, first_argument_fault}
use Rattle.afdx_serve.specs.Runs.{capture_name, HasTable, GetsNamed, WasNotRead, StopsAt, EndsAt, FailsToRead}

-- ---- what is got

-- by how much latencies differ: as much as the table's is above the least
abbrev pub scatter_of : Content → Recordings → ℕ
scatter_of t r = t.latency - r.least

-- the file is the text of this table, which the options fit
abbrev pub HasFittingTable : Option Files → List ℕ → Recordings → Content → Type 0
HasFittingTable files path r t = HasTable files path t × Fits t r

-- the file is the text of such a table, which is accepted at a switch whose latency varies so
abbrev pub HasVaryingTable : Option Files → List ℕ → Recordings → Content → Type 0
HasVaryingTable files path r t = HasFittingTable files path r t × IsAcceptedWith (scatter_of t r) t

-- the file is the text of such a table, which is not accepted; this is the first fault
abbrev pub HasFaultyTable : Option Files → List ℕ → Recordings → LoadFault → Type 0
HasFaultyTable files path r fault = (t : Content) × HasFittingTable files path r t × (first_scattered_fault (scatter_of t r) t.latency t.links t.ports ≡ Some fault)

-- the file is the text of a table that the options do not fit; this is the first that does not
abbrev pub HasUnfitTable : Option Files → List ℕ → Recordings → ArgumentFault → Type 0
HasUnfitTable files path r fault = (t : Content) × HasTable files path t × (first_argument_fault t r ≡ Some fault)

-- the names of what was recorded at output ports, by rising number
abbrev pub output_names : List ℕ → Outputs → List PortRow → List (List ℕ)
output_names path recorded ports = flat_map (λ p. if is_recorded recorded p.id then capture_name path p.id ∷ [] else []) ports

-- the names of all captures that are compared: of what came at each port, and then of what left
abbrev pub names_of : Compare → Outputs → List PortRow → List (List ℕ)
names_of c recorded ports = map (λ p. capture_name c.input.now p.id) ports ++ output_names c.output.now recorded ports

-- the names of all captures that are compared, for a table
abbrev pub recording_names : Compare → Recordings → Content → List (List ℕ)
recording_names c r t = names_of c r.outputs t.ports

-- ---- what is found out

-- what is found out from the captures under these names, if readers give exactly their texts
pub record IsFoundUnder (names : List (List ℕ)) (t : Content) (r : Recordings) (keeping : Bool) (files : Option Files) (from until : ℕ) (first last : Option ℕ) (found : Comparison) : Type 0 where
  pub texts : List (List ℕ)
  pub shown : ShowsAll files names texts
  pub is_found : IsFound (λ (text : List ℕ). Some text) t r keeping texts from until first last found

-- A4: in this span nothing is judged: it ends before it begins, or before the first stamp of all, or begins after the last one
abbrev pub is_over : ℕ → ℕ → Option ℕ → Option ℕ → Bool
is_over from until first last = (nat_lt until from || option_map_or (λ at. nat_lt until at) first false) || option_map_or (λ at. nat_lt at from) last false

-- what is found out from the files: differences are kept if a folder is named for them, and its span is not over
abbrev pub IsFoundIn : Compare → Recordings → Option Files → ℕ → ℕ → Comparison → Type 0
IsFoundIn c r files from until found =
    (t : Content) × (first last : Option ℕ) × HasVaryingTable files c.table.now r t × IsFoundUnder (recording_names c r t) t r (is_some c.rows) files from until first last found
    × (is_over from until first last ≡ false)

-- ---- what is put

-- profile: the name of the file of differences in a folder
abbrev pub rows_name : List ℕ → List ℕ
rows_name folder = folder ++ codes "/differences.csv"

-- the name of the file of differences if a folder is named, and else none
abbrev pub rows_names : Compare → List (List ℕ)
rows_names c = map (λ folder. rows_name folder.now) (option_to_list c.rows)

-- the text of the file of differences if a folder is named, and else none
abbrev pub rows_texts : Compare → Recordings → Comparison → List (List ℕ)
rows_texts c r found = map (λ folder. differences_of r found) (option_to_list c.rows)

-- what was found out from the files was put
abbrev pub PutsRows : Compare → Recordings → Option Files → Option Files → DeviceLog → DeviceLog → ℕ → ℕ → Comparison → Type 0
PutsRows c r old new before after from until found =
    IsFoundIn c r old from until found × PutsFiles old new (rows_names c) (rows_texts c r found) × (after ≡ settled_after (length (rows_names c)) before)

-- ---- why nothing is found out, and the failures before and after

-- there is no table that the options fit
abbrev pub FailsToGetFitting : Failure → Option Files → List ℕ → Recordings → DeviceLog → DeviceLog → Type 0
FailsToGetFitting (failure.Argument fault) files path r before after = HasUnfitTable files path r fault × (after ≡ before)
FailsToGetFitting f files path r before after = FailsToRead f files path before after

-- there is no table that the options fit, or it is not accepted at a switch whose latency varies so
abbrev pub FailsToGetVarying : Failure → Option Files → List ℕ → Recordings → DeviceLog → DeviceLog → Type 0
FailsToGetVarying (failure.Load fault) files path r before after = HasFaultyTable files path r fault × (after ≡ before)
FailsToGetVarying f files path r before after = FailsToGetFitting f files path r before after

-- of the files under these names, that of what left, or of what came, at a port is the first that is no capture, and has this fault
pub record IsFaultyUnder (names : List (List ℕ)) (t : Content) (r : Recordings) (files : Option Files) (leaves : Bool) (port : ℕ) (why : PcapFault) : Type 0 where
  pub texts : List (List ℕ)
  pub shown : ShowsAll files names texts
  pub first : IsFirstAt (λ (text : List ℕ). Some text) (sources_of t r).captures texts leaves port why

-- what is found out from the files under these names is of a span that is over, whose two instants are named
abbrev pub IsOver : ArgumentFault → List (List ℕ) → Content → Recordings → Option Files → Type 0
IsOver fault names t r files =
    (from until : ℕ) × (first last : Option ℕ) × (keeping : Bool) × (found : Comparison) × IsFoundUnder names t r keeping files from until first last found
    × (is_over from until first last ≡ true) × (fault ≡ Span from until)

-- the captures under these names were not got, or one is faulty, or what is found out from them is of a span that is over
abbrev pub FailsUnder : Failure → List (List ℕ) → Content → Recordings → Option Files → DeviceLog → DeviceLog → Type 0
FailsUnder (failure.Get name) names t r files before after = GetsNamed (string_bytes name) files names × WasNotRead (string_bytes name) before after
FailsUnder (failure.PortCapture port why) names t r files before after = IsFaultyUnder names t r files false port why × (after ≡ before)
FailsUnder (failure.OutputCapture port why) names t r files before after = IsFaultyUnder names t r files true port why × (after ≡ before)
FailsUnder (failure.Argument fault) names t r files before after = IsOver fault names t r files × (after ≡ before)
FailsUnder failure.Memory names t r files before after = Unit {0}
FailsUnder _ names t r files before after = ⊥

-- nothing is found out from the files
abbrev pub FailsToFind : Failure → Compare → Recordings → Option Files → DeviceLog → DeviceLog → Type 0
FailsToFind f c r files before after =
    FailsToGetVarying f files c.table.now r before after
    ⊎ ((t : Content) × HasVaryingTable files c.table.now r t × FailsUnder f (recording_names c r t) t r files before after)

-- ---- why it is not put

-- what was found out was put as far as the files before this name
abbrev pub StopsRows : List ℕ → Compare → Recordings → Option Files → Option Files → Type 0
StopsRows name c r old new =
    (from until : ℕ) × (found : Comparison) × IsFoundIn c r old from until found × StopsAt name (rows_names c) (rows_texts c r found) old new

-- what was found out was not put, since this name failed
abbrev pub EndsRows : List ℕ → Compare → Recordings → Option Files → Option Files → DeviceLog → DeviceLog → Type 0
EndsRows name c r old new before after =
    (from until : ℕ) × (found : Comparison) × IsFoundIn c r old from until found × EndsAt name (rows_names c) (rows_texts c r found) old new before after

-- nothing was found out, or it was not put
abbrev pub FailsToCompare : Failure → Compare → Recordings → Option Files → Option Files → DeviceLog → DeviceLog → Type 0
FailsToCompare (failure.Put name) c r old new before after = EndsRows (string_bytes name) c r old new before after
FailsToCompare failure.Memory c r old new before after = KeepsFiles old new ⊎ ((name : List ℕ) × StopsRows name c r old new)
FailsToCompare f c r old new before after = FailsToFind f c r old before after × KeepsFiles old new
