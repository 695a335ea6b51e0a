-- What the commands of networks get from a folder, and why they are refused.
use Rattle.std.specs.Prelude.{◌≡◌, ◌≢◌, ◌⊎◌, ℕ, List, ◌∷◌, length, map, take, slice_get, Option, Some, None, option_map, option_and_then, Result, Ok, Err, Vec, string_bytes}
use Rattle.std.specs.Path.{path_with_file_name}
use Rattle.afdx_table.specs.Content.{Content}
use Rattle.afdx_table.specs.Text.{table_of}
use Rattle.afdx_table.specs.declared.fault.TableFault.{TableFault}
use Rattle.afdx_table.specs.declared.fault.TableFault.TheVariants as table
use Rattle.afdx_wiring.specs.File.{Switch, Layout, layout_of}
use Rattle.afdx_network_check.specs.Net.{Network}
use Rattle.afdx_network_check.specs.Order.{lost_port, loads_fit, misfit, shortages}
use Rattle.afdx_wiring.specs.Refusal.{◌>>=◌}
use Rattle.afdx_wiring.specs.declared.fault.NetworkFault.{NetworkFault}
use Rattle.afdx_wiring.specs.declared.fault.NetworkFault.TheVariants as fault
use Rattle.afdx_wiring.specs.declared.fault.Short.{Short}
use Rattle.afdx_network_report.specs.Lines.{Names}
use Rattle.afdx_messages.specs.declared.network_failure.JitterRule.{JitterRule}
use Rattle.afdx_messages.specs.declared.network_failure.JitterRule.TheVariants as jitter
use Rattle.afdx_messages.specs.declared.network_failure.NetworkFailure.TheVariants as network
use Rattle.afdx_messages.specs.declared.failure.Failure.{Failure}
use Rattle.afdx_messages.specs.declared.failure.Failure.TheVariants as failure
use Rattle.afdx_folder.specs.Files.{Files, Shows, ShowsAll, DeviceLog, one_more}
use Rattle.afdx_serve.specs.Runs.{FailsToGet}

-- ---- what is got

-- the bytes of texts that the code has
abbrev pub bytes_in : {Z : Type 0} → List (Vec ℕ Z) → List (List ℕ)
bytes_in texts = map (λ text. text.items) texts

-- profile: a table's file is beside the network file, unless its name begins with `/`
abbrev pub table_names : List ℕ → List Switch → List (List ℕ)
table_names path switches = map (λ s. path_with_file_name path s.path) switches

-- the names of switches, by their places
abbrev pub names_of : List Switch → Names
names_of switches = map (λ s. s.name) switches

-- the file is the text of this layout
abbrev pub HasLayout : Option Files → List ℕ → Layout → Type 0
HasLayout files path l = (text : List ℕ) × Shows files path text × (layout_of text ≡ Ok l)

-- the files of a network's tables have these texts, one for each switch
abbrev pub HasTexts : Option Files → List ℕ → List Switch → List (List ℕ) → Type 0
HasTexts files path switches texts = ShowsAll files (table_names path switches) texts × (length texts ≡ length switches)

-- the tables of these texts
abbrev pub AreTables : List (List ℕ) → List Content → Type 0
AreTables texts tables = map table_of texts ≡ map (λ t. Ok t) tables

-- the files hold a layout and the tables of its switches; each end of a wire is a port
pub record HasNetwork (files : Option Files) (path : List ℕ) (net : Network) : Type 0 where
  pub texts : List (List ℕ)
  pub has_layout : HasLayout files path net.layout
  pub has_texts : HasTexts files path net.layout.switches texts
  pub are_tables : AreTables texts net.tables
  pub ports : lost_port net.tables net.layout.wires ≡ Ok tt

-- ---- refusals

-- the switch that a refusal is of
abbrev pub switch_of : NetworkFault → Option ℕ
switch_of (fault.Latency switch) = Some switch
switch_of (fault.Load switch why) = Some switch
switch_of (fault.NoSource switch link) = Some switch
switch_of (fault.Jitter short) = Some short.switch
switch_of (fault.NoJitter short) = Some short.switch
switch_of _ = None

-- the name of the switch that a refusal is of
abbrev pub named : Names → NetworkFault → Option (List ℕ)
named names e = option_and_then (slice_get names) (switch_of e)

-- the failure that a refusal leads to: the refusal, with the name of its switch; or memory
abbrev pub IsRefused : Names → NetworkFault → Failure → Type 0
IsRefused names e (failure.Network (network.Refused f name)) = (f ≡ e) × (e ≢ fault.Memory) × (option_map string_bytes name ≡ named names e)
IsRefused names e failure.Memory = Unit {0}
IsRefused names e _ = ⊥

-- the failure that a refusal of the table of the switch of this name leads to; or memory
abbrev pub IsRefusedTable : TableFault → List ℕ → Failure → Type 0
IsRefusedTable refusal name (failure.Network (network.Table r n)) = (r ≡ refusal) × (refusal ≢ table.Memory) × (string_bytes n ≡ name)
IsRefusedTable refusal name failure.Memory = Unit {0}
IsRefusedTable refusal name _ = ⊥

-- the failure that rows lead to which a rule of jitters refuses: all of them; or memory
abbrev pub AreRefusedRows : Names → JitterRule → List Short → Failure → Type 0
AreRefusedRows names rule shorts (failure.Network (network.Rows r s n)) = (r ≡ rule) × (s.items ≡ shorts) × (map string_bytes n.items ≡ names)
AreRefusedRows names rule shorts failure.Memory = Unit {0}
AreRefusedRows names rule shorts _ = ⊥

-- the verdict on a network: the first refusal, or the rows whose jitter is not enough
abbrev pub NetworkVerdict : Type 0
NetworkVerdict = Result (List Short) NetworkFault

-- the verdict on a network whose loads are accepted: what tables do not agree on, or else the rows whose jitter is not enough
abbrev pub judged : Network → NetworkVerdict
judged net = misfit net >>= λ fits. shortages net

-- the verdict on a network that is there: the refusal of a load, or else that of its tables and jitters
unfoldable pub verdict_of : Network → NetworkVerdict
verdict_of net = loads_fit net >>= λ loads. judged net

-- the failure that a verdict leads to: that of the refusal, or of all those rows
abbrev pub LeadsToFailure : Names → NetworkVerdict → Failure → Type 0
LeadsToFailure names verdict f =
    ((e : NetworkFault) × (e ≢ fault.Memory → verdict ≡ Err e) × IsRefused names e f)
    ⊎ ((first : Short) × (more : List Short) × (verdict ≡ Ok (first ∷ more)) × AreRefusedRows names jitter.Jitter (first ∷ more) f)

-- a network was not accepted
abbrev pub FailsToAcceptNetwork : Failure → Network → Type 0
FailsToAcceptNetwork f net = LeadsToFailure (names_of net.layout.switches) (verdict_of net) f

-- ---- why a network was not got, and the failures before and after

-- a network's layout was not got
abbrev pub FailsToLayout : Failure → Option Files → List ℕ → DeviceLog → DeviceLog → Type 0
FailsToLayout (failure.Network (network.Refused e name)) files path before after =
    ((text : List ℕ) × Shows files path text × (layout_of text ≡ Err e)) × (name ≡ None) × (after ≡ before)
FailsToLayout f files path before after = FailsToGet f path before after

-- the name is that of a table's file, and those of the switches before it were got
pub record GetsTables (name : List ℕ) (files : Option Files) (path : List ℕ) (switches : List Switch) : Type 0 where
  pub place : ℕ
  pub got : List (List ℕ)
  pub is_there : slice_get (table_names path switches) place ≡ Some name
  pub earlier : ShowsAll files (take place (table_names path switches)) got

-- a table's file was not got
abbrev pub FailsToGetTexts : Failure → Option Files → List ℕ → List Switch → DeviceLog → DeviceLog → Type 0
FailsToGetTexts (failure.Get name) files path switches before after = GetsTables (string_bytes name) files path switches × (after ≡ one_more (string_bytes name) before)
FailsToGetTexts failure.Memory files path switches before after = Unit {0}
FailsToGetTexts _ files path switches before after = ⊥

-- the text of the switch at this place has this first refusal, and those before it are of tables
pub record StopsAtTable (name : List ℕ) (refusal : TableFault) (switches : List Switch) (texts : List (List ℕ)) : Type 0 where
  pub place : ℕ
  pub before : List Content
  pub text : List ℕ
  pub earlier : AreTables (take place texts) before
  pub text_is : slice_get texts place ≡ Some text
  pub refused : table_of text ≡ Err refusal
  pub name_is : slice_get (names_of switches) place ≡ Some name

-- one of the texts is of no table
abbrev pub FailsToReadTables : Failure → List Switch → List (List ℕ) → Type 0
FailsToReadTables (failure.Network (network.Table refusal name)) switches texts = StopsAtTable (string_bytes name) refusal switches texts
FailsToReadTables failure.Memory switches texts = Unit {0}
FailsToReadTables _ switches texts = ⊥

-- the tables of a network were not there, or one of the wires' ends is no port
abbrev pub FailsToJoin : Failure → Option Files → List ℕ → Layout → DeviceLog → DeviceLog → Type 0
FailsToJoin (failure.Network (network.Table refusal name)) files path l before after =
    ((texts : List (List ℕ)) × HasTexts files path l.switches texts × StopsAtTable (string_bytes name) refusal l.switches texts) × (after ≡ before)
FailsToJoin (failure.Network (network.Refused e name)) files path l before after =
    ((texts : List (List ℕ)) × (tables : List Content) × HasTexts files path l.switches texts × AreTables texts tables × (lost_port tables l.wires ≡ Err e))
    × (name ≡ None) × (after ≡ before)
FailsToJoin f files path l before after = FailsToGetTexts f files path l.switches before after

-- a network was not got
abbrev pub FailsToGetNetwork : Failure → Option Files → List ℕ → DeviceLog → DeviceLog → Type 0
FailsToGetNetwork f files path before after =
    FailsToLayout f files path before after ⊎ ((l : Layout) × HasLayout files path l × FailsToJoin f files path l before after)

-- a network was not got; or it was, and is refused for this
abbrev pub FailsToTakeNetwork : (Failure → Network → Type 0) → Failure → Option Files → List ℕ → DeviceLog → DeviceLog → Type 0
FailsToTakeNetwork IsWhy f files path before after =
    FailsToGetNetwork f files path before after ⊎ ((net : Network) × HasNetwork files path net × IsWhy f net × (after ≡ before))
