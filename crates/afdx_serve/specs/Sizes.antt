-- What is reported of the size of a table's ports: what each needs and has, and the rules that it breaks (profile).
use Rattle.std.specs.Prelude.{◌≡◌, ℕ, codes, nat_lt, ◌<◌, ◌+◌, List, [], ◌∷◌, ◌++◌, Option, Some, None, unwrap_or, if◌then◌else◌}
use Rattle.std.specs.Fmt.{decimal}
use Rattle.afdx_table.specs.declared.rows.PortRow.{PortRow}
use Rattle.afdx_table.specs.Link.{Link}
use Rattle.afdx_table.specs.Content.{Content}
use Rattle.afdx_load.specs.Load.{Load, load_of}
use Rattle.afdx_account.specs.Policing.{parts}
use Rattle.afdx_load.specs.Bounds.{high_bound, low_bound}
use Rattle.afdx_load.specs.Fits.{broken_rules}
use Rattle.afdx_load.specs.declared.fault.Rule.{Rule}
use Rattle.afdx_load.specs.declared.fault.Rule.TheVariants.{Rate, Buffer, HighDelay, LowDelay}
use Rattle.afdx_wiring.specs.Lines.{as_line}
use Rattle.afdx_network_check.specs.Net.{Network}
use Rattle.afdx_csv.specs.declared.form.Form.{Form}
use Rattle.afdx_csv.specs.declared.form.Form.TheVariants.{Lines, Csv}
use Rattle.afdx_rows.specs.Loads.{size_columns, network_size_columns, size_row}
use Rattle.afdx_network_report.specs.Lines.{Names, name_of}
use Rattle.afdx_folder.specs.Files.{Files}
use Rattle.afdx_serve.specs.Checks.{IsLeastBuffer, AreTextsOf, heading_in}
use Rattle.afdx_serve.specs.Networks.{names_of, HasNetwork}
use Rattle.afdx_serve.specs.Runs.{HasTable}

-- a need beside its limit, in one unit
abbrev pub pair_text : List ℕ → ℕ → List ℕ
pair_text need limit = need ++ codes " of " ++ decimal limit

-- a bound in nanoseconds; there is none if the high links ask for the whole line or more
abbrev pub need_text : Option ℕ → List ℕ
need_text None = codes "none"
need_text (Some bound) = decimal bound

-- the bound of a priority beside the greatest delay; only a priority with links has one
abbrev pub delay_text : ℕ → Option ℕ → ℕ → List ℕ
delay_text links bound limit = if nat_lt 0 links then pair_text (need_text bound) limit else codes "-"

-- the letter of a rule
abbrev pub letter_of : Rule → List ℕ
letter_of Rate = codes " L1"
letter_of Buffer = codes " L2"
letter_of HighDelay = codes " L3"
letter_of LowDelay = codes " L4"

-- the letters of the rules that a port breaks
abbrev pub letters_of : List Rule → List ℕ
letters_of [] = []
letters_of (rule ∷ rules) = letter_of rule ++ letters_of rules

-- the rules that are broken, all of them in their order
abbrev pub verdict_text : List Rule → List ℕ
verdict_text [] = codes " fits"
verdict_text (rule ∷ rules) = codes " breaks" ++ letters_of (rule ∷ rules)

-- what a port's links need of the line and of the buffer, and what it has, in parts of the line and in bytes
abbrev pub amounts_text : PortRow → Load → ℕ → List ℕ
amounts_text row load least =
    codes "port " ++ decimal row.id ++ codes " rate " ++ pair_text (decimal load.rate) parts ++ codes " buffer " ++ pair_text (decimal least) row.buffer

-- the bounds of a port's links beside the greatest delay, in nanoseconds
abbrev pub delays_text : PortRow → Load → List ℕ
delays_text row load = codes " high " ++ delay_text load.highs (high_bound load) row.max_delay ++ codes " low " ++ delay_text load.lows (low_bound load) row.max_delay

-- what is written of a port's size: the amounts, the bounds, and the rules that are broken
abbrev pub size_text : PortRow → Load → ℕ → List ℕ
size_text row load least = amounts_text row load least ++ delays_text row load ++ verdict_text (broken_rules row load)

-- the name of the switch whose table it is, if it is one of a network's: as a fault names it
abbrev pub of_switch : Option (List ℕ) → List ℕ
of_switch None = []
of_switch (Some name) = codes ", switch " ++ name

-- the columns of one table's sizes, or of a network's
abbrev pub columns_for : Option (List ℕ) → List (List ℕ)
columns_for None = size_columns
columns_for (Some name) = network_size_columns

-- what is written of a port's size, in either form
abbrev pub size_in : Form → Option (List ℕ) → PortRow → Load → ℕ → List ℕ
size_in Lines switch row load least = as_line (size_text row load least ++ of_switch switch)
size_in Csv switch row load least = size_row (columns_for switch) (unwrap_or switch []) row load least

-- the heading before the sizes of all ports, in a form that has one
abbrev pub size_heading : Form → Option (List ℕ) → List ℕ
size_heading form switch = heading_in form (columns_for switch)

-- the line of a port; a port without links has none
abbrev pub IsSizeOf : Form → Option (List ℕ) → PortRow → Load → List ℕ → Type 0
IsSizeOf form switch row load line =
    (0 < load.highs + load.lows → (least : ℕ) × IsLeastBuffer row load least × (line ≡ size_in form switch row load least))
    × ((0 < load.highs + load.lows → ⊥) → line ≡ [])

-- the lines of these ports, in their order
abbrev pub AreSizesOf : Form → Option (List ℕ) → ℕ → List Link → List PortRow → List ℕ → Type 0
AreSizesOf form switch latency links = AreTextsOf (λ row line. IsSizeOf form switch row (load_of latency row.speed row.id links) line)

-- the lines of the ports of a switch's table by rising number
abbrev pub AreSizesWith : Form → Option (List ℕ) → Content → List ℕ → Type 0
AreSizesWith form switch t text = AreSizesOf form switch t.latency t.links t.ports text

-- what is written of the sizes of a table alone
abbrev pub AreSizesIn : Form → Content → List ℕ → Type 0
AreSizesIn form t text = (lines : List ℕ) × AreSizesWith form None t lines × (text ≡ size_heading form None ++ lines)

-- `size` reports this of the file's table, whether it fits or not
abbrev pub SizesTo : Form → List ℕ → Option Files → List ℕ → Type 0
SizesTo form path files text = (t : Content) × HasTable files path t × AreSizesIn form t text

-- ---- of a network

-- the lines of these tables, the first of which is that of the switch of this number
abbrev pub AreSizesFrom : Form → ℕ → Names → List Content → List ℕ → Type 0
AreSizesFrom form n names [] text = text ≡ []
AreSizesFrom form n names (t ∷ tables) text =
    (lines : List ℕ) × (rest : List ℕ) × AreSizesWith form (Some (name_of names n)) t lines × AreSizesFrom form (n + 1) names tables rest × (text ≡ lines ++ rest)

-- what is written of the sizes of all switches of a network
abbrev pub AreSizesOfAll : Form → Names → List Content → List ℕ → Type 0
AreSizesOfAll form names tables text =
    (lines : List ℕ) × AreSizesFrom form 0 names tables lines × (text ≡ size_heading form (Some []) ++ lines)

-- `network size` reports this of the tables of the file's network, each with the name of its switch, whether they fit or not
abbrev pub SizesNetworkTo : Form → List ℕ → Option Files → List ℕ → Type 0
SizesNetworkTo form path files text = (net : Network) × HasNetwork files path net × AreSizesOfAll form (names_of net.layout.switches) net.tables text
