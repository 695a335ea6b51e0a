-- What a check writes of an accepted table (profile).
use Rattle.std.specs.Prelude.{◌≡◌, ◌↔◌, ℕ, codes, ◌<◌, ◌≤◌, ◌+◌, List, [], ◌∷◌, ◌++◌, Option, Some, None}
use Rattle.std.specs.Fmt.{decimal}
use Rattle.afdx_table.specs.declared.rows.PortRow.{PortRow}
use Rattle.afdx_table.specs.Link.{Link}
use Rattle.afdx_table.specs.Content.{Content}
use Rattle.afdx_load.specs.Load.{Load, load_of}
use Rattle.afdx_load.specs.Accepted.{IsAccepted}
use Rattle.afdx_load.specs.Bounds.{backlog, byte_time, high_bound, low_bound}
use Rattle.afdx_wiring.specs.Lines.{as_line}
use Rattle.afdx_csv.specs.declared.form.Form.{Form}
use Rattle.afdx_csv.specs.declared.form.Form.TheVariants.{Lines, Csv}
use Rattle.afdx_csv.specs.Csv.{heading}
use Rattle.afdx_rows.specs.Loads.{check_columns, check_row}
use Rattle.afdx_folder.specs.Files.{Files}
use Rattle.afdx_serve.specs.Runs.{HasTable}

-- the least buffer of a port, in bytes, that holds what may wait and be on the line at once
abbrev pub IsLeastBuffer : PortRow → Load → ℕ → Type 0
IsLeastBuffer row load least = (bytes : ℕ) → (backlog load ≤ byte_time row.speed bytes) ↔ (least ≤ bytes)

-- a bound in nanoseconds, which only a priority with links has
abbrev pub bound_text : Option ℕ → List ℕ
bound_text None = codes "-"
bound_text (Some bound) = decimal bound

-- what a port's links may ask for, and what that leads to
abbrev pub load_text : PortRow → Load → ℕ → List ℕ
load_text row load least =
    codes "port " ++ decimal row.id ++ codes " rate " ++ decimal load.rate ++ codes " buffer " ++ decimal least
    ++ codes " high " ++ bound_text (high_bound load) ++ codes " low " ++ bound_text (low_bound load)

-- what is written of a port
abbrev pub check_in : Form → PortRow → Load → ℕ → List ℕ
check_in Lines row load least = as_line (load_text row load least)
check_in Csv row load least = check_row row load least

-- the line of a port; a port without links has none
abbrev pub IsLineOf : Form → PortRow → Load → List ℕ → Type 0
IsLineOf form row load line =
    (0 < load.highs + load.lows → (least : ℕ) × IsLeastBuffer row load least × (line ≡ check_in form row load least))
    × ((0 < load.highs + load.lows → ⊥) → line ≡ [])

-- the text has what each of these ports has, in their order
abbrev pub AreTextsOf : (PortRow → List ℕ → Type 0) → List PortRow → List ℕ → Type 0
AreTextsOf Is [] text = text ≡ []
AreTextsOf Is (row ∷ rows) text = (line : List ℕ) × (rest : List ℕ) × Is row line × AreTextsOf Is rows rest × (text ≡ line ++ rest)

-- the lines of these ports, in their order
abbrev pub AreLinesOf : Form → ℕ → List Link → List PortRow → List ℕ → Type 0
AreLinesOf form latency links = AreTextsOf (λ row line. IsLineOf form row (load_of latency row.speed row.id links) line)

-- the heading of a form: rows are below one, lines are not
abbrev pub heading_in : Form → (columns : List (List ℕ)) → List ℕ
heading_in Lines columns = []
heading_in Csv columns = heading columns

-- what is written of an accepted table: its lines, and that it is accepted; or a heading, and its rows
abbrev pub check_text : Form → List ℕ → List ℕ
check_text Lines lines = lines ++ as_line (codes "accepted")
check_text Csv lines = heading check_columns ++ lines

-- what is written of a table's ports, by rising number
abbrev pub IsCheckOf : Form → Content → List ℕ → Type 0
IsCheckOf form t text = (lines : List ℕ) × AreLinesOf form t.latency t.links t.ports lines × (text ≡ check_text form lines)

-- `check` reports this of the file's table, which is accepted
abbrev pub ChecksTo : Form → List ℕ → Option Files → List ℕ → Type 0
ChecksTo form path files text = (t : Content) × HasTable files path t × IsAccepted t × IsCheckOf form t text
