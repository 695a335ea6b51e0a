-- What ports need and what they have, as rows (profile).
use Rattle.std.specs.Prelude.{ℕ, codes, decimal, nat_lt, List, [], ◌∷◌, ◌++◌, fold, Option, Some, None, if◌then◌else◌}
use Rattle.afdx_table.specs.declared.rows.PortRow.{PortRow}
use Rattle.afdx_load.specs.Load.{Load}
use Rattle.afdx_account.specs.Policing.{parts}
use Rattle.afdx_load.specs.Bounds.{high_bound, low_bound}
use Rattle.afdx_load.specs.Fits.{broken_rules}
use Rattle.afdx_load.specs.declared.fault.Rule.{Rule}
use Rattle.afdx_load.specs.declared.fault.Rule.TheVariants.{Rate, Buffer, HighDelay, LowDelay}
use Rattle.afdx_csv.specs.Csv.{optional, row}

-- ---- check

-- the columns of what ports may be asked for
abbrev pub check_columns : List (List ℕ)
check_columns = codes "port" ∷ codes "rate" ∷ codes "buffer" ∷ codes "high" ∷ codes "low" ∷ []

-- what a port's links may ask for, and what that leads to: a rate in parts of the line, bytes, and bounds in nanoseconds
abbrev pub check_row : PortRow → Load → ℕ → List ℕ
check_row p load least = row check_columns ((codes "port", decimal p.id) ∷ (codes "rate", decimal load.rate) ∷ (codes "buffer", decimal least)
    ∷ (codes "high", optional (high_bound load)) ∷ (codes "low", optional (low_bound load)) ∷ [])

-- ---- size

-- the columns of what ports need and have: in parts of a ns, bytes, and ns
abbrev pub size_columns : List (List ℕ)
size_columns = codes "port" ∷ codes "rate" ∷ codes "rate_limit" ∷ codes "buffer" ∷ codes "buffer_limit" ∷ codes "high" ∷ codes "high_limit"
    ∷ codes "low" ∷ codes "low_limit" ∷ codes "breaks" ∷ []

-- the columns of a network's sizes, whose first is the switch
abbrev pub network_size_columns : List (List ℕ)
network_size_columns = codes "switch" ∷ size_columns

-- the letter of a rule
abbrev pub letter_of : Rule → List ℕ
letter_of Rate = codes "L1"
letter_of Buffer = codes "L2"
letter_of HighDelay = codes "L3"
letter_of LowDelay = codes "L4"

-- letters and one more, with semicolons between them
abbrev pub with_letter : List ℕ → Rule → List ℕ
with_letter [] rule = letter_of rule
with_letter (b ∷ text) rule = (b ∷ text) ++ codes ";" ++ letter_of rule

-- the letters of the rules that a port breaks, with semicolons between them
abbrev pub breaks_text : List Rule → List ℕ
breaks_text = fold with_letter []

-- the greatest delay, for a priority that has links
abbrev pub limit_of : ℕ → PortRow → Option ℕ
limit_of links p = if nat_lt 0 links then Some p.max_delay else None

-- what the links of a port of the switch of this name need, what the port has, and the rules that are broken
abbrev pub size_row : List (List ℕ) → List ℕ → PortRow → Load → ℕ → List ℕ
size_row columns switch p load least = row columns ((codes "switch", switch) ∷ (codes "port", decimal p.id)
    ∷ (codes "rate", decimal load.rate) ∷ (codes "rate_limit", decimal parts) ∷ (codes "buffer", decimal least) ∷ (codes "buffer_limit", decimal p.buffer)
    ∷ (codes "high", optional (high_bound load)) ∷ (codes "high_limit", optional (limit_of load.highs p))
    ∷ (codes "low", optional (low_bound load)) ∷ (codes "low_limit", optional (limit_of load.lows p)) ∷ (codes "breaks", breaks_text (broken_rules p load)) ∷ [])
