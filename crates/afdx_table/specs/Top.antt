-- The top of a table (profile).
use Rattle.std.specs.Prelude.{ℕ, ◌==◌, ◌*◌, ◌%◌, nat_lt, if◌then◌else◌, List, [], ◌∷◌, length, Option, Some, None, Result, Ok, Err}
use Rattle.hex.specs.Hex.{decode_sized}
use Rattle.hex.specs.declared.error.FromHexError.{FromHexError}
use Rattle.toml.specs.Data.{Members}
use Rattle.afdx_table.specs.declared.fault.At.TheVariants as place
use Rattle.afdx_table.specs.declared.fault.Key.{Key}
use Rattle.afdx_table.specs.declared.fault.Key.TheVariants as key
use Rattle.afdx_table.specs.declared.fault.TableFault.{TableFault}
use Rattle.afdx_table.specs.declared.fault.TableFault.TheVariants.{Constant, TooMany}
use Rattle.afdx_table.specs.Refusal.{◌>>=◌}
use Rattle.afdx_table.specs.Fields.{known_at, bounded, tables_at, optional_number_at, optional_text_at}

-- the keys of the top in each version
abbrev pub first_keys : List Key
first_keys = key.Version ∷ key.Constant ∷ key.Port ∷ key.Link ∷ []

-- the keys of the top in any version
abbrev pub all_keys : List Key
all_keys = key.Version ∷ key.Constant ∷ key.Latency ∷ key.Port ∷ key.Link ∷ []

-- the keys of the top of a table of this version: from the third on it may state a latency
abbrev pub top_keys : ℕ → List Key
top_keys version = if nat_lt version 3 then first_keys else all_keys

-- what the top says: the version, the constant field, the latency in nanoseconds, and the TOML tables of the ports and of the links
pub record Top : Type 0 where
  pub version : ℕ
  pub constant : List ℕ
  pub latency : ℕ
  pub ports : List Members
  pub links : List Members

-- a table that states no version is of the first
abbrev pub version_from : Option ℕ → Result ℕ TableFault
version_from None = Ok 1
version_from (Some n) = bounded place.Top key.Version 1 3 n

-- ARINC 664 Part 7: the first byte of the constant field has its two lowest bits set, since the address is a group's and locally administered
abbrev pub group_address : Result (List ℕ) FromHexError → Result (List ℕ) TableFault
group_address (Ok []) = Err Constant
group_address (Ok (b ∷ bs)) = if b % 4 == 3 then Ok (b ∷ bs) else Err Constant
group_address (Err e) = Err Constant

-- the constant field is 03 00 00 00, or what is stated as eight hexadecimal digits
abbrev pub constant_from : Option (List ℕ) → Result (List ℕ) TableFault
constant_from None = Ok (3 ∷ 0 ∷ 0 ∷ 0 ∷ [])
constant_from (Some text) = group_address (decode_sized text 4)

-- a table that states no latency has none; it is written in microseconds
abbrev pub latency_from : Option ℕ → Result ℕ TableFault
latency_from None = Ok 0
latency_from (Some n) = bounded place.Top key.Latency 0 100 n

-- no more tables than n
unfoldable pub at_most : ℕ → Key → List Members → Result (Unit {0}) TableFault
at_most n k tables = if nat_lt n (length tables) then Err (TooMany k) else Ok tt

-- the top of these fields
unfoldable pub top_at : Members → Result Top TableFault
top_at ms = do
  known ← known_at place.Top all_keys ms
  stated_version ← optional_number_at place.Top key.Version ms
  version ← version_from stated_version
  known_there ← known_at place.Top (top_keys version) ms
  stated_constant ← optional_text_at place.Top key.Constant ms
  constant ← constant_from stated_constant
  stated_latency ← optional_number_at place.Top key.Latency ms
  latency_us ← latency_from stated_latency
  ports ← tables_at place.Top key.Port ms
  links ← tables_at place.Top key.Link ms
  few_ports ← at_most 24 key.Port ports
  few_links ← at_most 4096 key.Link links
  Ok (record { version = version; constant = constant; latency = latency_us * 1000; ports = ports; links = links })
