-- The fields of one TOML table, each read with its first refusal: the key is missing, its value is of another kind, or out of its range.
use Rattle.std.specs.Prelude.{ℕ, ℤ, pos, negsuc, Bool, true, ◌&&◌, if◌then◌else◌, nat_le, List, [], ◌∷◌, Option, Some, None, option_map, option_and_then, Result, Ok, Err}
use Rattle.std.specs.Str.{bytes_eq}
use Rattle.std.specs.List.{list_any}
use Rattle.toml.specs.Data.{Data, Items, no_items, item, Members, no_members, member, get_member, as_integer, as_str, as_array, as_table}
use Rattle.afdx_table.specs.declared.fault.At.{At}
use Rattle.afdx_table.specs.declared.fault.Key.{Key}
use Rattle.afdx_table.specs.declared.fault.TableFault.{TableFault}
use Rattle.afdx_table.specs.declared.fault.TableFault.TheVariants.{MissingKey, Kind, Range, UnknownKey}
use Rattle.afdx_table.specs.Names.{key_text}
use Rattle.afdx_table.specs.Refusal.{◌>>=◌, or_refuse}

-- a number that is not negative
abbrev pub natural_of : ℤ → Option ℕ
natural_of (pos n) = Some n
natural_of (negsuc n) = None

-- the text is one of these keys
abbrev pub is_one_of : List Key → List ℕ → Bool
is_one_of ks text = list_any (λ k. bytes_eq text (key_text k)) ks

-- every key of the table is one of these
abbrev pub are_known : List Key → Members → Bool
are_known ks no_members = true
are_known ks (member text d ms) = is_one_of ks text && are_known ks ms

-- the table has no other key than these
unfoldable pub known_at : At → List Key → Members → Result (Unit {0}) TableFault
known_at at ks ms = if are_known ks ms then Ok tt else Err (UnknownKey at)

-- what f says of each item, if it says something of all
abbrev pub all_of : {A : Type 0} → (Data → Option A) → Items → Option (List A)
all_of f no_items = Some []
all_of f (item d ds) = option_and_then (λ x. option_map (λ xs. x ∷ xs) (all_of f ds)) (f d)

-- a required key's value
unfoldable pub value_at : At → Key → Members → Result Data TableFault
value_at at k ms = or_refuse (MissingKey at k) (get_member (key_text k) ms)

-- the number that a value is
unfoldable pub number_in : At → Key → Data → Result ℕ TableFault
number_in at k d = do
  z ← or_refuse (Kind at k) (as_integer d)
  or_refuse (Range at k) (natural_of z)

-- the text that a value is
unfoldable pub text_in : At → Key → Data → Result (List ℕ) TableFault
text_in at k d = or_refuse (Kind at k) (as_str d)

-- a required number
unfoldable pub number_at : At → Key → Members → Result ℕ TableFault
number_at at k ms = value_at at k ms >>= number_in at k

-- this number, if it is from low to high
unfoldable pub bounded : At → Key → ℕ → ℕ → ℕ → Result ℕ TableFault
bounded at k low high n = if nat_le low n && nat_le n high then Ok n else Err (Range at k)

-- a required number from low to high
unfoldable pub bounded_at : At → Key → ℕ → ℕ → Members → Result ℕ TableFault
bounded_at at k low high ms = number_at at k ms >>= bounded at k low high

-- a required text
unfoldable pub text_at : At → Key → Members → Result (List ℕ) TableFault
text_at at k ms = value_at at k ms >>= text_in at k

-- what f reads of an optional value
abbrev pub if_present : {A : Type 0} → (Data → Result A TableFault) → Option Data → Result (Option A) TableFault
if_present f None = Ok None
if_present f (Some d) = f d >>= λ x. Ok (Some x)

-- an optional number
unfoldable pub optional_number_at : At → Key → Members → Result (Option ℕ) TableFault
optional_number_at at k ms = if_present (number_in at k) (get_member (key_text k) ms)

-- an optional text
unfoldable pub optional_text_at : At → Key → Members → Result (Option (List ℕ)) TableFault
optional_text_at at k ms = if_present (text_in at k) (get_member (key_text k) ms)

-- the tables under a key, in file order: none if it is missing
abbrev pub tables_in : At → Key → Option Data → Result (List Members) TableFault
tables_in at k None = Ok []
tables_in at k (Some d) = or_refuse (Kind at k) (option_and_then (all_of as_table) (as_array d))

-- an optional array of tables
unfoldable pub tables_at : At → Key → Members → Result (List Members) TableFault
tables_at at k ms = tables_in at k (get_member (key_text k) ms)

-- a whole number: no number if it is negative
abbrev pub as_natural : Data → Option (Option ℕ)
as_natural d = option_map natural_of (as_integer d)

-- a whole number from low to high
unfoldable pub bounded_natural : At → Key → ℕ → ℕ → Option ℕ → Result ℕ TableFault
bounded_natural at k low high o = or_refuse (Range at k) o >>= bounded at k low high

-- these numbers, each from low to high
unfoldable pub all_bounded : At → Key → ℕ → ℕ → List (Option ℕ) → Result (List ℕ) TableFault
all_bounded at k low high [] = Ok []
all_bounded at k low high (o ∷ os) = do
  n ← bounded_natural at k low high o
  ns ← all_bounded at k low high os
  Ok (n ∷ ns)

-- a required array of numbers, each from low to high
unfoldable pub numbers_at : At → Key → ℕ → ℕ → Members → Result (List ℕ) TableFault
numbers_at at k low high ms = do
  d ← value_at at k ms
  os ← or_refuse (Kind at k) (option_and_then (all_of as_natural) (as_array d))
  all_bounded at k low high os
