-- The fields of one TOML table, each read with its first refusal: the key is missing, its value is of another kind, or out of its range.
use Rattle.std.specs.Prelude.{ℕ, Bool, true, false, not, ◌&&◌, if◌then◌else◌, nat_le, List, [], Option, Some, None, option_and_then, Result, Ok, Err}
use Rattle.std.specs.List.{list_any}
use Rattle.std.specs.Str.{bytes_eq}
use Rattle.toml.specs.Data.{Data, Members, no_members, member, get_member, as_integer, as_bool, as_str, as_array, as_table}
use Rattle.afdx_table.specs.Fields.{natural_of, all_of}
use Rattle.afdx_wiring.specs.declared.fault.At.{At}
use Rattle.afdx_wiring.specs.declared.fault.Key.{Key}
use Rattle.afdx_wiring.specs.declared.fault.NetworkFault.{NetworkFault}
use Rattle.afdx_wiring.specs.declared.fault.NetworkFault.TheVariants.{UnknownKey, MissingKey, Kind, Range}
use Rattle.afdx_wiring.specs.Names.{key_text}
use Rattle.afdx_wiring.specs.Refusal.{◌>>=◌, or_refuse, unless}

-- the text is one of these keys
abbrev pub is_one_of : List Key → List ℕ → Bool
is_one_of ks text = list_any (λ k. bytes_eq text (key_text k)) ks

-- every key of the table is one of these
abbrev pub are_known : List Key → Members → Bool
are_known ks no_members = true
are_known ks (member text d ms) = is_one_of ks text && are_known ks ms

-- the table has no other key than these
unfoldable pub known_at : At → List Key → Members → Result (Unit {0}) NetworkFault
known_at at ks ms = unless (not (are_known ks ms)) (UnknownKey at)

-- a number from 0 to the greatest
unfoldable pub number_in : At → Key → ℕ → Data → Result ℕ NetworkFault
number_in at k greatest d = do
  z ← or_refuse (Kind at k) (as_integer d)
  n ← or_refuse (Range at k) (natural_of z)
  if nat_le n greatest then Ok n else Err (Range at k)

-- the number that a value is, or this one if the key is missing
abbrev pub number_from : At → Key → ℕ → (missing : ℕ) → Option Data → Result ℕ NetworkFault
number_from at k greatest missing None = Ok missing
number_from at k greatest missing (Some d) = number_in at k greatest d

-- an optional number from 0 to the greatest
unfoldable pub optional_number_at : At → Key → ℕ → (missing : ℕ) → Members → Result ℕ NetworkFault
optional_number_at at k greatest missing ms = number_from at k greatest missing (get_member (key_text k) ms)

-- the truth value that a value is; false if the key is missing
abbrev pub flag_from : At → Key → Option Data → Result Bool NetworkFault
flag_from at k None = Ok false
flag_from at k (Some d) = or_refuse (Kind at k) (as_bool d)

-- an optional truth value
unfoldable pub flag_at : At → Key → Members → Result Bool NetworkFault
flag_at at k ms = flag_from at k (get_member (key_text k) ms)

-- a required text
unfoldable pub text_at : At → Key → Members → Result (List ℕ) NetworkFault
text_at at k ms = do
  d ← or_refuse (MissingKey at k) (get_member (key_text k) ms)
  or_refuse (Kind at k) (as_str d)

-- the tables under a key, in file order: none if it is missing
abbrev pub tables_in : At → Key → Option Data → Result (List Members) NetworkFault
tables_in at k None = Ok []
tables_in at k (Some d) = or_refuse (Kind at k) (option_and_then (all_of as_table) (as_array d))

-- an optional array of tables
unfoldable pub tables_at : At → Key → Members → Result (List Members) NetworkFault
tables_at at k ms = tables_in at k (get_member (key_text k) ms)
