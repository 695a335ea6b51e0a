-- The values of one TOML table as the code keeps them: each in the place of its key.
use Rattle.std.specs.Prelude.{◌≡◌, ℕ, List, [], ◌∷◌, Option, None, find, option_map, slice_index_or}
use Rattle.std.specs.Borrow.{Bor}
use Rattle.std.specs.Str.{bytes_eq}
use Rattle.toml.specs.Data.{Data, Members, get_member}
use Rattle.toml.specs.View.{view}
use Rattle.toml.specs.declared.value.Value.{Value}
use Rattle.afdx_table.specs.declared.fault.Key.{Key}
use Rattle.afdx_table.specs.declared.fault.Key.TheVariants as key
use Rattle.afdx_table.specs.Names.{key_text}

-- each key has a place of its own
abbrev pub key_place : Key → ℕ
key_place key.Version = 0
key_place key.Constant = 1
key_place key.Latency = 2
key_place key.Port = 3
key_place key.Link = 4
key_place key.Id = 5
key_place key.Mbit = 6
key_place key.Buffer = 7
key_place key.MaxDelay = 8
key_place key.From = 9
key_place key.To = 10
key_place key.Bag = 11
key_place key.Jitter = 12
key_place key.MaxSize = 13
key_place key.Priority = 14
key_place key.Police = 15

-- all keys, those of links first
abbrev pub keys : List Key
keys =
    key.Id ∷ key.From ∷ key.To ∷ key.Bag ∷ key.Jitter ∷ key.MaxSize ∷ key.Priority ∷ key.Police
    ∷ key.Mbit ∷ key.Buffer ∷ key.MaxDelay ∷ key.Version ∷ key.Constant ∷ key.Latency ∷ key.Port ∷ key.Link ∷ []

-- the key that is written so
abbrev pub key_named : List ℕ → Option Key
key_named text = find (λ k. bytes_eq text (key_text k)) keys

-- the value in the place of a key
abbrev pub value_in : List (Option (Bor Value)) → Key → Option Data
value_in slots k = option_map (λ v. view v.now) (slice_index_or slots (key_place k) None)

-- each value is in the place of its key
abbrev pub AreValues : List (Option (Bor Value)) → Members → Type 0
AreValues slots ms = (k : Key) → value_in slots k ≡ get_member (key_text k) ms
