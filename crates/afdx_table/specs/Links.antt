-- The links of a table (profile): each is read after the ports and after the links before it.
use Rattle.std.specs.Prelude.{ℕ, Bool, not, ◌==◌, ◌+◌, ◌*◌, if◌then◌else◌, List, [], ◌∷◌, ◌++◌, length, Option, Some, None, Result, Ok, Err}
use Rattle.std.specs.List.{list_any}
use Rattle.toml.specs.Data.{Members}
use Rattle.afdx_units.specs.Line.{least_size, greatest_size}
use Rattle.afdx_units.specs.declared.police.Police.{Police}
use Rattle.afdx_units.specs.declared.police.Police.TheVariants.{Byte}
use Rattle.afdx_table.specs.declared.fault.At.{At}
use Rattle.afdx_table.specs.declared.fault.At.TheVariants as place
use Rattle.afdx_table.specs.declared.fault.Key.{Key}
use Rattle.afdx_table.specs.declared.fault.Key.TheVariants as key
use Rattle.afdx_table.specs.declared.fault.TableFault.{TableFault}
use Rattle.afdx_table.specs.declared.fault.TableFault.TheVariants.{Range, TwiceLink, NoSuchPort, ToEmpty, ToOwnPort, ToTwice}
use Rattle.afdx_table.specs.declared.rows.PortRow.{PortRow}
use Rattle.afdx_table.specs.Link.{Link}
use Rattle.afdx_table.specs.Names.{bag_of, priority_of, police_of}
use Rattle.afdx_table.specs.Refusal.{◌>>=◌, or_refuse}
use Rattle.afdx_table.specs.Fields.{known_at, bounded_at, number_at, numbers_at, text_at, optional_text_at}
use Rattle.afdx_table.specs.Ports.{has_port}

-- one of these links has the number
abbrev pub has_link : List Link → ℕ → Bool
has_link links id = list_any (λ l. l.id == id) links

-- the ports that a link leads to, of which these are the rest, after those before
unfoldable pub targets : At → List PortRow → ℕ → List ℕ → List ℕ → Result (Unit {0}) TableFault
targets at ports from before [] = Ok tt
targets at ports from before (p ∷ rest) =
    if not (has_port ports p) then Err (NoSuchPort at)
    else if p == from then Err (ToOwnPort at)
    else if list_any (λ q. q == p) before then Err (ToTwice at)
    else targets at ports from (before ++ p ∷ []) rest

-- the keys of a link in each version
abbrev pub first_keys : List Key
first_keys = key.Id ∷ key.From ∷ key.To ∷ key.Bag ∷ key.Jitter ∷ key.MaxSize ∷ key.Priority ∷ []

-- the keys of a link in a table of this version: from the second on it may state how it is policed
abbrev pub link_keys : ℕ → List Key
link_keys version = if version == 1 then first_keys else first_keys ++ key.Police ∷ []

-- a link that does not state it is policed by bytes
abbrev pub police_from : At → Option (List ℕ) → Result Police TableFault
police_from at None = Ok Byte
police_from at (Some text) = or_refuse (Range at key.Police) (police_of text)

-- the link of these fields alone; its jitter is written in microseconds and kept in nanoseconds
unfoldable pub row_at : ℕ → At → Members → Result Link TableFault
row_at version at ms = do
  known ← known_at at (link_keys version) ms
  id ← bounded_at at key.Id 0 65535 ms
  from ← bounded_at at key.From 1 24 ms
  to ← numbers_at at key.To 1 24 ms
  bag_ms ← number_at at key.Bag ms
  bag ← or_refuse (Range at key.Bag) (bag_of bag_ms)
  jitter_us ← bounded_at at key.Jitter 0 10000 ms
  max_size ← bounded_at at key.MaxSize least_size greatest_size ms
  text ← text_at at key.Priority ms
  priority ← or_refuse (Range at key.Priority) (priority_of text)
  stated_police ← optional_text_at at key.Police ms
  police ← police_from at stated_police
  Ok (record { id = id; from = from; to = to; bag = bag; jitter = jitter_us * 1000; max_size = max_size; priority = priority; police = police })

-- the link, if it goes with the ports and the links before it
unfoldable pub fitting : At → List PortRow → List Link → Link → Result Link TableFault
fitting at ports before row =
    if has_link before row.id then Err (TwiceLink at)
    else if not (has_port ports row.from) then Err (NoSuchPort at)
    else if length row.to == 0 then Err (ToEmpty at)
    else targets at ports row.from [] row.to >>= λ _. Ok row

-- the link of these fields, after the ports and the links before it
unfoldable pub link_at : ℕ → At → List PortRow → List Link → Members → Result Link TableFault
link_at version at ports before ms = row_at version at ms >>= fitting at ports before

-- the links, of which n were read before and these are the rest
unfoldable pub links_from : ℕ → List PortRow → ℕ → List Link → List Members → Result (List Link) TableFault
links_from version ports n before [] = Ok before
links_from version ports n before (ms ∷ rest) = do
  row ← link_at version (place.Link (n + 1)) ports before ms
  links_from version ports (n + 1) (before ++ row ∷ []) rest
