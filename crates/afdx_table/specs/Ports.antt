-- The ports of a table (profile): each is read after the ports before it.
use Rattle.std.specs.Prelude.{ℕ, Bool, ◌==◌, ◌+◌, ◌*◌, nat_lt, if◌then◌else◌, List, [], ◌∷◌, Result, Ok, Err}
use Rattle.std.specs.List.{list_any}
use Rattle.toml.specs.Data.{Members}
use Rattle.afdx_table.specs.declared.fault.At.{At}
use Rattle.afdx_table.specs.declared.fault.At.TheVariants as place
use Rattle.afdx_table.specs.declared.fault.Key.{Key}
use Rattle.afdx_table.specs.declared.fault.Key.TheVariants as key
use Rattle.afdx_table.specs.declared.fault.TableFault.{TableFault}
use Rattle.afdx_table.specs.declared.fault.TableFault.TheVariants.{Range, TwicePort}
use Rattle.afdx_table.specs.declared.rows.PortRow.{PortRow}
use Rattle.afdx_table.specs.Names.{speed_of}
use Rattle.afdx_table.specs.Refusal.{◌>>=◌, or_refuse}
use Rattle.afdx_table.specs.Fields.{known_at, bounded_at, number_at}

-- one of these ports has the number
abbrev pub has_port : List PortRow → ℕ → Bool
has_port ports id = list_any (λ p. p.id == id) ports

-- a port in its place by number
abbrev pub with_port : PortRow → List PortRow → List PortRow
with_port row [] = row ∷ []
with_port row (p ∷ ps) = if nat_lt row.id p.id then row ∷ p ∷ ps else p ∷ with_port row ps

-- profile: the keys of a port
abbrev pub port_keys : List Key
port_keys = key.Id ∷ key.Mbit ∷ key.Buffer ∷ key.MaxDelay ∷ []

-- the port of these fields in a table of this version, after the ports before it; its delay is written in microseconds and kept in nanoseconds
unfoldable pub port_at : ℕ → At → List PortRow → Members → Result PortRow TableFault
port_at version at before ms = do
  known ← known_at at port_keys ms
  id ← bounded_at at key.Id 1 24 ms
  mbit ← number_at at key.Mbit ms
  speed ← or_refuse (Range at key.Mbit) (speed_of version mbit)
  buffer ← bounded_at at key.Buffer 0 16777216 ms
  max_delay_us ← bounded_at at key.MaxDelay 1 500000 ms
  if has_port before id then Err (TwicePort at) else Ok (record { id = id; speed = speed; buffer = buffer; max_delay = max_delay_us * 1000 })

-- the ports, of which n were read before and these are the rest
unfoldable pub ports_from : ℕ → ℕ → List PortRow → List Members → Result (List PortRow) TableFault
ports_from version n before [] = Ok before
ports_from version n before (ms ∷ rest) = do
  row ← port_at version (place.Port (n + 1)) before ms
  ports_from version (n + 1) (with_port row before) rest
