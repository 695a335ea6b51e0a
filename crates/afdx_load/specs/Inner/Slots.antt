-- The loads of all ports, each in the place of its port's number, as the code keeps them.
use Rattle.std.specs.Prelude.{◌≡◌, ℕ, ◌+◌, ◌<◌, ◌==◌, nat_lt, Bool, true, not, ◌&&◌, List, [], ◌∷◌, All, slice_index_or, if◌then◌else◌}
use Rattle.std.specs.List.{list_any}
use Rattle.afdx_units.specs.declared.line.Speed.{Speed}
use Rattle.afdx_units.specs.declared.line.Speed.TheVariants.{Ten}
use Rattle.afdx_table.specs.Link.{Link, leads_to}
use Rattle.afdx_table.specs.declared.rows.PortRow.{PortRow}
use Rattle.afdx_load.specs.Load.{Load, asked_of}
use Rattle.afdx_load.specs.Inner.Adding.{with_link}

-- each of these numbers is a place, and is there once
abbrev pub are_slots : List ℕ → Bool
are_slots [] = true
are_slots (n ∷ ns) = nat_lt n 25 && not (list_any (λ m. m == n) ns) && are_slots ns

-- the speed in the place of a port's number
abbrev pub speed_at : List Speed → ℕ → Speed
speed_at speeds port = slice_index_or speeds port Ten

-- each port's speed is in the place of its number
abbrev pub HasSpeeds : List Speed → List PortRow → Type 0
HasSpeeds speeds ports = All (λ row. (row.id < 25) × (speed_at speeds row.id ≡ row.speed)) ports

-- each port's load, as the check and `Loads` have it, is in the place of its number
abbrev pub AreLoads : List Link → List PortRow → List Load → Type 0
AreLoads links ports loads = All (λ row. (row.id < 25) × ((d : Load) → slice_index_or loads row.id d ≡ asked_of row.speed row.id links)) ports

-- each load has room for one more link
abbrev pub HaveRoom : List Load → Type 0
HaveRoom loads = (port : ℕ) (d : Load) → port < 25 → (slice_index_or loads port d).highs + (slice_index_or loads port d).lows < 4096

-- the load in a place, with a link if it leads there
abbrev pub with_routed : List Speed → List Load → Link → ℕ → Load → Load
with_routed speeds loads link port d =
    if leads_to port link then with_link (speed_at speeds port) (slice_index_or loads port d) link else slice_index_or loads port d
