-- Links and ports are found by their numbers.
use Rattle.std.specs.Prelude.{◌≡◌, ℕ, Some, None, Contains, slice_get}
use Rattle.afdx_table.specs.declared.rows.PortRow.{PortRow}
use Rattle.afdx_table.specs.Link.{Link}
use Rattle.afdx_table.specs.Content.{Content, link_row, link_place, port_row}
use Rattle.afdx_table.specs.WellFormed.{IsWellFormed}

-- each link of a table is under its number, and what is under a number is a link of the table with that number
pub record LinksAreFound : Type 0 where
  pub found : (t : Content) → IsWellFormed t → (l : Link) → Contains t.links l → link_row t l.id ≡ Some l
  pub is_row : (t : Content) (number : ℕ) (l : Link) → link_row t number ≡ Some l → (l.id ≡ number) × Contains t.links l

-- the row at the place of a number is the row of that number
pub record LinksAreAtTheirPlaces : Type 0 where
  pub at : (table : Content) (number place : ℕ) → link_place table number ≡ Some place → slice_get table.links place ≡ link_row table number
  pub none : (table : Content) (number : ℕ) → link_place table number ≡ None → link_row table number ≡ None

-- each port of a table is under its number
abbrev pub PortsAreFound : Type 0
PortsAreFound = (t : Content) → IsWellFormed t → (p : PortRow) → Contains t.ports p → port_row t p.id ≡ Some p
