-- What a table says, as contracts see it.
use Rattle.std.specs.Prelude.{ℕ, ◌==◌, List, Option, find, position}
use Rattle.afdx_table.specs.declared.rows.PortRow.{PortRow}
use Rattle.afdx_table.specs.Link.{Link}

-- the content of a table: what the network and the switch have, its ports and its links
pub record Content : Type 0 where
  -- ARINC 664 Part 7: the first four bytes of the destination address of each link's frames
  pub constant : List ℕ
  -- profile: nanoseconds from the instant at which a frame has come until its copies are queued
  pub latency : ℕ
  -- by rising number
  pub ports : List PortRow
  -- in file order
  pub links : List Link

-- the row of the port of this number
abbrev pub port_row : Content → ℕ → Option PortRow
port_row table id = find (λ p. p.id == id) table.ports

-- the row of the link of this number
abbrev pub link_row : Content → ℕ → Option Link
link_row table id = find (λ l. l.id == id) table.links

-- the place of the row of the link of this number in file order, from 0
abbrev pub link_place : Content → ℕ → Option ℕ
link_place table id = position (λ l. l.id == id) table.links
