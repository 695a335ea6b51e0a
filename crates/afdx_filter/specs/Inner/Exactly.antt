-- Which frames are clean, with no order of cases.
use Rattle.std.specs.Prelude.{◌≡◌, ◌↔◌, ℕ, ◌≤◌, length, Some}
use Rattle.afdx_units.specs.Line.{size_of, least_size, greatest_size}
use Rattle.afdx_pcap.specs.Record.{Record}
use Rattle.afdx_frame.specs.Address.{constant_of, link_of}
use Rattle.afdx_table.specs.Link.{Link}
use Rattle.afdx_table.specs.Content.{Content, link_row}
use Rattle.afdx_filter.specs.declared.outcome.Verdict.TheVariants.{Clean}
use Rattle.afdx_filter.specs.Verdict.{verdict_of}

-- a whole frame of the network, whose address names this link of the table, at the link's port and of a size that both
-- Ethernet and the link take
pub record IsFrameOf (table : Content) (port : ℕ) (frame : Record) (link : Link) : Type 0 where
  pub whole : frame.original ≤ length frame.bytes
  pub size_least : least_size ≤ size_of (length frame.bytes)
  pub size_most : size_of (length frame.bytes) ≤ greatest_size
  pub constant : constant_of frame.bytes ≡ table.constant
  pub is_link : link_row table (link_of frame.bytes) ≡ Some link
  pub from_port : link.from ≡ port
  pub fits : size_of (length frame.bytes) ≤ link.max_size

-- frames are clean exactly if they are such frames of a link of this number
abbrev pub CleanExactly : Type 0
CleanExactly = (table : Content) (port : ℕ) (frame : Record) (id : ℕ) → (verdict_of table port frame ≡ Clean id) ↔ ((link : Link) × (link.id ≡ id) × IsFrameOf table port frame link)
