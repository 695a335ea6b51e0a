-- What is true of a clean frame.
use Rattle.std.specs.Prelude.{◌≡◌, ℕ, ◌≤◌, length, Some}
use Rattle.afdx_units.specs.Line.{size_of, least_size}
use Rattle.afdx_pcap.specs.Record.{Record}
use Rattle.afdx_frame.specs.Address.{link_of}
use Rattle.afdx_table.specs.Link.{Link}
use Rattle.afdx_table.specs.Content.{Content, link_row}
use Rattle.afdx_filter.specs.declared.outcome.Verdict.TheVariants.{Clean}
use Rattle.afdx_filter.specs.Verdict.{verdict_of}

-- a whole frame of the link of this number, which comes in at this port and takes frames of its size
pub record HasLink (table : Content) (port : ℕ) (frame : Record) (id : ℕ) : Type 0 where
  pub link : Link
  pub is_link : link_row table id ≡ Some link
  pub number : link.id ≡ id
  pub address : link_of frame.bytes ≡ id
  pub from_port : link.from ≡ port
  pub whole : frame.original ≤ length frame.bytes
  pub size_least : least_size ≤ size_of (length frame.bytes)
  pub size_most : size_of (length frame.bytes) ≤ link.max_size

-- a clean frame is one of its link
abbrev pub CleanFramesHaveALink : Type 0
CleanFramesHaveALink = (table : Content) (port : ℕ) (frame : Record) (id : ℕ) → verdict_of table port frame ≡ Clean id → HasLink table port frame id
