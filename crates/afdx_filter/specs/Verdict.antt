-- The verdict on a frame (profile): the first case that holds.
use Rattle.std.specs.Prelude.{ℕ, ◌==◌, not, nat_lt, if◌then◌else◌, length, Option, Some, None}
use Rattle.std.specs.Str.{bytes_eq}
use Rattle.afdx_units.specs.Line.{size_of, least_size, greatest_size}
use Rattle.afdx_pcap.specs.Record.{Record}
use Rattle.afdx_frame.specs.Address.{constant_of, link_of}
use Rattle.afdx_table.specs.Link.{Link}
use Rattle.afdx_table.specs.Content.{Content, link_row}
use Rattle.afdx_filter.specs.declared.outcome.Verdict.{Verdict}
use Rattle.afdx_filter.specs.declared.outcome.Verdict.TheVariants.{Cut, Short, Long, Foreign, NoLink, WrongPort, TooBig, Clean}

-- profile: the verdict on a frame of this size at this port, by the link of its number, if the table has one
abbrev pub link_verdict : ℕ → ℕ → Option Link → Verdict
link_verdict port size None = NoLink
link_verdict port size (Some link) =
    if not (link.from == port) then WrongPort
    else if nat_lt link.max_size size then TooBig
    else Clean link.id

-- the verdict on a frame at this port
abbrev pub verdict_of : Content → ℕ → Record → Verdict
verdict_of table port frame =
    let size = size_of (length frame.bytes) in
    if nat_lt (length frame.bytes) frame.original then Cut
    else if nat_lt size least_size then Short
    else if nat_lt greatest_size size then Long
    else if not (bytes_eq (constant_of frame.bytes) table.constant) then Foreign
    else link_verdict port size (link_row table (link_of frame.bytes))
