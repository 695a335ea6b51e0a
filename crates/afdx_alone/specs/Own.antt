-- Which frames of a capture are a link's own.
use Rattle.std.specs.Prelude.{ℕ, ◌==◌, ◌&&◌, Bool, nat_le, List, [], ◌∷◌, length}
use Rattle.std.specs.Str.{bytes_eq}
use Rattle.afdx_frame.specs.Address.{constant_of, link_of}
use Rattle.afdx_units.specs.Line.{size_of, least_size, greatest_size}
use Rattle.afdx_pcap.specs.Record.{Record}
use Rattle.afdx_alone.specs.declared.link.Alone.{Alone}

-- profile: the constant field of every link
abbrev pub constant : List ℕ
constant = 3 ∷ 0 ∷ 0 ∷ 0 ∷ []

-- ARINC 664 Part 7: the destination address is that of the link of this number
abbrev pub is_addressed : ℕ → List ℕ → Bool
is_addressed id bytes = bytes_eq (constant_of bytes) constant && link_of bytes == id

-- profile: the frame is whole, neither short nor long, addressed to the link, and not too big for it
abbrev pub is_own : Alone → Record → Bool
is_own link r =
    let size = size_of (length r.bytes) in
    nat_le r.original (length r.bytes) && nat_le least_size size && nat_le size greatest_size && is_addressed link.id r.bytes && nat_le size link.max_size
