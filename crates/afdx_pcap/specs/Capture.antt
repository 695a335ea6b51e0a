-- Captures: pcap files of version 2.4 with link type 1, Ethernet.
use Rattle.std.specs.Prelude.{◌≡◌, ℕ, ◌+◌, ◌*◌, ◌<◌, ◌≤◌, List, [], ◌∷◌, length, take, drop, Option, Some, None, Result, Ok, Err, ◌==◌, ◌&&◌, nat_lt, if◌then◌else◌}
use Rattle.afdx_units.specs.Time.{second}
use Rattle.afdx_pcap.specs.declared.fault.PcapFault.{PcapFault}
use Rattle.afdx_pcap.specs.declared.fault.PcapFault.TheVariants.{NoHeader, Magic, Version, LinkType}
use Rattle.afdx_pcap.specs.declared.format.Endian.{Endian}
use Rattle.afdx_pcap.specs.declared.format.Endian.TheVariants.{Big, Little}
use Rattle.afdx_pcap.specs.declared.format.Resolution.{Resolution}
use Rattle.afdx_pcap.specs.declared.format.Resolution.TheVariants.{Micros, Nanos}
use Rattle.afdx_pcap.specs.declared.format.Format.{Format}
use Rattle.afdx_pcap.specs.declared.format.Head.{Head}
use Rattle.afdx_pcap.specs.Record.{Record, captured_limit}
use Rattle.afdx_pcap.specs.Number.{number, field}

-- ---- the header

-- pcap 2.4: the format that a magic stands for, the magic read as a big-endian number
abbrev pub format_of : ℕ → Option Format
format_of magic =
    if magic == 0xa1b2c3d4 then Some (record { endian = Big; resolution = Micros })
    else if magic == 0xd4c3b2a1 then Some (record { endian = Little; resolution = Micros })
    else if magic == 0xa1b23c4d then Some (record { endian = Big; resolution = Nanos })
    else if magic == 0x4d3cb2a1 then Some (record { endian = Little; resolution = Nanos })
    else None

-- the format, if the version is 2.4 and the link type 1, or the first of these that is another (pcap 2.4; that a file of another link type,
-- or of another version, is refused, and in this order, is profile)
abbrev pub checked_header : Option Format → List ℕ → Result Format PcapFault
checked_header None bytes = Err Magic
checked_header (Some f) bytes =
    if (field f.endian 4 2 bytes == 2) && (field f.endian 6 2 bytes == 4)
    then (if field f.endian 20 4 bytes == 1 then Ok f else Err (LinkType (field f.endian 20 4 bytes)))
    else Err Version

-- the format that the 24 bytes of a file's header give, or the first thing for which they are refused (pcap 2.4; what is refused, and in
-- which order, is profile)
unfoldable pub header_of : List ℕ → Result Format PcapFault
header_of bytes =
    if nat_lt (length bytes) 24 then Err NoHeader
    else checked_header (format_of (number Big 4 bytes)) bytes

-- ---- a record

-- pcap 2.4: the parts of a second that a fraction counts
abbrev pub parts_of_second : Resolution → ℕ
parts_of_second Micros = 1000000
parts_of_second Nanos = 1000000000

-- nanoseconds of a part of a second
abbrev pub nanos : Resolution → ℕ
nanos Micros = 1000
nanos Nanos = 1

-- pcap 2.4: the numbers in the 16 bytes before a record's data
unfoldable pub head_of : Endian → List ℕ → Head
head_of e bytes = record {
  seconds = field e 0 4 bytes;
  fraction = field e 4 4 bytes;
  captured = field e 8 4 bytes;
  original = field e 12 4 bytes;
}

-- pcap 2.4: the stamp that a record's header gives, in nanoseconds
abbrev pub stamp_of : Resolution → Head → ℕ
stamp_of resolution h = h.seconds * second + h.fraction * nanos resolution

-- profile: the greatest seconds of a stamp that is read
abbrev pub greatest_seconds : ℕ
greatest_seconds = 4294967294

-- the bytes begin with this record, which follows one with the stamp `last`;
-- profile: the limit, no stamp in the last second, and no stamp below the one before
pub record Begins (f : Format) (last : ℕ) (bytes : List ℕ) (r : Record) : Type 0 where
  pub whole : 16 + length r.bytes ≤ length bytes
  pub captured : (head_of f.endian bytes).captured ≡ length r.bytes
  pub not_huge : length r.bytes ≤ captured_limit
  pub fraction : (head_of f.endian bytes).fraction < parts_of_second f.resolution
  pub not_late : (head_of f.endian bytes).seconds ≤ greatest_seconds
  pub stamp : r.stamp ≡ stamp_of f.resolution (head_of f.endian bytes)
  pub in_order : last ≤ r.stamp
  pub original : r.original ≡ (head_of f.endian bytes).original
  pub data_is : r.bytes ≡ take (length r.bytes) (drop 16 bytes)

-- what comes after a record
abbrev pub after : Record → List ℕ → List ℕ
after r bytes = drop (16 + length r.bytes) bytes

-- the bytes are these records one after the other, and then the rest
abbrev pub Splits : Format → ℕ → List ℕ → List Record → List ℕ → Type 0
Splits f last bytes [] rest = bytes ≡ rest
Splits f last bytes (r ∷ rs) rest = Begins f last bytes r × Splits f r.stamp (after r bytes) rs rest

-- ---- files

-- the file is a header, these whole records, and a rest
pub record Holds (bytes : List ℕ) (rs : List Record) (rest : List ℕ) : Type 0 where
  pub format : Format
  pub header : header_of bytes ≡ Ok format
  pub records : Splits format 0 (drop 24 bytes) rs rest

-- the file is a capture of these records: it holds them, and nothing else
abbrev pub IsCapture : List ℕ → List Record → Type 0
IsCapture bytes rs = Holds bytes rs []
