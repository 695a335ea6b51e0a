-- The one text that is written for a list of records.
use Rattle.std.specs.Prelude.{◌≡◌, ℕ, ◌/◌, ◌%◌, ◌<◌, ◌≤◌, List, [], ◌∷◌, ◌++◌, length}
use Rattle.std.specs.List.{flat_map}
use Rattle.byteorder.specs.Endian.{little_bytes}
use Rattle.afdx_units.specs.Time.{second, last_second}
use Rattle.afdx_pcap.specs.Record.{Record}

-- pcap 2.4, as it is written: little-endian, nanoseconds; version 2.4; zone and accuracy 0; snaplen 262,144;
-- link type 1, Ethernet
abbrev pub header_text : List ℕ
header_text =
    0x4d ∷ 0x3c ∷ 0xb2 ∷ 0xa1 ∷ 2 ∷ 0 ∷ 4 ∷ 0
    ∷ 0 ∷ 0 ∷ 0 ∷ 0 ∷ 0 ∷ 0 ∷ 0 ∷ 0
    ∷ 0 ∷ 0 ∷ 4 ∷ 0 ∷ 1 ∷ 0 ∷ 0 ∷ 0 ∷ []

-- pcap 2.4, as it is written: a number of four bytes, the lowest first
abbrev pub word : ℕ → List ℕ
word n = little_bytes 4 n

-- pcap 2.4: seconds, nanoseconds, and the number of bytes as the captured and (profile) as the original length
unfoldable pub head_text : Record → List ℕ
head_text r =
    word (r.stamp / second) ++ word (r.stamp % second) ++ word (length r.bytes) ++ word (length r.bytes)

-- pcap 2.4: a record: its header, and its bytes
abbrev pub record_text : Record → List ℕ
record_text r = head_text r ++ r.bytes

-- pcap 2.4: a capture: the header of the file, and its records
abbrev pub capture_text : List Record → List ℕ
capture_text rs = header_text ++ flat_map record_text rs

-- records that read back as they were written: stamps do not fall from the last one on, none lies in the last
-- second, and each original length is the number of bytes
abbrev pub AreReadable : ℕ → List Record → Type 0
AreReadable last [] = Unit {0}
AreReadable last (r ∷ rs) =
    (last ≤ r.stamp) × (r.stamp < last_second) × (r.original ≡ length r.bytes) × AreReadable r.stamp rs
