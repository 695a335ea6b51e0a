-- What is wrong with a file that is no capture. The rules are those of the grammar; which of them is the fault if
-- several are broken is profile.
use Rattle.std.specs.Prelude.{◌≡◌, ℕ, ◌+◌, ◌<◌, List, [], ◌∷◌, length, drop, Option, Some, None, Ok, Err, ◌⊎◌, nat_lt, nat_le, if◌then◌else◌, Bool, true, false}
use Rattle.std.specs.Option.{option_or}
use Rattle.afdx_pcap.specs.declared.fault.PcapFault.{PcapFault}
use Rattle.afdx_pcap.specs.declared.fault.PcapFault.TheVariants.{Memory, NoHeader, Magic, Version, LinkType, CutHeader, Huge, Fraction, Late, Backwards, CutData}
use Rattle.afdx_pcap.specs.declared.format.Resolution.{Resolution}
use Rattle.afdx_pcap.specs.declared.format.Format.{Format}
use Rattle.afdx_pcap.specs.declared.format.Head.{Head}
use Rattle.afdx_pcap.specs.Record.{Record, captured_limit}
use Rattle.afdx_pcap.specs.Capture.{header_of, head_of, parts_of_second, greatest_seconds, stamp_of, Splits}

-- ---- a record

-- profile: the first rule that the head of the nth record breaks, whatever comes after it
abbrev pub head_fault : Resolution → ℕ → ℕ → Head → Option PcapFault
head_fault resolution last n h =
    if nat_lt captured_limit h.captured then Some (Huge n)
    else if nat_le (parts_of_second resolution) h.fraction then Some (Fraction n)
    else if nat_lt greatest_seconds h.seconds then Some (Late n)
    else if nat_lt (stamp_of resolution h) last then Some (Backwards n)
    else None

-- fewer bytes are left than a head and its data take
abbrev pub data_fault : ℕ → Head → ℕ → Option PcapFault
data_fault n h left = if nat_lt left (16 + h.captured) then Some (CutData n) else None

-- the first thing that is wrong with the nth record, if these bytes are all that is left
unfoldable pub record_fault : Format → ℕ → ℕ → List ℕ → Option PcapFault
record_fault f last n bytes =
    if nat_lt (length bytes) 16 then Some (CutHeader n)
    else option_or
    (head_fault f.resolution last n (head_of f.endian bytes))
    (data_fault n (head_of f.endian bytes) (length bytes))

-- ---- files

-- the stamp of the last of these records, or the one before them if there are none
abbrev pub last_stamp : ℕ → List Record → ℕ
last_stamp last [] = last
last_stamp last (r ∷ rs) = last_stamp r.stamp rs

-- after whole records comes a rest that is no whole record, and this is why
pub record Breaks (f : Format) (bytes : List ℕ) (fault : PcapFault) : Type 0 where
  pub records : List Record
  pub rest : List ℕ
  pub before : Splits f 0 bytes records rest
  pub more : 0 < length rest
  pub first : record_fault f (last_stamp 0 records) (length records + 1) rest ≡ Some fault

-- the file is no capture, and this is the first thing that is wrong with it
abbrev pub IsFault : List ℕ → PcapFault → Type 0
IsFault bytes fault =
    (header_of bytes ≡ Err fault)
    ⊎ ((f : Format) × (header_of bytes ≡ Ok f) × Breaks f (drop 24 bytes) fault)

-- a fault that more bytes may mend: it is found only if the input has ended
abbrev pub is_cut : PcapFault → Bool
is_cut Memory = false
is_cut NoHeader = true
is_cut Magic = false
is_cut Version = false
is_cut (LinkType w) = false
is_cut (CutHeader n) = true
is_cut (Huge n) = false
is_cut (Fraction n) = false
is_cut (Late n) = false
is_cut (Backwards n) = false
is_cut (CutData n) = true

-- the fault of the file, and of every file that begins as it does
abbrev pub IsEarlyFault : List ℕ → PcapFault → Type 0
IsEarlyFault bytes fault = IsFault bytes fault × (is_cut fault ≡ false)
