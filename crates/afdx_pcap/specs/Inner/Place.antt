-- How far a reader has come in the bytes that it keeps. These are the last of all that came; what was read before them may be gone.
use Rattle.std.specs.Prelude.{◌≡◌, ◌≢◌, ℕ, ◌+◌, ◌-◌, ◌^◌, ◌<◌, ◌≤◌, List, [], ◌++◌, length, take, drop, Option, Some, None, IfSome, Result, Ok, Err, Bool, ◌⊎◌, not, ◌||◌, if◌then◌else◌}
use Rattle.afdx_pcap.specs.declared.fault.PcapFault.{PcapFault}
use Rattle.afdx_pcap.specs.declared.format.Format.{Format}
use Rattle.afdx_pcap.specs.declared.progress.Next.{Next}
use Rattle.afdx_pcap.specs.declared.progress.Progress.{Progress}
use Rattle.afdx_pcap.specs.declared.reading.Found.{Found}
use Rattle.afdx_pcap.specs.Record.{Record, captured_limit}
use Rattle.afdx_pcap.specs.Capture.{header_of, Begins, Splits}
use Rattle.afdx_pcap.specs.Fault.{is_cut, record_fault, last_stamp}

-- ---- in the bytes that are kept

-- where the first record begins, after this header
abbrev pub first_place : Result Format PcapFault → Result Progress PcapFault
first_place (Ok f) = Ok (record { format = f; place = 24; last = 0 })
first_place (Err fault) = Err fault

-- where the next record begins in these bytes, of which nothing was read, or so much
abbrev pub place_of : List ℕ → Option Progress → Result Progress PcapFault
place_of kept None = first_place (header_of kept)
place_of kept (Some p) = Ok p

-- what was not read yet
abbrev pub rest_of : List ℕ → Option Progress → List ℕ
rest_of kept None = kept
rest_of kept (Some p) = drop p.place kept

-- the place lies in these bytes; a usize counts n, as many records as the rest can have, and one more
pub record IsPlaced (kept : List ℕ) (n : ℕ) (o : Option Progress) : Type 0 where
  pub within : IfSome o (λ p. p.place ≤ length kept)
  pub countable : n + length (rest_of kept o) < 2 ^ 64 - 1

-- the record at the start of these bytes, by its numbers
abbrev pub found_in : List ℕ → Found → Record
found_in bytes x = record { stamp = x.stamp; original = x.original; bytes = take x.length (drop 16 bytes) }

-- the next record of these bytes, by its numbers
abbrev pub next_in : List ℕ → Next → Record
next_in bytes x = record { stamp = x.progress.last; original = x.original; bytes = take (x.progress.place - x.start) (drop x.start bytes) }

-- the bytes of a record are there, and not too many for one
pub record IsPart (bytes : List ℕ) (x : Next) : Type 0 where
  pub order : x.start ≤ x.progress.place
  pub within : x.progress.place ≤ length bytes
  pub limit : x.progress.place - x.start ≤ captured_limit

-- a whole record begins at this place, by its numbers, and leads on
pub record BeginsAt (kept : List ℕ) (p : Progress) (x : Next) : Type 0 where
  pub begins : Begins p.format p.last (drop p.place kept) (next_in kept x)
  pub part : IsPart kept x
  pub format : x.progress.format ≡ p.format
  pub place : x.progress.place ≡ p.place + (16 + length (next_in kept x).bytes)

-- a whole record comes next
abbrev pub Comes : List ℕ → Option Progress → Next → Type 0
Comes kept o x = (p : Progress) × (place_of kept o ≡ Ok p) × BeginsAt kept p x

-- no whole record comes next
abbrev pub NoneComes : List ℕ → ℕ → Option Progress → Type 0
NoneComes kept n o = (p : Progress) → place_of kept o ≡ Ok p → record_fault p.format p.last (n + 1) (drop p.place kept) ≢ None

-- a fault, unless bytes that may still come can mend it
abbrev pub lasting : Bool → PcapFault → Option PcapFault
lasting closed fault = if closed || not (is_cut fault) then Some fault else None

-- what is answered if none comes: nothing, if nothing is left
abbrev pub IsRestAnswer : List ℕ → ℕ → Bool → Result Progress PcapFault → Option PcapFault → Type 0
IsRestAnswer kept n closed (Err fault) answer = answer ≡ lasting closed fault
IsRestAnswer kept n closed (Ok p) answer =
    ((p.place ≡ length kept) × (answer ≡ None))
    ⊎ ((fault : PcapFault) × (record_fault p.format p.last (n + 1) (drop p.place kept) ≡ Some fault) × (p.place < length kept) × (answer ≡ lasting closed fault))

-- ---- in all that came

-- the bytes are a header, n whole records and this rest
pub record At (bytes rest : List ℕ) (n : ℕ) (p : Progress) : Type 0 where
  pub given : List Record
  pub header : header_of bytes ≡ Ok p.format
  pub records : Splits p.format 0 (drop 24 bytes) given rest
  pub count : length given ≡ n
  pub latest : p.last ≡ last_stamp 0 given
  -- each record takes some of the bytes
  pub fewer : n + length rest < length bytes

-- nothing was read, so that nothing is gone; or the header and n records were
abbrev pub IsAtPlace : List ℕ → List ℕ → ℕ → Option Progress → Type 0
IsAtPlace gone kept n None = (gone ≡ []) × (n ≡ 0)
IsAtPlace gone kept n (Some p) = At (gone ++ kept) (drop p.place kept) n p
