-- A record of a capture, as contracts see it.
use Rattle.std.specs.Prelude.{ℕ, ◌≤◌, List, length}

-- a record: its instant in nanoseconds, the number of bytes that the frame had on the line, and the bytes that were captured
pub record Record : Type 0 where
  pub stamp : ℕ
  pub original : ℕ
  pub bytes : List ℕ

-- profile: the most bytes that a record holds; pcap 2.4 leaves it to each file (snaplen)
abbrev pub captured_limit : ℕ
captured_limit = 262144

-- a record holds no more than the most bytes
abbrev pub IsWithinLimit : Record → Type 0
IsWithinLimit r = length r.bytes ≤ captured_limit

-- a record of a frame that was captured whole
abbrev pub whole : ℕ → List ℕ → Record
whole stamp bytes = record { stamp = stamp; original = length bytes; bytes = bytes }
