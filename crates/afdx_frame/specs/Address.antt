-- The destination address of a frame, as ARINC 664 Part 7 lays it out.
use Rattle.std.specs.Prelude.{ℕ, List, take, drop}
use Rattle.byteorder.specs.Endian.{big_number}

-- ARINC 664 Part 7: the constant field, which all links of a network share, is the first four bytes
abbrev pub constant_of : List ℕ → List ℕ
constant_of bytes = take 4 bytes

-- ARINC 664 Part 7: the number of the virtual link is the two bytes after them, high byte first
abbrev pub link_of : List ℕ → ℕ
link_of bytes = big_number 2 (drop 4 bytes)
