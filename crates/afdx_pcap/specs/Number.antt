-- pcap 2.4: every number of a file is in the byte order of its magic.
use Rattle.std.specs.Prelude.{ℕ, List, drop}
use Rattle.byteorder.specs.Endian.{big_number, little_number}
use Rattle.afdx_pcap.specs.declared.format.Endian.{Endian}
use Rattle.afdx_pcap.specs.declared.format.Endian.TheVariants.{Big, Little}

-- what the first n bytes read as
unfoldable pub number : Endian → ℕ → List ℕ → ℕ
number Big n bytes = big_number n bytes
number Little n bytes = little_number n bytes

-- what the n bytes from a place on read as
abbrev pub field : Endian → ℕ → ℕ → List ℕ → ℕ
field endian place n bytes = number endian n (drop place bytes)
