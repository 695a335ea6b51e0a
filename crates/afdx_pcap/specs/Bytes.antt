-- Bytes that are owned, shared or lent.
use Rattle.std.specs.Prelude.{ℕ, List, Bool, true, false}
use Rattle.afdx_pcap.specs.declared.bytes.Bytes.{Bytes}
use Rattle.afdx_pcap.specs.declared.bytes.Bytes.TheVariants.{Owned, Shared, Lent}

-- the bytes, whoever owns them
abbrev pub plain_bytes : {Z : Type 0} → Bytes Z → List ℕ
plain_bytes (Owned v) = v.items
plain_bytes (Shared p) = p
plain_bytes (Lent s) = s.now

-- whether bytes are lent
abbrev pub is_lent : {Z : Type 0} → Bytes Z → Bool
is_lent (Owned v) = false
is_lent (Shared p) = false
is_lent (Lent s) = true
