-- How records are found by their bytes.
use Rattle.std.specs.Prelude.{ℕ, List, Bool, ◌&&◌, nat_le}
use Rattle.std.specs.Str.{bytes_eq}
use Rattle.afdx_pairing.specs.Events.{Numbered}

-- a record has these bytes, and comes no sooner than an instant
abbrev pub is_from : List ℕ → ℕ → Numbered → Bool
is_from bytes from n = bytes_eq n.frame.bytes bytes && nat_le from n.frame.stamp

-- a record has these bytes, and comes no sooner than an instant and no later than another
abbrev pub is_within : List ℕ → ℕ → ℕ → Numbered → Bool
is_within bytes from last n = is_from bytes from n && nat_le n.frame.stamp last
