-- What is known of recordings, port by port, and what texts say of it.
use Rattle.std.specs.Prelude.{◌≡◌, ◌==◌, ◌<◌, ◌≤◌, ℕ, ℤ, pos, Bool, true, false, Ok, List, length, replicate, slice_get, slice_set, unwrap_or}
use Rattle.std.specs.Int.{w64}
use Rattle.std.specs.List.{FoldsTo, after_first, before_first, position_or_len, slice_split}
use Rattle.std.specs.Str.Parse.{ParsesSigned, ParsesUnsigned}
use Rattle.afdx_recordings.specs.declared.offsets.Offsets.{Offsets}
use Rattle.afdx_recordings.specs.declared.outputs.Outputs.{Outputs}
use Rattle.afdx_recordings.specs.declared.stamps.Stamps.{Stamps}
use Rattle.afdx_recordings.specs.declared.stamps.Stamps.TheVariants.{End, Free}

-- the bytes of a text
abbrev pub Text : Type 0
Text = List ℕ

-- bytes from a stamp until the line is free: the gap between frames, or none
abbrev pub gap_of : Stamps → ℕ
gap_of End = 12
gap_of Free = 0

-- what is added to stamps at the port of a number, in nanoseconds
abbrev pub offset_at : Offsets → ℕ → ℤ
offset_at offsets port = unwrap_or (slice_get offsets.by_port port) (pos 0)

-- whether the port of a number was recorded
abbrev pub is_recorded : Outputs → ℕ → Bool
is_recorded outputs port = unwrap_or (slice_get outputs.by_port port) false

-- ---- what texts say

-- the parts of a text, between its commas
abbrev pub parts_of : Text → List Text
parts_of text = slice_split (λ b. b == 44) text

-- the text writes the number of a port, 1 to 24
pub record IsPort (text : Text) (port : ℕ) : Type 0 where
  pub number : ParsesUnsigned {E = Unit {0}} 8 10 text (Ok port)
  pub least : 0 < port
  pub most : port ≤ 24

-- the text is the number of a port, `=`, and nanoseconds
pub record Says (text : Text) (port : ℕ) (offset : ℤ) : Type 0 where
  pub cut : position_or_len (λ b. b == 61) text < length text
  pub port_is : IsPort (before_first (λ b. b == 61) text) port
  pub offset_is : ParsesSigned {E = Unit {0}} w64 10 (after_first (λ b. b == 61) text) (Ok offset)

-- nothing is added at any port
abbrev pub no_offsets : Offsets
no_offsets = record { by_port = replicate 25 (pos 0) }

-- the same offsets, but for that of one port
abbrev pub with_offset : Offsets → ℕ → ℤ → Offsets
with_offset offsets port offset = record { by_port = slice_set offsets.by_port port offset }

-- a part of the text leads from these offsets to those
abbrev pub SetsOffset : Offsets → Text → Offsets → Type 0
SetsOffset from part to = (port : ℕ) × (offset : ℤ) × Says part port offset × (to ≡ with_offset from port offset)

-- the text says these offsets, one after another
abbrev pub AreOffsetsOf : Text → Offsets → Type 0
AreOffsetsOf text offsets = FoldsTo SetsOffset no_offsets (parts_of text) offsets

-- no port was recorded
abbrev pub no_outputs : Outputs
no_outputs = record { by_port = replicate 25 false }

-- all ports were recorded
abbrev pub all_outputs : Outputs
all_outputs = record { by_port = replicate 25 true }

-- the same outputs, and the port of this number
abbrev pub with_output : Outputs → ℕ → Outputs
with_output outputs port = record { by_port = slice_set outputs.by_port port true }

-- a part of the text leads from these outputs to those
abbrev pub AddsOutput : Outputs → Text → Outputs → Type 0
AddsOutput from part to = (port : ℕ) × IsPort part port × (to ≡ with_output from port)

-- the text names these outputs
abbrev pub AreOutputsOf : Text → Outputs → Type 0
AreOutputsOf text outputs = FoldsTo AddsOutput no_outputs (parts_of text) outputs
