-- Whether the options of `compare` fit the table (profile).
use Rattle.std.specs.Prelude.{◌≡◌, ◌≤◌, ◌/◌, ◌&&◌, ◌||◌, nat_lt, ℕ, pos, Bool, false, not, List, [], ◌∷◌, find, is_none, Option, Some, None, option_map}
use Rattle.std.specs.Prelude.{if◌then◌else◌}
use Rattle.std.specs.List.{list_any}
use Rattle.std.specs.Ordering.{int_eq}
use Rattle.std.specs.Option.{option_or}
use Rattle.afdx_table.specs.Content.{Content, port_row}
use Rattle.afdx_recordings.specs.declared.recordings.Recordings.{Recordings}
use Rattle.afdx_recordings.specs.Recordings.{is_recorded, offset_at}
use Rattle.afdx_messages.specs.declared.argument.ArgumentFault.{ArgumentFault}
use Rattle.afdx_messages.specs.declared.argument.ArgumentFault.TheVariants.{Latency, Ports, Offset, LeftOut, Span}

-- the numbers that ports can have
unfoldable pub port_numbers : List ℕ
port_numbers = 1 ∷ 2 ∷ 3 ∷ 4 ∷ 5 ∷ 6 ∷ 7 ∷ 8 ∷ 9 ∷ 10 ∷ 11 ∷ 12 ∷ 13 ∷ 14 ∷ 15 ∷ 16 ∷ 17 ∷ 18 ∷ 19 ∷ 20 ∷ 21 ∷ 22 ∷ 23 ∷ 24 ∷ []

-- the table has no port of this number
abbrev pub lacks : Content → ℕ → Bool
lacks t port = is_none (port_row t port)

-- `--ports` names this port; if it is not given, all numbers are recorded, with 0, which it cannot name
abbrev pub is_named : Recordings → ℕ → Bool
is_named r port = is_recorded r.outputs port && not (is_recorded r.outputs 0)

-- `--offset` adds something at this port
abbrev pub is_moved : Recordings → ℕ → Bool
is_moved r port = not (int_eq (offset_at r.offsets port) (pos 0))

-- `--ports` names a port that the table lacks
abbrev pub is_missing : Content → Recordings → ℕ → Bool
is_missing t r port = is_named r port && lacks t port

-- `--offset` adds something where nothing is recorded
abbrev pub is_stray : Content → Recordings → ℕ → Bool
is_stray t r port = is_moved r port && (lacks t port || not (is_recorded r.outputs port))

-- the least latency is not above the table's, the table has the ports that are named, offsets are of ports that were recorded, and what begins and ends
-- at instants that are given ends no sooner than it begins
pub record Fits (t : Content) (r : Recordings) : Type 0 where
  pub least : r.least ≤ t.latency
  pub ports : list_any (is_missing t r) port_numbers ≡ false
  pub offsets : list_any (is_stray t r) port_numbers ≡ false
  pub span : (from until : ℕ) → r.from ≡ Some from → r.until ≡ Some until → from ≤ until

-- ---- why they do not

-- A1: the least latency is above the table's, both in microseconds
abbrev pub latency_fault : Content → Recordings → Option ArgumentFault
latency_fault t r = if nat_lt t.latency r.least then Some (Latency (r.least / 1000) (t.latency / 1000)) else None

-- A2: the lowest port that `--ports` names and the table lacks
abbrev pub ports_fault : Content → Recordings → Option ArgumentFault
ports_fault t r = option_map Ports (find (is_missing t r) port_numbers)

-- A2 or A3 of a port: the table lacks it, or nothing is recorded there
abbrev pub offset_fault : Content → ℕ → ArgumentFault
offset_fault t port = if lacks t port then Offset port else LeftOut port

-- the fault of the lowest port where `--offset` adds something and nothing is recorded
abbrev pub offsets_fault : Content → Recordings → Option ArgumentFault
offsets_fault t r = option_map (offset_fault t) (find (is_stray t r) port_numbers)

-- A4: the recordings' span ends before it begins, both in nanoseconds
abbrev pub span_fault : Option ℕ → Option ℕ → Option ArgumentFault
span_fault None until = None
span_fault (Some from) None = None
span_fault (Some from) (Some until) = if nat_lt until from then Some (Span from until) else None

-- profile: the first fault of the options: of the latency, then of the ports, then of the offsets, then of the span
abbrev pub first_argument_fault : Content → Recordings → Option ArgumentFault
first_argument_fault t r = option_or (latency_fault t r) (option_or (ports_fault t r) (option_or (offsets_fault t r) (span_fault r.from r.until)))
