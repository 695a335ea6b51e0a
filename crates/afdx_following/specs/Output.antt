-- What is known of a link at an output port (profile).
use Rattle.std.specs.Prelude.{◌≡◌, ℕ, ◌+◌, ◌*◌, ◌-◌, ◌≤◌, min, nat_le, nat_lt, Bool, List, [], ◌∷◌, ◌++◌, map, filter, take, drop, length, Option, Some, None, slice_get, if◌then◌else◌}
use Rattle.std.specs.List.{AllByRecursion, list_any, position_or_len}
use Rattle.std.specs.Option.{option_map}
use Rattle.afdx_units.specs.Line.{tick_of}
use Rattle.afdx_pairing.specs.declared.limits.Limits.{Limits}
use Rattle.afdx_pairing.specs.declared.event.Event.{Event}
use Rattle.afdx_pairing.specs.Events.{Numbered, differs}
use Rattle.afdx_pairing.specs.Limits.{left_at, most_of, in_bound}
use Rattle.afdx_pairing.specs.Pairing.{Pairing, at_first, with_frame, end_told}
use Rattle.afdx_pairing.specs.Kept.{Sight, Left, Until, after_one, told_by_one}
use Rattle.afdx_following.specs.declared.tally.Tally.{Tally}
use Rattle.afdx_following.specs.Tally.{no_events, tallied}

-- what was found out: its numbers, and what speaks against the switch, if that is kept
pub record Found : Type 0 where
  pub tally : Tally
  pub keeps : Bool
  pub differences : List Event

-- nothing was found out yet
abbrev pub nothing_found : Bool → Found
nothing_found keeps = record { tally = no_events; keeps = keeps; differences = [] }

-- what was found out, with these events
abbrev pub with_told : List Event → Found → Found
with_told events f = record {
  tally = tallied events f.tally;
  keeps = f.keeps;
  differences = f.differences ++ (if f.keeps then filter differs events else []);
}

-- a port of a link: its pairing, the records that left there and are not paired yet, and what was found out
pub record Output : Type 0 where
  pub port : ℕ
  pub limits : Limits
  pub pairing : Pairing
  pub waiting : List Numbered
  pub found : Found

-- the port of this number, before anything came or left
abbrev pub output_at : ℕ → Limits → Bool → Output
output_at port m keeps = record { port = port; limits = m; pairing = at_first m; waiting = []; found = nothing_found keeps }

-- nothing came or left at the port yet
abbrev pub IsFresh : Output → Type 0
IsFresh o = o ≡ output_at o.port o.limits o.found.keeps

-- a record that waits may be of a frame
abbrev pub has : Numbered → Output → Bool
has frame o = list_any (λ n. in_bound o.limits frame.frame n.frame) o.waiting

-- all records that may be of a frame were taken, if all were taken that left before an instant, whatever their stamps are off by
abbrev pub is_over : ℕ → Numbered → Output → Bool
is_over at frame o = nat_lt (frame.frame.stamp + most_of o.limits + o.limits.tolerance) at

-- the latest instant at which by the stamps the line was free again after a record
abbrev pub left_by : Numbered → Output → ℕ
left_by n o = left_at o.limits n.frame + o.limits.tolerance

-- the latest instant at which by the stamps a record was recorded
abbrev pub stamped_by : Numbered → Output → ℕ
stamped_by n o = n.frame.stamp + o.limits.tolerance

-- a port after a record left
abbrev pub with_waiting : Numbered → Output → Output
with_waiting n o = record o { waiting = o.waiting ++ n ∷ [] }

-- a port after a frame came and its fate was told
abbrev pub with_came : Numbered → Bool → Output → Output
with_came frame passes o = record o { pairing = with_frame o.pairing frame passes }

-- the frames that are held came no later than an instant
abbrev pub HasComeBy : ℕ → Output → Type 0
HasComeBy at o = AllByRecursion (λ n. n.frame.stamp ≤ at) o.pairing.waiting × AllByRecursion (λ n. n.frame.stamp ≤ at) o.pairing.policed

-- a port after its pairing was told so
abbrev pub with_sight : Sight → Output → Output
with_sight s o = record o { pairing = after_one o.pairing s; found = with_told (told_by_one o.pairing s) o.found }

-- a port after its pairing was told all of these, in order
abbrev pub with_sights : List Sight → Output → Output
with_sights [] o = o
with_sights (s ∷ sights) o = with_sights sights (with_sight s o)

-- how many of the records that wait left before any frame came of which the fate is not known: such a frame comes no sooner than an
-- instant, and stamps are off by at most the tolerance
abbrev pub settled : Option ℕ → Output → ℕ
settled None o = length o.waiting
settled (Some unknown) o = position_or_len (λ n. nat_le (unknown - (o.limits.gap * tick_of o.limits.speed + o.limits.tolerance)) n.frame.stamp) o.waiting

-- a port after these records were paired
abbrev pub paired_up_to : Option ℕ → Output → Output
paired_up_to unknown o = with_sights (map Left (take (settled unknown o) o.waiting)) (record o { waiting = drop (settled unknown o) o.waiting })

-- the instant before which nothing leaves any more, but for the tolerance, if all that left up to an instant was taken
abbrev pub earliest : ℕ → Limits → Option Numbered → ℕ
earliest at m None = at
earliest at m (Some left) = min at (left_at m left.frame)

-- a port after all was taken that left up to an instant: frames that may not leave any more are let go
abbrev pub gone_on : ℕ → Output → Output
gone_on at o = with_sight (Until (earliest at o.limits (slice_get o.waiting 0) - o.limits.tolerance)) o

-- the instant up to which at a port the line was free again after a record, if not all had left
abbrev pub last_at : Limits → Option ℕ → Option ℕ
last_at m last = option_map (λ at. at + m.gap * tick_of m.speed) last

-- a port after the end: what became of the frames that still wait
abbrev pub with_end : Option ℕ → Output → Output
with_end last o = record o { found = with_told (end_told o.pairing (last_at o.limits last)) o.found }
