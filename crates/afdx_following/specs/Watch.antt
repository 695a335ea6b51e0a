-- What counts of recordings that begin and end somewhere (profile).
use Rattle.std.specs.Prelude.{ℕ, ◌+◌, ◌*◌, ◌-◌, min, nat_le, Bool, true, ◌&&◌, Option, Some, None}
use Rattle.std.specs.Option.{option_map}
use Rattle.afdx_units.specs.declared.line.Speed.{Speed}
use Rattle.afdx_units.specs.Time.{last_instant}
use Rattle.afdx_pairing.specs.declared.limits.Limits.{Limits}
use Rattle.afdx_following.specs.declared.watch.Start.{Start}
use Rattle.afdx_following.specs.declared.watch.Start.TheVariants.{Rest, Cut}
use Rattle.afdx_following.specs.declared.watch.Watch.{Watch}

-- an instant that is at least so many ns after the beginning
abbrev pub has_begun : Start → ℕ → ℕ → Bool
has_begun Rest after stamp = true
has_begun (Cut from) after stamp = nat_le (from + after) stamp

-- an instant that is not past the end
abbrev pub has_not_ended : Option ℕ → ℕ → Bool
has_not_ended None stamp = true
has_not_ended (Some until) stamp = nat_le stamp until

-- a frame counts from the beginning and the tolerance on, up to the end: what came then leaves no sooner than the records' span begins
abbrev pub has_frame : Watch → ℕ → Bool
has_frame w stamp = has_begun w.start w.tolerance stamp && has_not_ended w.until stamp

-- a record counts from the beginning on, up to the end less the tolerance: what left then came no later than the frames' span ends
abbrev pub has_record : Watch → ℕ → Bool
has_record w stamp = has_begun w.start 0 stamp && has_not_ended w.until (stamp + w.tolerance)

-- the instant before which a record may be of a frame that came before the frames that count: none if all was at rest
abbrev pub before_of : Start → ℕ → ℕ → ℕ
before_of Rest tolerance bound = 0
before_of (Cut from) tolerance bound = from + 2 * tolerance + bound

-- what may pass between a frame and its record, at a port of this bound for the link's priority
abbrev pub limits_of : Watch → ℕ → Speed → Limits
limits_of w bound speed = record {
  least = w.least;
  bound = bound;
  tolerance = w.tolerance;
  gap = w.gap;
  speed = speed;
  before = before_of w.start w.tolerance bound;
}

-- the instant at which nothing is known of accounts, unless they were full: the one from which on frames count, since frames that do not
-- count may have taken of an account up to then
abbrev pub unknown_from : ℕ → Start → Option ℕ
unknown_from tolerance Rest = None
unknown_from tolerance (Cut from) = Some (min (from + tolerance) last_instant)

-- the instant at which nothing is known of a switch's accounts, unless they were full
abbrev pub unknown_since : Watch → Option ℕ
unknown_since w = unknown_from w.tolerance w.start

-- the instant up to which records count, if not all had left
abbrev pub last_record : Watch → Option ℕ
last_record w = option_map (λ until. until - w.tolerance) w.until
