-- Spans of recordings: what recordings keep to, each part of them keeps to as well (profile).
use Rattle.std.specs.Prelude.{◌≡◌, ℕ, ◌+◌, ◌-◌, ◌<◌, ◌≤◌, true, List, map, Option, Some, None, Contains}
use Rattle.afdx_units.specs.Time.{last_instant}
use Rattle.afdx_pcap.specs.Record.{Record}
use Rattle.afdx_account.specs.Level.{InOrder}
use Rattle.afdx_filter.specs.Frame.{frame_of}
use Rattle.afdx_table.specs.declared.rows.PortRow.{PortRow}
use Rattle.afdx_table.specs.Link.{Link, leads_to}
use Rattle.afdx_table.specs.Content.{Content}
use Rattle.afdx_table.specs.WellFormed.{IsWellFormed}
use Rattle.afdx_load.specs.Accepted.{IsAccepted}
use Rattle.afdx_following.specs.declared.watch.Watch.{Watch}
use Rattle.afdx_following.specs.declared.watch.Start.{Start}
use Rattle.afdx_following.specs.declared.watch.Start.TheVariants.{Rest, Cut}
use Rattle.afdx_core.specs.Merge.{Capture}
use Rattle.afdx_session.specs.Headline.{IsIsolatedAt}
use Rattle.afdx_compare.specs.Within.{own_within, bound_at, exactly, IsKeptWithin}
use Rattle.afdx_compare.specs.Inner.Laws.{ComeInOrder}
use Rattle.afdx_compare_laws.specs.Less.{varying, off_by}

-- ---- spans

-- recordings that begin and end at other instants
abbrev pub cut : Start → Option ℕ → Watch → Watch
cut start until w = record w { start = start; until = until }

-- a span begins no sooner than the recordings
abbrev pub BeginsWithin : Start → Start → Type 0
BeginsWithin Rest now = Unit {0}
BeginsWithin (Cut from) Rest = ⊥
BeginsWithin (Cut from) (Cut now) = from ≤ now

-- recordings begin so early that frames can count: the instant from which on they do is one that pcap can hold
abbrev pub BeginsInTime : ℕ → Start → Type 0
BeginsInTime tolerance Rest = Unit {0}
BeginsInTime tolerance (Cut from) = from + tolerance ≤ last_instant

-- a span ends no later than the recordings, and its end is no less than the tolerance
abbrev pub EndsWithin : ℕ → Option ℕ → Option ℕ → Type 0
EndsWithin tolerance None None = Unit {0}
EndsWithin tolerance (Some until) None = ⊥
EndsWithin tolerance None (Some now) = tolerance ≤ now
EndsWithin tolerance (Some until) (Some now) = (tolerance ≤ now) × (now ≤ until)

-- a part of what was recorded
pub record IsSpanOf (w : Watch) (start : Start) (until : Option ℕ) : Type 0 where
  pub begins : BeginsWithin w.start start
  pub in_time : BeginsInTime w.tolerance start
  pub ends : EndsWithin w.tolerance w.until until

-- ---- the limit

-- frames of the same bytes came at least so many ns apart, or at one instant
abbrev pub DifferWithin : ℕ → List Record → Type 0
DifferWithin time own = (f g : Record) → Contains own f → Contains own g → f.bytes ≡ g.bytes → f.stamp < g.stamp → f.stamp + time ≤ g.stamp

-- each link's own frames differ within the tolerance and the bound of each port that it leads to, or came at one instant
abbrev pub DifferWithinBounds : Watch → Content → List PortRow → List Capture → Type 0
DifferWithinBounds w t ports read = (p : PortRow) → Contains ports p → (l : Link) → Contains t.links l → leads_to p.id l ≡ true → (bound : ℕ) → bound_at w t p l ≡ Some bound
    → DifferWithin (bound + w.tolerance) (own_within w t l read)

-- ---- the law

-- what was recorded at each port is in the order of its stamps
abbrev pub LeaveInOrder : List PortRow → (PortRow → List Record) → Type 0
LeaveInOrder ports out = (p : PortRow) → Contains ports p → InOrder 0 (map frame_of (out p))

-- what recordings keep to, each span of them keeps to, if a link's frames within a bound of each other differ
abbrev pub EachSpanIsKept : Type 0
EachSpanIsKept = (w : Watch) (t : Content) (ports : List PortRow) (read : List Capture) (out : PortRow → List Record) (start : Start) (until : Option ℕ)
    → IsWellFormed t → w.gap ≤ 20 → ComeInOrder t read → LeaveInOrder ports out → IsSpanOf w start until → DifferWithinBounds w t ports read
    → IsKeptWithin w t ports read out → IsKeptWithin (cut start until w) t ports read out

-- so each span of whatever is isolated, as what a run of an accepted table answers is, keeps to what is proved of our switch: for each least latency
-- up to the table's, and whatever its stamps are off by, if a link's frames within a bound of each other differ
abbrev pub OurSpansAreKept : Type 0
OurSpansAreKept = (t : Content) (read : List Capture) (out : PortRow → List Record) (least tolerance : ℕ) (start : Start) (until : Option ℕ)
    → let w = off_by tolerance (exactly t) in
    IsWellFormed t → IsAccepted t → least ≤ t.latency → IsSpanOf w start until → ComeInOrder t read → LeaveInOrder t.ports out → DifferWithinBounds w t t.ports read
    → ((p : PortRow) → Contains t.ports p → IsIsolatedAt t read p (out p)) → IsKeptWithin (cut start until (varying least (t.latency - least) w)) t t.ports read out
