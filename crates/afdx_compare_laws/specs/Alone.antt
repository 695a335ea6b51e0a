-- What is found out about a link depends only on what came at its own port and on what left at those that it leads to (profile).
use Rattle.std.specs.Prelude.{◌≡◌, ℕ, ◌==◌, Bool, true, false, List, Some, slice_get, if◌then◌else◌}
use Rattle.std.specs.Option.{option_map_or}
use Rattle.afdx_pcap.specs.Record.{Record}
use Rattle.afdx_table.specs.Link.{Link, leads_to}
use Rattle.afdx_table.specs.Content.{Content}
use Rattle.afdx_merging.specs.Merge.{Arrival, IsMergeOf}
use Rattle.afdx_recordings.specs.declared.recordings.Recordings.{Recordings}
use Rattle.afdx_compare.specs.Comparison.{Comparison, IsBegun, with_until, with_end}
use Rattle.afdx_compare.specs.Sources.{Sources, sources_of}
use Rattle.afdx_compare.specs.Arrivals.{with_arrivals}

-- the capture at a place is of what came at the link's port, or of what left at a port that it leads to
abbrev pub concerns : Link → Sources → ℕ → Bool
concerns l s place = option_map_or (λ of. if of.leaves then leads_to of.port l else of.port == l.from) (slice_get s.captures place) false

-- these captures are the same for a link, whatever all others are
abbrev pub AreAlikeFor : Link → Sources → List (List Record) → List (List Record) → Type 0
AreAlikeFor l s captures others = (place : ℕ) → concerns l s place ≡ true → slice_get captures place ≡ slice_get others place

-- what is found out once all of these arrived
abbrev pub found_of : Content → Recordings → ℕ → Comparison → List Arrival → Comparison
found_of t r until first arrivals = with_end (with_arrivals (sources_of t r).captures arrivals (with_until until first))

-- if two recordings are the same for a link, the same is found out about it; so its lines and its rows are the same
abbrev pub RowsAreAlone : Type 0
RowsAreAlone = (t : Content) (r : Recordings) (from until : ℕ) (keeping : Bool) (first : Comparison) (captures others : List (List Record)) (arrivals arrivals' : List Arrival)
    → IsBegun t r from keeping first → IsMergeOf (sources_of t r).clocks captures arrivals → IsMergeOf (sources_of t r).clocks others arrivals'
    → (place : ℕ) (l : Link) → slice_get t.links place ≡ Some l → AreAlikeFor l (sources_of t r) captures others
    → slice_get (found_of t r until first arrivals).links place ≡ slice_get (found_of t r until first arrivals').links place
