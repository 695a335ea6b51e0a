-- Of all that arrived, what is a link's own.
use Rattle.std.specs.Prelude.{ℕ, ◌==◌, Bool, false, ◌&&◌, List, [], ◌∷◌, ◌++◌, Option, Some, None, slice_get, if◌then◌else◌}
use Rattle.afdx_pcap.specs.Record.{Record}
use Rattle.afdx_table.specs.Content.{Content}
use Rattle.afdx_following.specs.declared.watch.Watch.{Watch}
use Rattle.afdx_following.specs.Watch.{has_frame}
use Rattle.afdx_merging.specs.Merge.{Arrival}
use Rattle.afdx_compare.specs.declared.sources.Source.{Source}
use Rattle.afdx_compare.specs.Comparison.{place_of_own}

-- a frame is one of the link at a place
abbrev pub is_own_of : ℕ → Option ℕ → Bool
is_own_of place None = false
is_own_of place (Some link) = link == place

-- a frame that came at the port of a number, if it counts and is one of the link at this place; else nothing
abbrev pub own_came : Watch → Content → ℕ → ℕ → Record → List Record
own_came w t place port r = if has_frame w r.stamp && is_own_of place (place_of_own t port r) then r ∷ [] else []

-- a record of this capture, if it came, counts and is the link's own frame; else nothing
abbrev pub own_from : Watch → Content → ℕ → Option Source → Record → List Record
own_from w t place None r = []
own_from w t place (Some s) r = if s.leaves then [] else own_came w t place s.port r

-- the frames of the link at a place that came and count
abbrev pub own_of : Watch → Content → ℕ → List Source → List Arrival → List Record
own_of w t place captures [] = []
own_of w t place captures (a ∷ arrivals) = own_from w t place (slice_get captures a.place) a.head.frame ++ own_of w t place captures arrivals
