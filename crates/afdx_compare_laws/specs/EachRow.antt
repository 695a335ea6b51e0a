-- If a switch was at rest and stamps are exact, a row of a link depends only on what came at the link's port and on what left at the row's (profile).
use Rattle.std.specs.Prelude.{◌≡◌, ℕ, ◌==◌, Bool, true, false, List, [], flat_map, Some, slice_get, if◌then◌else◌}
use Rattle.std.specs.Option.{option_map, option_map_or}
use Rattle.afdx_csv.specs.declared.form.Form.{Form}
use Rattle.afdx_pcap.specs.Record.{Record}
use Rattle.afdx_table.specs.Link.{Link}
use Rattle.afdx_table.specs.Content.{Content}
use Rattle.afdx_table.specs.WellFormed.{IsWellFormed}
use Rattle.afdx_following.specs.Watched.{Watched}
use Rattle.afdx_merging.specs.Merge.{Arrival, IsMergeOf}
use Rattle.afdx_recordings.specs.declared.recordings.Recordings.{Recordings}
use Rattle.afdx_compare.specs.Comparison.{Comparison, IsBegun}
use Rattle.afdx_compare.specs.Sources.{Sources, sources_of}
use Rattle.afdx_compare.specs.Report.{output_text}
use Rattle.afdx_compare.specs.Rows.{link_rows}
use Rattle.afdx_compare_laws.specs.Alone.{found_of}

-- the capture at a place is of what came at the link's port, or of what left at the port of a number
abbrev pub concerns_at : Link → ℕ → Sources → ℕ → Bool
concerns_at l port s place = option_map_or (λ of. if of.leaves then of.port == port else of.port == l.from) (slice_get s.captures place) false

-- these captures are the same for the link at that port, whatever all others are
abbrev pub AreAlikeAt : Link → ℕ → Sources → List (List Record) → List (List Record) → Type 0
AreAlikeAt l port s captures others = (place : ℕ) → concerns_at l port s place ≡ true → slice_get captures place ≡ slice_get others place

-- the text of a link at the port of a number
abbrev pub text_at : Form → ℕ → ℕ → Watched → List ℕ
text_at form port link f = flat_map (λ o. if o.port == port then output_text form link f.unsure o else []) f.outputs

-- if a switch was at rest, stamps are exact, and two recordings are the same for a link at a port, then its text at the port is the same, and so are
-- its rows
abbrev pub EachRowIsAlone : Type 0
EachRowIsAlone = (t : Content) (r : Recordings) (from until : ℕ) (keeping : Bool) (first : Comparison) (captures others : List (List Record)) (arrivals arrivals' : List Arrival)
    → IsWellFormed t → r.rest ≡ true → r.tolerance ≡ 0 → IsBegun t r from keeping first
    → IsMergeOf (sources_of t r).clocks captures arrivals → IsMergeOf (sources_of t r).clocks others arrivals'
    → (place port : ℕ) (l : Link) → slice_get t.links place ≡ Some l → AreAlikeAt l port (sources_of t r) captures others → (form : Form)
    → let one = slice_get (found_of t r until first arrivals).links place in
    let other = slice_get (found_of t r until first arrivals').links place in
    (option_map (text_at form port l.id) one ≡ option_map (text_at form port l.id) other) × (option_map (link_rows port l.id) one ≡ option_map (link_rows port l.id) other)
