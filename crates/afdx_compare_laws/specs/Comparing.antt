-- Recordings that keep to what is proved of our switch are said to conform (profile).
use Rattle.std.specs.Prelude.{◌≡◌, ◌⊎◌, ℕ, ◌-◌, ◌≤◌, ◌==◌, Bool, true, List, length, Some, slice_get, Contains}
use Rattle.std.specs.List.{AllByRecursion, list_all}
use Rattle.afdx_units.specs.Time.{last_instant}
use Rattle.afdx_pcap.specs.Record.{Record}
use Rattle.afdx_frame.specs.Address.{constant_of}
use Rattle.afdx_table.specs.declared.rows.PortRow.{PortRow}
use Rattle.afdx_table.specs.Link.{Link}
use Rattle.afdx_table.specs.Content.{Content}
use Rattle.afdx_table.specs.WellFormed.{IsWellFormed}
use Rattle.afdx_grouping.specs.Scatter.{IsAcceptedWith}
use Rattle.afdx_pairing.specs.Limits.{most_of}
use Rattle.afdx_following.specs.declared.watch.Watch.{Watch}
use Rattle.afdx_following.specs.declared.watch.Start.TheVariants.{Rest}
use Rattle.afdx_following.specs.Watched.{Watched}
use Rattle.afdx_merging.specs.Merge.{Arrival, IsMergeOf}
use Rattle.afdx_recordings.specs.declared.recordings.Recordings.{Recordings}
use Rattle.afdx_compare.specs.Comparison.{Comparison, IsBegun, with_until, with_end, conform}
use Rattle.afdx_compare.specs.Sources.{sources_of}
use Rattle.afdx_compare.specs.Arrivals.{with_arrivals}
use Rattle.afdx_compare.specs.Within.{own_within, recorded, IsKeptWithin}
use Rattle.afdx_compare.specs.Inner.Laws.{watch_within, recorded_ports, came_in, left_out}
use Rattle.afdx_compare_laws.specs.Fine.{LeavesLater}
use Rattle.afdx_compare_laws.specs.Fates.{AllDiffer}

-- all was at rest at first, and stamps are not off
pub record IsExact (w : Watch) : Type 0 where
  pub rest : w.start ≡ Rest
  pub exact : w.tolerance ≡ 0

-- a link whose own frames these are, after all arrived: each leaves each port after it came, whatever the stamps are off by; and frames of
-- the same bytes came at least the port's bound and the tolerance apart, or all is exact
pub record IsClear (w : Watch) (own : List Record) (f : Watched) : Type 0 where
  pub later : AllByRecursion (λ o. AllByRecursion (LeavesLater o.limits) own) f.outputs
  pub apart : AllByRecursion (λ o. AllDiffer (most_of o.limits) own) f.outputs ⊎ IsExact w

-- each link is clear, by its own frames that count
abbrev pub AreClear : Watch → Content → List (List Record) → Comparison → Type 0
AreClear w t captures all = (place : ℕ) (l : Link) (f : Watched) → slice_get t.links place ≡ Some l → slice_get all.links place ≡ Some f
    → IsClear w (own_within w t l (came_in t.ports captures)) f

-- ARINC 664 Part 7: an address has six bytes, the first four of which are the constant field of all links
abbrev pub HasAddress : Content → Record → Type 0
HasAddress t x = (6 ≤ length x.bytes) × (constant_of x.bytes ≡ t.constant)

-- each record that counts has one
abbrev pub HaveAddresses : Watch → Content → List PortRow → (PortRow → List Record) → Type 0
HaveAddresses w t ports out = (p : PortRow) → Contains ports p → AllByRecursion (HasAddress t) (recorded w (out p))

-- if recordings keep to what is proved of our switch, and each record that counts has an address, no record is foreign
abbrev pub KeptIsNotForeign : Type 0
KeptIsNotForeign = (t : Content) (r : Recordings) (from until : ℕ) (keeping : Bool) (captures : List (List Record)) (arrivals : List Arrival) (first : Comparison)
    → IsWellFormed t → IsBegun t r from keeping first → IsMergeOf (sources_of t r).clocks captures arrivals
    → HaveAddresses (watch_within t r from until) t (recorded_ports t r) (left_out t r captures)
    → IsKeptWithin (watch_within t r from until) t (recorded_ports t r) (came_in t.ports captures) (left_out t r captures)
    → list_all (λ p. p.foreign == 0) (with_arrivals (sources_of t r).captures arrivals (with_until until first)).ports ≡ true

-- over a table that is accepted for these latencies: if recordings keep to what is proved of our switch, no record is foreign, and each link is
-- clear, they are said to conform
abbrev pub KeptIsConforms : Type 0
KeptIsConforms = (t : Content) (r : Recordings) (from until : ℕ) (keeping : Bool) (captures : List (List Record)) (arrivals : List Arrival) (first : Comparison)
    → let all = with_arrivals (sources_of t r).captures arrivals (with_until until first) in
    let w = watch_within t r from until in
    IsWellFormed t → IsAcceptedWith (t.latency - r.least) t → AllByRecursion (AllByRecursion (λ x. x.stamp ≤ last_instant)) captures
    → IsBegun t r from keeping first → IsMergeOf (sources_of t r).clocks captures arrivals → list_all (λ p. p.foreign == 0) all.ports ≡ true → AreClear w t captures all
    → IsKeptWithin w t (recorded_ports t r) (came_in t.ports captures) (left_out t r captures) → conform (with_end all) ≡ true
