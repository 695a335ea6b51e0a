-- What recordings keep to, they keep to also if less is known of the switch and of the recorders (profile).
use Rattle.std.specs.Prelude.{◌≡◌, ℕ, ◌≤◌, List, None}
use Rattle.afdx_pcap.specs.Record.{Record}
use Rattle.afdx_table.specs.declared.rows.PortRow.{PortRow}
use Rattle.afdx_table.specs.Content.{Content}
use Rattle.afdx_table.specs.WellFormed.{IsWellFormed}
use Rattle.afdx_following.specs.declared.watch.Watch.{Watch}
use Rattle.afdx_core.specs.Merge.{Capture}
use Rattle.afdx_compare.specs.Within.{IsKeptWithin}
use Rattle.afdx_compare.specs.Inner.Laws.{ComeInOrder}
use Rattle.afdx_compare_laws.specs.Comparing.{IsExact}

-- the same recordings, of a switch of this least latency whose latencies differ by so much
abbrev pub varying : ℕ → ℕ → Watch → Watch
varying least scatter w = record w { least = least; scatter = scatter }

-- the same recordings by stamps that are off by so much
abbrev pub off_by : ℕ → Watch → Watch
off_by tolerance w = record w { tolerance = tolerance }

-- what recordings keep to for a least latency, they keep to for a lower one, and if latencies differ by more; wherever they begin and end
abbrev pub LessLatencyIsKeptToo : Type 0
LessLatencyIsKeptToo = (w : Watch) (least scatter : ℕ) (t : Content) (ports : List PortRow) (read : List Capture) (out : PortRow → List Record)
    → least ≤ w.least → w.scatter ≤ scatter → IsKeptWithin w t ports read out → IsKeptWithin (varying least scatter w) t ports read out

-- what whole recordings keep to if all is exact, they keep to whatever their stamps are off by
abbrev pub MoreToleranceIsKeptToo : Type 0
MoreToleranceIsKeptToo = (w : Watch) (tolerance : ℕ) (t : Content) (ports : List PortRow) (read : List Capture) (out : PortRow → List Record)
    → IsWellFormed t → ComeInOrder t read → IsExact w → w.until ≡ None → IsKeptWithin w t ports read out → IsKeptWithin (off_by tolerance w) t ports read out
