-- What was accepted when a bound counted all that a port's links may send at once stays accepted.
use Rattle.std.specs.Prelude.{ℕ, List, slice_get, Option, option_and_then, All, Contains}
use Rattle.afdx_table.specs.declared.rows.PortRow.{PortRow}
use Rattle.afdx_table.specs.WellFormed.{IsWellFormed}
use Rattle.afdx_load.specs.Load.{load_of}
use Rattle.afdx_load.specs.Bounds.{bounds_of}
use Rattle.afdx_jitter.specs.declared.delays.Delays.{Delays}
use Rattle.afdx_jitter.specs.Delay.{IsEnough}
use Rattle.afdx_grouping.specs.Scatter.{scattered}
use Rattle.afdx_network_check.specs.Net.{Network, Row, Back, rows_of, scatter_at, bound_in, IsWayBack, source_of, AreDelaysBy}
use Rattle.afdx_network_check.specs.Rules.{HasJitters}

-- the bound by the port's whole load, as it is printed of a table by itself, for latencies that may differ so much
abbrev pub whole_bound_at : Network → Row → PortRow → Option ℕ
whole_bound_at net r p = option_and_then (λ t. bound_in (bounds_of (scattered (scatter_at net r.switch t) (load_of t.latency p.speed p.id t.links))) r.link.priority) (slice_get net.tables r.switch)

-- the jitters are enough for these bounds
abbrev pub HasWholeJitters : Network → Type 0
HasWholeJitters net = (r : Row) (backs : List Back) (d : Delays) → Contains (rows_of net) r → IsWayBack net r backs → AreDelaysBy (whole_bound_at net) net backs d
    → IsEnough d (source_of r backs).link.jitter r.link.jitter

-- jitters that are enough for the bounds by whole loads are enough
abbrev pub WholeJittersAreEnough : Type 0
WholeJittersAreEnough = (net : Network) → All IsWellFormed net.tables → HasWholeJitters net → HasJitters net
