-- What leaves a port of a switch that keeps to its bounds, whatever made the switch: the headline's relation, for any least latency and for
-- latencies that differ.
use Rattle.std.specs.Prelude.{◌≡◌, ℕ, ◌+◌, ◌≤◌, true, false, List, [], length, Some, All, Contains}
use Rattle.std.specs.List.{AllZip}
use Rattle.afdx_units.specs.Line.{size_of, cost_of}
use Rattle.afdx_pcap.specs.Record.{Record}
use Rattle.afdx_frame.specs.Address.{link_of}
use Rattle.afdx_table.specs.declared.rows.PortRow.{PortRow}
use Rattle.afdx_table.specs.Link.{Link, leads_to}
use Rattle.afdx_table.specs.Content.{Content}
use Rattle.afdx_load.specs.Load.{load_of}
use Rattle.afdx_isolation.specs.Table.{bound_of}
use Rattle.afdx_grouping.specs.Scatter.{scattered}
use Rattle.afdx_core.specs.Merge.{Capture}
use Rattle.afdx_session.specs.Headline.{own_records, passed_records, records_for, bytes_of, IsIsolatedAt}

-- a frame has left no sooner than the least latency and its line time after it came, and no later than this bound after it came
pub record KeepsBound (least : ℕ) (p : PortRow) (bound : ℕ) (came left : Record) : Type 0 where
  pub least_is : came.stamp + least + cost_of p.speed (size_of (length came.bytes)) ≤ left.stamp
  pub most : left.stamp ≤ came.stamp + bound

-- the frame has left within the port's bound for the link's priority, which is for latencies that differ by at most the scatter
pub record IsInBoundOf (least scatter : ℕ) (t : Content) (p : PortRow) (l : Link) (came left : Record) : Type 0 where
  pub bound : ℕ
  pub bound_is : bound_of (scattered scatter (load_of t.latency p.speed p.id t.links)) l.priority ≡ Some bound
  pub keeps : KeepsBound least p bound came left

-- the headline's relation at one port, with these latencies: what leaves it, if these captures were read
pub record IsKeptBy (least scatter : ℕ) (t : Content) (read : List Capture) (p : PortRow) (out : List Record) : Type 0 where
  pub passed : (l : Link) → Contains t.links l → leads_to p.id l ≡ true
      → bytes_of (records_for l out) ≡ bytes_of (passed_records l (own_records t l read))
  pub none_else : (l : Link) → Contains t.links l → leads_to p.id l ≡ false → records_for l out ≡ []
  pub of_links : All (λ r. (l : Link) × Contains t.links l × (link_of r.bytes ≡ l.id)) out
  pub in_bound : (l : Link) → Contains t.links l → leads_to p.id l ≡ true
      → AllZip (IsInBoundOf least scatter t p l) (passed_records l (own_records t l read)) (records_for l out)

-- ---- laws

-- for our switch, which takes the table's latency for each frame, it is the headline's relation
abbrev pub IsolatedIsKept : Type 0
IsolatedIsKept = (t : Content) (read : List Capture) (p : PortRow) (out : List Record) →
    (IsIsolatedAt t read p out → IsKeptBy t.latency 0 t read p out) × (IsKeptBy t.latency 0 t read p out → IsIsolatedAt t read p out)

-- what keeps to a least latency and a scatter keeps to a lesser latency and to a greater scatter: so our switch keeps to every least latency
-- up to the table's
abbrev pub LessIsKeptToo : Type 0
LessIsKeptToo = (least more scatter wider : ℕ) (t : Content) (read : List Capture) (p : PortRow) (out : List Record) → least ≤ more → scatter ≤ wider
    → IsKeptBy more scatter t read p out → IsKeptBy least wider t read p out
