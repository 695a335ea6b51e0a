-- What is cut at an instant: the program's merge, and what leaves a port.
use Rattle.std.specs.Prelude.{ℕ, ◌≡◌, ◌+◌, ◌≤◌, nat_le, if◌then◌else◌, List, [], ◌∷◌, ◌++◌, length, slice_get, Some, None}
use Rattle.std.specs.List.{AllByRecursion}
use Rattle.afdx_units.specs.Line.{cost_of, least_size}
use Rattle.afdx_pcap.specs.Record.{Record}
use Rattle.afdx_table.specs.declared.rows.PortRow.{PortRow}
use Rattle.afdx_port.specs.declared.Settings.{Settings}
use Rattle.afdx_port.specs.declared.Item.{Item}
use Rattle.afdx_port.specs.declared.Sent.{Sent}
use Rattle.afdx_port.specs.Service.{service, before, sent_of}
use Rattle.afdx_core.specs.Merge.{Arrival, Rises, by_stamp}
use Rattle.afdx_paced.specs.Paced.{Paced, sends_up_to, out_up_to, after_put}

-- the arrivals at an instant or later
abbrev pub from : ℕ → List Arrival → List Arrival
from h [] = []
from h (a ∷ arrivals) = if nat_le h a.frame.stamp then a ∷ from h arrivals else from h arrivals

-- the arrivals before an instant
abbrev pub below : ℕ → List Arrival → List Arrival
below h [] = []
below h (a ∷ arrivals) = if nat_le h a.frame.stamp then below h arrivals else a ∷ below h arrivals

-- whatever comes at an instant or later, the merge of what came before it stays in front
abbrev pub MergesAreCut : Type 0
MergesAreCut = (h : ℕ) (arrivals : List Arrival) → by_stamp arrivals ≡ by_stamp (below h arrivals) ++ by_stamp (from h arrivals)

-- what a port has not sent when it comes to an instant ends no sooner than that and its line time
abbrev pub NothingEndsBefore : Type 0
NothingEndsBefore = (s : Settings) (t : ℕ) (items : List Item) → (rest : List Sent) × (sent_of (service s 0 items) ≡ sent_of (before t (service s 0 items)) ++ rest)
    × AllByRecursion (λ x. t + cost_of s.speed x.item.size ≤ x.end) rest

-- if no more than so many frames leave a port up to an instant, each further one leaves at least one latency and the line time of the
-- least frame later
abbrev pub NothingLeavesBefore : Type 0
NothingLeavesBefore = (v : Paced) (p : PortRow) (h k : ℕ) (r : Record) → length (out_up_to v (Some h) p) ≤ k
    → slice_get (out_up_to v None p) k ≡ Some r → h + v.table.latency + cost_of p.speed least_size ≤ r.stamp

-- a record that comes in at an instant or later changes nothing of what leaves up to it
abbrev pub LaterRecordsChangeNothing : Type 0
LaterRecordsChangeNothing = (v : Paced) (port : ℕ) (frame : Record) (h : ℕ) (p : PortRow) → h ≤ frame.stamp
    → out_up_to (after_put port frame v) (Some h) p ≡ out_up_to v (Some h) p

-- a record that comes in at an instant or later changes nothing of what is sent up to it
abbrev pub LaterRecordsSendNothing : Type 0
LaterRecordsSendNothing = (v : Paced) (port : ℕ) (frame : Record) (h : ℕ) (p : PortRow) → h ≤ frame.stamp
    → sends_up_to (after_put port frame v) (Some h) p ≡ sends_up_to v (Some h) p

-- what is sent up to an instant is the first part of what is sent up to a later one, and of all
pub record SendsGoOn : Type 0 where
  pub until : (v : Paced) (h n : ℕ) (p : PortRow) → h ≤ n → (rest : List Sent) × (sends_up_to v (Some n) p ≡ sends_up_to v (Some h) p ++ rest)
  pub in_the_end : (v : Paced) (h : ℕ) (p : PortRow) → (rest : List Sent) × (sends_up_to v None p ≡ sends_up_to v (Some h) p ++ rest)

-- what leaves up to an instant is the first part of what leaves up to a later one, and of all
pub record OutGoesOn : Type 0 where
  pub until : (v : Paced) (h n : ℕ) (p : PortRow) → h ≤ n → (rest : List Record) × (out_up_to v (Some n) p ≡ out_up_to v (Some h) p ++ rest)
  pub in_the_end : (v : Paced) (h : ℕ) (p : PortRow) → (rest : List Record) × (out_up_to v None p ≡ out_up_to v (Some h) p ++ rest)

-- what leaves a port leaves one after the other, and each record is of a frame that was captured whole
pub record OutIsInOrder : Type 0 where
  pub rises : (v : Paced) (p : PortRow) → Rises (out_up_to v None p)
  pub whole : (v : Paced) (p : PortRow) → AllByRecursion (λ r. r.original ≡ length r.bytes) (out_up_to v None p)
