-- What a merge of the records of several ports is, and that the program's is one, by stamp and then by port number.
use Rattle.std.specs.Prelude.{◌≡◌, ℕ, ◌<◌, ◌≤◌, ◌⊎◌, ◌==◌, All, Contains, List, [], ◌∷◌, map, filter}
use Rattle.std.specs.List.{AllByRecursion}
use Rattle.afdx_pcap.specs.Record.{Record}
use Rattle.afdx_core.specs.Merge.{Arrival, Capture, Rises, records_of, arrivals_of, by_stamp, merged}

-- the records that came in at a port, in order
abbrev pub part_at : ℕ → List Arrival → List Record
part_at port arrivals = map (λ a. a.frame) (filter (λ a. a.port == port) arrivals)

-- no stamp is below the one before it
abbrev pub AreInOrder : List Arrival → Type 0
AreInOrder arrivals = Rises (map (λ a. a.frame) arrivals)

-- a merge: its stamps do not fall, and its part from each port is that port's records
pub record IsMerge (captures : List Capture) (arrivals : List Arrival) : Type 0 where
  pub in_order : AreInOrder arrivals
  pub parts : (port : ℕ) → part_at port arrivals ≡ records_of captures port

-- these ordered arrivals are of those that came, and their stamps do not fall
pub record IsOrdered (arrivals ordered : List Arrival) : Type 0 where
  pub among : All (Contains arrivals) ordered
  pub in_order : AreInOrder ordered

-- whatever their stamps, arrivals by stamp are such
abbrev pub ByStampIsOrdered : Type 0
ByStampIsOrdered = (arrivals : List Arrival) → IsOrdered arrivals (by_stamp arrivals)

-- if no port's stamps fall, the program's merge is one
abbrev pub MergedIsAMerge : Type 0
MergedIsAMerge = (captures : List Capture) → ((port : ℕ) → Rises (records_of captures port)) → IsMerge captures (merged captures)

-- one arrival comes before another by stamp, then by port number
abbrev pub Precedes : Arrival → Arrival → Type 0
Precedes a b = (a.frame.stamp < b.frame.stamp) ⊎ ((a.frame.stamp ≡ b.frame.stamp) × (a.port ≤ b.port))

-- these arrivals come one before the other
abbrev pub AreByStampAndPort : List Arrival → Type 0
AreByStampAndPort [] = Unit {0}
AreByStampAndPort (a ∷ arrivals) = AllByRecursion (λ b. Precedes a b) arrivals × AreByStampAndPort arrivals

-- the port numbers of arrivals do not fall
abbrev pub PortsRise : List Arrival → Type 0
PortsRise [] = Unit {0}
PortsRise (a ∷ arrivals) = AllByRecursion (λ b. a.port ≤ b.port) arrivals × PortsRise arrivals

-- if the captures are by rising port number, the program's merge is by stamp, then by port number
abbrev pub MergedIsByStampAndPort : Type 0
MergedIsByStampAndPort = (captures : List Capture) → PortsRise (arrivals_of captures) → AreByStampAndPort (merged captures)
