-- The records of several ports, and the merge of them that the program makes.
use Rattle.std.specs.Prelude.{ℕ, ◌≤◌, ◌==◌, nat_le, if◌then◌else◌, List, [], ◌∷◌, ◌++◌, map}
use Rattle.std.specs.List.{AllByRecursion}
use Rattle.afdx_pcap.specs.Record.{Record}

-- a record, and the port at which it came in
pub record Arrival : Type 0 where
  pub port : ℕ
  pub frame : Record

-- the records of a port's capture
pub record Capture : Type 0 where
  pub port : ℕ
  pub records : List Record

-- pcap 2.4 leaves the order of records open; profile: stamps do not fall
abbrev pub Rises : List Record → Type 0
Rises [] = Unit {0}
Rises (r ∷ rs) = AllByRecursion (λ later. r.stamp ≤ later.stamp) rs × Rises rs

-- the records of a port
abbrev pub records_of : List Capture → ℕ → List Record
records_of [] port = []
records_of (c ∷ captures) port = (if c.port == port then c.records else []) ++ records_of captures port

-- all records, capture by capture
abbrev pub arrivals_of : List Capture → List Arrival
arrivals_of [] = []
arrivals_of (c ∷ captures) = map (λ r. record { port = c.port; frame = r }) c.records ++ arrivals_of captures

-- an arrival in its place by its stamp, before those of its own stamp
abbrev pub placed : Arrival → List Arrival → List Arrival
placed a [] = a ∷ []
placed a (b ∷ arrivals) = if nat_le a.frame.stamp b.frame.stamp then a ∷ b ∷ arrivals else b ∷ placed a arrivals

-- arrivals by stamp; those of one stamp stay in order
abbrev pub by_stamp : List Arrival → List Arrival
by_stamp [] = []
by_stamp (a ∷ arrivals) = placed a (by_stamp arrivals)

-- profile: the program's merge: by stamp, then in the order of the captures, which is that of the port numbers if the captures
-- rise by port; those of one port stay in capture order
abbrev pub merged : List Capture → List Arrival
merged captures = by_stamp (arrivals_of captures)
