-- Which records have their place in the program's merge for good, though more may come.
use Rattle.std.specs.Prelude.{ℕ, zero, suc, ◌+◌, ◌<◌, ◌≤◌, ◌⊎◌, ◌≡◌, nat_le, false, if◌then◌else◌, List, [], ◌∷◌, ◌++◌, length, map, set, slice_get, slice_index, Option, Some, None}
use Rattle.std.specs.List.{AllByRecursion, flat_map}
use Rattle.afdx_pcap.specs.Record.{Record}
use Rattle.afdx_pcap.specs.Text.{record_text}
use Rattle.afdx_core.specs.Merge.{Arrival, Capture, Rises, merged}
use Rattle.afdx_table.specs.declared.rows.PortRow.{PortRow}
use Rattle.afdx_table.specs.Content.{Content}
use Rattle.afdx_core.specs.State.{State, sent_in}
use Rattle.afdx_session.specs.Output.{rows_of, written}
use Rattle.afdx_session.specs.Inner.Replay.{HasBytesOf, left_at, IsDrained}
use Rattle.afdx_session.specs.Streams.{Stream, captures_of, last_of, merged_so_far, frontier, output_so_far, GoesOn}

-- numbers rise
abbrev pub Ascend : List ℕ → Type 0
Ascend [] = Unit {0}
Ascend (n ∷ ns) = AllByRecursion (λ m. n < m) ns × Ascend ns

-- the ports of captures
abbrev pub ports_of : List Capture → List ℕ
ports_of captures = map (λ c. c.port) captures

-- an arrival comes before whatever a capture may still bring: the capture has ended, or its last record is later than the arrival, or has
-- the arrival's stamp and comes at no lower port
abbrev pub ComesBefore : Arrival → Stream → Type 0
ComesBefore a s = s.closed ≡ false → (a.frame.stamp < last_of s) ⊎ ((a.frame.stamp ≡ last_of s) × (a.port ≤ s.port))

-- an arrival comes before whatever any capture may still bring
abbrev pub IsSettled : List Stream → Arrival → Type 0
IsSettled streams a = AllByRecursion (ComesBefore a) streams

-- the last records of a capture wait
pub record IsQueued (s : Stream) (waiting : Capture) : Type 0 where
  pub port : waiting.port ≡ s.port
  pub gone : List Record
  pub records : s.records ≡ gone ++ waiting.records

-- the last records of each capture wait
abbrev pub AreQueued : List Stream → List Capture → Type 0
AreQueued [] [] = Unit {0}
AreQueued [] (w ∷ waiting) = ⊥
AreQueued (s ∷ streams) [] = ⊥
AreQueued (s ∷ streams) (w ∷ waiting) = IsQueued s w × AreQueued streams waiting

-- these arrivals were given on, and are settled; those records wait at their ports. The arrivals, and then the merge of those records, are
-- the program's merge so far
pub record IsSettling (streams : List Stream) (given : List Arrival) (waiting : List Capture) : Type 0 where
  pub queued : AreQueued streams waiting
  pub whole : merged_so_far streams ≡ given ++ merged waiting
  pub settled : AllByRecursion (IsSettled streams) given

-- a capture goes on, and what it brings waits after what waits
pub record Waits (s later : Stream) (waiting more : Capture) : Type 0 where
  pub on : GoesOn s later
  pub port : more.port ≡ s.port
  pub queue : more.records ≡ waiting.records ++ on.more

-- each capture goes on, and what it brings waits after what waits
abbrev pub AllWait : List Stream → List Stream → List Capture → List Capture → Type 0
AllWait [] [] [] [] = Unit {0}
AllWait [] [] [] (v ∷ more) = ⊥
AllWait [] [] (w ∷ waiting) more = ⊥
AllWait [] (n ∷ later) waiting more = ⊥
AllWait (s ∷ streams) [] waiting more = ⊥
AllWait (s ∷ streams) (n ∷ later) [] more = ⊥
AllWait (s ∷ streams) (n ∷ later) (w ∷ waiting) [] = ⊥
AllWait (s ∷ streams) (n ∷ later) (w ∷ waiting) (v ∷ more) = Waits s n w v × AllWait streams later waiting more

-- ---- the laws

-- what is settled keeps its place, whatever comes
abbrev pub SettledStays : Type 0
SettledStays = (streams later : List Stream) (given : List Arrival) (waiting more : List Capture) → Ascend (ports_of (captures_of streams)) → AllWait streams later waiting more
    → IsSettling streams given waiting → IsSettling later given more

-- ---- how far what waits is settled

-- of two places the first by stamp; the former, if their stamps are equal
abbrev pub first_place : ℕ × ℕ → Option (ℕ × ℕ) → ℕ × ℕ
first_place p None = p
first_place p (Some q) = if nat_le p.0 q.0 then p else q

-- the least place that a capture that has not ended has come to: the stamp of its last record, and its port; none if all have ended
abbrev pub limit : List Stream → Option (ℕ × ℕ)
limit [] = None
limit (s ∷ streams) = if s.closed then limit streams else Some (first_place (last_of s, s.port) (limit streams))

-- an arrival at this stamp and port lies at that place or before it
abbrev pub IsWithin : Option (ℕ × ℕ) → (stamp port : ℕ) → Type 0
IsWithin None stamp port = Unit {0}
IsWithin (Some p) stamp port = (stamp < p.0) ⊎ ((stamp ≡ p.0) × (port ≤ p.1))

-- ---- which record goes next

-- the first of these records, if any, has this stamp or a later one
abbrev pub HeadFrom : ℕ → List Record → Type 0
HeadFrom n [] = Unit {0}
HeadFrom n (r ∷ rs) = n ≤ r.stamp

-- the first record at this place is the first of all by stamp, and of those of its stamp the first by place
abbrev pub ComesFirst : ℕ → ℕ → List Capture → Type 0
ComesFirst n k [] = Unit {0}
ComesFirst n zero (w ∷ waiting) = HeadFrom n w.records × AllByRecursion (λ v. HeadFrom n v.records) waiting
ComesFirst n (suc k) (w ∷ waiting) = HeadFrom (n + 1) w.records × ComesFirst n k waiting

-- the stamps of no capture fall
abbrev pub AllRise : List Capture → Type 0
AllRise captures = AllByRecursion (λ (c : Capture). Rises c.records) captures

-- the captures without the first record of the one at a place
abbrev pub without : List Capture → ℕ → Capture → List Record → List Capture
without waiting k w rest = set waiting k (record { port = w.port; records = rest })

-- a record within the limit that is the first of what waits goes: it is the next in the merge, and settled
abbrev pub SettledRecordsGo : Type 0
SettledRecordsGo = (streams : List Stream) (given : List Arrival) (waiting : List Capture) (k : ℕ) (w : Capture) (r : Record) (rest : List Record)
    → Ascend (ports_of (captures_of streams)) → AllRise waiting → slice_get waiting k ≡ Some w → w.records ≡ r ∷ rest → ComesFirst r.stamp k waiting
    → IsWithin (limit streams) r.stamp w.port → IsSettling streams given waiting
    → IsSettling streams (given ++ record { port = w.port; frame = r } ∷ []) (without waiting k w rest)

-- a stamp at the limit or past it
abbrev pub IsPast : Option (ℕ × ℕ) → ℕ → Type 0
IsPast None n = ⊥
IsPast (Some p) n = p.0 ≤ n

-- if the first of what waits lies there, all that waits comes at the frontier or later
abbrev pub RestComesAtTheFrontier : Type 0
RestComesAtTheFrontier = (streams : List Stream) (waiting : List Capture) (k n h : ℕ) → AllRise waiting → ComesFirst n k waiting → IsPast (limit streams) n
    → frontier streams ≡ Some h → AllByRecursion (λ a. h ≤ a.frame.stamp) (merged waiting)

-- ---- what the switch is, beside it

-- these arrivals were given to a switch of the table; nothing else was done to it but advancing and handing out
pub record IsGiven (t : Content) (given : List Arrival) (s : State) : Type 0 where
  pub table : s.run.table ≡ t
  pub rows : s.run.rows ≡ rows_of t given
  pub still_open : s.run.finished ≡ false
  pub frames : HasBytesOf given s

-- these arrivals were given to a switch, which has come to an instant
pub record IsAt (t : Content) (given : List Arrival) (h : ℕ) (s : State) : Type 0 where
  pub is_given : IsGiven t given s
  pub latest : s.run.latest ≡ h

-- a port at a place has handed out more since the start, and this is the text with what was there before
pub record Draws (given : List Arrival) (port place : ℕ) (start now : State) (before text : List ℕ) : Type 0 where
  pub drained : IsDrained port start now
  pub count : slice_index now.run.handed place + length (left_at now.run (Some place)) ≡ slice_index start.run.handed place + length (left_at start.run (Some place))
  pub rest : before ++ flat_map record_text (map (written given) (left_at start.run (Some place))) ≡ text ++ flat_map record_text (map (written given) (left_at now.run (Some place)))

-- frames of ports were handed out, and nothing else was done
pub record HandsOut (old new : State) : Type 0 where
  pub table : new.run.table ≡ old.run.table
  pub rows : new.run.rows ≡ old.run.rows
  pub latest : new.run.latest ≡ old.run.latest
  pub finished : new.run.finished ≡ old.run.finished
  pub accepted : new.accepted ≡ old.accepted
  pub keeps : new.keeps ≡ old.keeps
  pub handed : length new.run.handed ≡ length old.run.handed
  pub frames : (arrivals : List Arrival) → length arrivals ≡ length old.run.rows → HasBytesOf arrivals old → HasBytesOf arrivals new

-- if what waits comes at the frontier or later, and the switch is at the frontier, what it sent is what has left so far
abbrev pub SwitchShowsWhatLeft : Type 0
SwitchShowsWhatLeft = (t : Content) (streams : List Stream) (given : List Arrival) (waiting : List Capture) (h : ℕ) (s : State) (p : PortRow)
    → IsSettling streams given waiting → AllByRecursion (λ a. h ≤ a.frame.stamp) (merged waiting) → frontier streams ≡ Some h → IsAt t given h s
    → output_so_far t streams p ≡ map (written given) (sent_in s.run (Some p))
