-- A session as contracts see it: what it was fed, and what its calls do to that (profile).
use Rattle.std.specs.Prelude.{ℕ, ◌≡◌, ◌≤◌, ◌⊎◌, ◌==◌, Bool, true, false, if◌then◌else◌, List, [], ◌∷◌, ◌++◌, map, find, Option, Some, None, Contains}
use Rattle.afdx_table.specs.declared.rows.PortRow.{PortRow}
use Rattle.afdx_table.specs.Content.{Content}
use Rattle.afdx_pcap.specs.declared.fault.PcapFault.{PcapFault}
use Rattle.afdx_pcap.specs.Fault.{IsEarlyFault}
use Rattle.afdx_session.specs.declared.plan.RunFault.{RunFault}
use Rattle.afdx_session.specs.declared.plan.RunFault.TheVariants as run
use Rattle.afdx_session.specs.Streams.{Stream, AreWhole, last_of, frontier, text_so_far}

-- what a session took of a port, and what was taken of it there
pub record Intake : Type 0 where
  pub port : ℕ
  -- the bytes of the port's capture that came by calls that answered Ok
  pub bytes : List ℕ
  pub closed : Bool
  -- how many bytes of the port's output were taken
  pub taken : ℕ

-- what contracts see of a session
pub record Seen : Type 0 where
  pub table : Content
  -- the table was checked, and accepted
  pub accepted : Bool
  -- by rising port
  pub intakes : List Intake
  -- a feed or a close has answered Ok
  pub begun : Bool
  -- a call has answered out of memory or a capture's fault
  pub failed : Bool

-- nothing came at the port, and nothing was taken there
abbrev pub fresh_intake : PortRow → Intake
fresh_intake p = record { port = p.id; bytes = []; closed = false; taken = 0 }

-- a session over a table, which was accepted or not checked, before its first call
abbrev pub fresh_session : Bool → Content → Seen
fresh_session accepted t = record { table = t; accepted = accepted; intakes = map fresh_intake t.ports; begun = false; failed = false }

-- ---- what has gone out

-- the whole records that are there of a port's capture
pub record IsStream (i : Intake) (s : Stream) : Type 0 where
  pub port : s.port ≡ i.port
  pub records : AreWhole i.bytes s.records
  pub closed : s.closed ≡ i.closed

-- the whole records that are there of each port's capture
abbrev pub AreStreams : List Intake → List Stream → Type 0
AreStreams [] [] = Unit {0}
AreStreams [] (s ∷ streams) = ⊥
AreStreams (i ∷ intakes) [] = ⊥
AreStreams (i ∷ intakes) (s ∷ streams) = IsStream i s × AreStreams intakes streams

-- the bytes that have gone out for a port: nothing before the first call that answered Ok
pub record HasGoneOut (v : Seen) (p : PortRow) (text : List ℕ) : Type 0 where
  pub streams : List Stream
  pub are : AreStreams v.intakes streams
  pub text_is : text ≡ (if v.begun then text_so_far v.table streams p else [])

-- the capture of a port has not ended, its last record is at the frontier, and of the ports of which both hold its number is the lowest:
-- nothing more goes out before it goes on
pub record IsHeldBackBy (v : Seen) (port : ℕ) : Type 0 where
  pub streams : List Stream
  pub are : AreStreams v.intakes streams
  pub stream : Stream
  pub among : Contains streams stream
  pub port_is : stream.port ≡ port
  pub still_open : stream.closed ≡ false
  pub at : frontier streams ≡ Some (last_of stream)
  pub lowest : (other : Stream) → Contains streams other → other.closed ≡ false → last_of other ≡ last_of stream → port ≤ other.port

-- ---- what calls do

-- the intake of a port
abbrev pub intake_at : Seen → ℕ → Option Intake
intake_at v port = find (λ i. i.port == port) v.intakes

-- the bytes of an intake; none if the table has no such port
abbrev pub intake_bytes : Option Intake → List ℕ
intake_bytes None = []
intake_bytes (Some i) = i.bytes

-- how many bytes were taken at an intake
abbrev pub taken_in : Option Intake → ℕ
taken_in None = 0
taken_in (Some i) = i.taken

-- the bytes of a port's capture so far
abbrev pub fed_bytes : Seen → ℕ → List ℕ
fed_bytes v port = intake_bytes (intake_at v port)

-- how many bytes of a port's output were taken
abbrev pub taken_of : Seen → ℕ → ℕ
taken_of v port = taken_in (intake_at v port)

-- the first refusal other than one of memory or of the bytes
abbrev pub refusal_at : Option Intake → Option RunFault
refusal_at None = Some run.WrongPorts
refusal_at (Some i) = if i.closed then Some run.Closed else None

-- the first refusal of a call at a port, other than one of memory or of the bytes
abbrev pub refusal : Seen → ℕ → Option RunFault
refusal v port = if v.failed then Some run.Failed else refusal_at (intake_at v port)

-- the intakes, with that of a port changed
abbrev pub changed : ℕ → (Intake → Intake) → List Intake → List Intake
changed port f [] = []
changed port f (i ∷ intakes) = if i.port == port then f i ∷ intakes else i ∷ changed port f intakes

-- an intake after a piece of the port's capture came
abbrev pub fed : List ℕ → Intake → Intake
fed piece i = record { port = i.port; bytes = i.bytes ++ piece; closed = i.closed; taken = i.taken }

-- an intake after the port's capture ended
abbrev pub closed_intake : Intake → Intake
closed_intake i = record { port = i.port; bytes = i.bytes; closed = true; taken = i.taken }

-- an intake after so many bytes in all were taken
abbrev pub took : ℕ → Intake → Intake
took n i = record { port = i.port; bytes = i.bytes; closed = i.closed; taken = n }

-- the session after a piece of a port's capture came
abbrev pub after_feed : Seen → ℕ → List ℕ → Seen
after_feed v port piece = record { table = v.table; accepted = v.accepted; intakes = changed port (fed piece) v.intakes; begun = true; failed = v.failed }

-- the session after a port's capture ended
abbrev pub after_close : Seen → ℕ → Seen
after_close v port = record { table = v.table; accepted = v.accepted; intakes = changed port closed_intake v.intakes; begun = true; failed = v.failed }

-- the session after so many bytes of a port's output, in all, were taken
abbrev pub after_take : Seen → ℕ → ℕ → Seen
after_take v port n = record { table = v.table; accepted = v.accepted; intakes = changed port (took n) v.intakes; begun = v.begun; failed = v.failed }

-- the session after a call failed for memory or for a capture's fault
abbrev pub after_failure : Seen → Seen
after_failure v = record { table = v.table; accepted = v.accepted; intakes = v.intakes; begun = v.begun; failed = true }

-- these bytes have no early fault
abbrev pub IsSoundSoFar : List ℕ → Type 0
IsSoundSoFar bytes = (fault : PcapFault) → IsEarlyFault bytes fault → ⊥

-- a call at a port is refused: for the session's state, and nothing changes; or for memory or a fault of the bytes, and nothing
-- changes but that a call has failed
abbrev pub IsRefused : Seen → Seen → ℕ → RunFault → Type 0 → Type 0
IsRefused old new port fault Why = ((refusal old port ≡ Some fault) × (new ≡ old)) ⊎ ((refusal old port ≡ None) × (new ≡ after_failure old) × Why)

-- ---- how intakes go on

-- more bytes of a port's capture may have come, and it may have been closed; once it is closed, no more come and it stays so
pub record IsFedOn (i later : Intake) : Type 0 where
  pub port : later.port ≡ i.port
  pub more : List ℕ
  pub bytes : later.bytes ≡ i.bytes ++ more
  pub ended : i.closed ≡ true → (more ≡ []) × (later.closed ≡ true)

-- each port's capture went on so
abbrev pub AreFedOn : List Intake → List Intake → Type 0
AreFedOn [] [] = Unit {0}
AreFedOn [] (n ∷ later) = ⊥
AreFedOn (i ∷ intakes) [] = ⊥
AreFedOn (i ∷ intakes) (n ∷ later) = IsFedOn i n × AreFedOn intakes later

-- however the bytes come in pieces, what has gone out so far is a prefix of what has gone out later
abbrev pub OutputGrowsWithBytes : Type 0
OutputGrowsWithBytes = (t : Content) (intakes later : List Intake) (streams others : List Stream) (p : PortRow) → AreFedOn intakes later → AreStreams intakes streams → AreStreams later others
    → (rest : List ℕ) × (text_so_far t others p ≡ text_so_far t streams p ++ rest)

-- of the same bytes there is only one list of whole records
abbrev pub WholeRecordsAreUnique : Type 0
WholeRecordsAreUnique = (intakes : List Intake) (streams others : List Stream) → AreStreams intakes streams → AreStreams intakes others → streams ≡ others
