-- A run whose captures are read in pieces, between two reads.
use Rattle.std.specs.Prelude.{ℕ, ◌≡◌, ◌==◌, Bool, true, false, List, length, map, position, slice_get, Option, Some, None}
use Rattle.std.specs.Io.KnownBytes.{Consumes, IsAtEnd}
use Rattle.afdx_table.specs.Content.{Content}
use Rattle.afdx_table.specs.WellFormed.{Rises}
use Rattle.afdx_session.specs.declared.plan.RunFault.{RunFault}
use Rattle.afdx_session.specs.declared.plan.RunFault.TheVariants as run
use Rattle.afdx_session.specs.declared.sources.SourceFault.{SourceFault}
use Rattle.afdx_session.specs.declared.sources.SourceFault.TheVariants as fault
use Rattle.afdx_session.specs.Session.{Intake, Seen, refusal}
use Rattle.afdx_session.specs.Into.{HaveTaken}

-- ---- faults

-- a fault of memory or of the bytes
abbrev pub IsOfBytes : RunFault → Type 0
IsOfBytes run.Memory = Unit {0}
IsOfBytes (run.Capture port why) = Unit {0}
IsOfBytes run.WrongPorts = ⊥
IsOfBytes run.Closed = ⊥
IsOfBytes run.Failed = ⊥

-- the fault of a run over captures, as that of a run over readers
abbrev pub source_fault : RunFault → SourceFault
source_fault (run.Capture port why) = fault.Capture port why
source_fault _ = fault.Memory

-- ---- what was read

-- a reader gave the bytes that came of a capture; it is at its end if the capture has ended
pub record IsReadUpTo {R : Type 0} (remaining : R → Option (List ℕ)) (i : Intake) (first now : R) : Type 0 where
  pub bytes : Consumes (remaining first) (remaining now) i.bytes
  pub ended : i.closed ≡ true → IsAtEnd (remaining now)

-- each reader gave the bytes that came of the capture of the port at its place
pub record AreReadUpTo {R : Type 0} (remaining : R → Option (List ℕ)) (v : Seen) (first now : List R) : Type 0 where
  pub many : length now ≡ length first
  pub each : (place : ℕ) (i : Intake) (r s : R) → slice_get v.intakes place ≡ Some i → slice_get first place ≡ Some r → slice_get now place ≡ Some s → IsReadUpTo remaining i r s

-- all readers are at their ends
abbrev pub AreAtEnd : {R : Type 0} → (R → Option (List ℕ)) → List R → Type 0
AreAtEnd {R} remaining readers = (place : ℕ) (r : R) → slice_get readers place ≡ Some r → IsAtEnd (remaining r)

-- ---- how a session goes on

-- the capture of this port, whose number is at this place, may go on
pub record IsNextAt (v : Seen) (numbers : List ℕ) (place port : ℕ) : Type 0 where
  pub place_is : position (λ n. n == port) numbers ≡ Some place
  pub may : refusal v port ≡ None

-- a session is of this table, and none of its calls has failed
pub record IsOfTable (t : Content) (v : Seen) : Type 0 where
  pub table : v.table ≡ t
  pub rises : Rises t.ports
  pub ports : map (λ (i : Intake). i.port) v.intakes ≡ map (λ p. p.id) t.ports
  pub none_failed : v.failed ≡ false

-- a port has what it had, but for what was taken
pub record HasSameBytes (old new : Intake) : Type 0 where
  pub port : new.port ≡ old.port
  pub bytes : new.bytes ≡ old.bytes
  pub closed : new.closed ≡ old.closed

-- each port has what it had, but for what was taken
abbrev pub HaveSameBytes : List Intake → List Intake → Type 0
HaveSameBytes old new = (length new ≡ length old) × ((place : ℕ) (i j : Intake) → slice_get old place ≡ Some i → slice_get new place ≡ Some j → HasSameBytes i j)

-- a part of what has gone out was taken, and is in the files
pub record TakesParts {F : Type 0} (contents : F → Option (List ℕ)) (v : Seen) (files : List F) (later : Seen) (now : List F) : Type 0 where
  pub of : IsOfTable v.table later
  pub same : HaveSameBytes v.intakes later.intakes
  pub many : length now ≡ length files
  pub taken : (start : List F) → HaveTaken contents v start files → HaveTaken contents later start now
  pub accepted : later.accepted ≡ v.accepted

-- a run went on: this is what the readers gave, and what was taken is in the files
pub record GoesOnReading {R F : Type 0} (remaining : R → Option (List ℕ)) (contents : F → Option (List ℕ)) (v : Seen) (readers : List R) (files : List F) (later : Seen) (now : List R)
    (written : List F) : Type 0 where
  pub of : IsOfTable v.table later
  pub many : length now ≡ length readers
  pub long : length written ≡ length files
  pub read : (first : List R) → AreReadUpTo remaining v first readers → AreReadUpTo remaining later first now
  pub taken : (start : List F) → HaveTaken contents v start files → HaveTaken contents later start written
  pub accepted : later.accepted ≡ v.accepted

-- a run went on by one more read; if none is to be made any more, all readers are at their ends
pub record ReadsOn {R F : Type 0} (remaining : R → Option (List ℕ)) (contents : F → Option (List ℕ)) (v : Seen) (readers : List R) (files : List F) (more : Bool) (later : Seen) (now : List R)
    (written : List F) : Type 0 where
  pub on : GoesOnReading remaining contents v readers files later now written
  pub all : more ≡ false → (first : List R) → AreReadUpTo remaining v first readers → AreAtEnd remaining now
