-- A capture that comes in pieces.
use Rattle.std.specs.Prelude.{◌≡◌, ◌≢◌, ℕ, ◌+◌, List, [], ◌∷◌, ◌++◌, length, drop, Option, Some, None, Result, Ok, Err, Bool, true, false}
use Rattle.afdx_pcap.specs.declared.fault.PcapFault.{PcapFault}
use Rattle.afdx_pcap.specs.declared.fault.PcapFault.TheVariants.{Memory}
use Rattle.afdx_pcap.specs.declared.format.Format.{Format}
use Rattle.afdx_pcap.specs.Record.{Record}
use Rattle.afdx_pcap.specs.Capture.{header_of, Splits, Holds, IsCapture}
use Rattle.afdx_pcap.specs.Fault.{IsFault, IsEarlyFault}

-- the bytes are a header of this format, these whole records, and a rest that was not read yet
abbrev pub AreReadUpTo : Format → List ℕ → List Record → List ℕ → Type 0
AreReadUpTo f bytes rs rest = (header_of bytes ≡ Ok f) × Splits f 0 (drop 24 bytes) rs rest

-- a reader, as contracts see it: the bytes that it was fed or lent, how many records it gave, whether it is
-- closed, the fault that it answered, and whether the bytes are lent, so that no record is copied
pub record Reading : Type 0 where
  pub bytes : List ℕ
  pub given : ℕ
  pub closed : Bool
  pub fault : Option PcapFault
  pub lent : Bool

-- a reader of a whole capture that was lent, after so many records
abbrev pub whole_reading : List ℕ → ℕ → Reading
whole_reading bytes n = record { bytes = bytes; given = n; closed = true; fault = None; lent = true }

-- bytes whose records are taken one by one: the bytes, and how many were taken
pub record Taking : Type 0 where
  pub bytes : List ℕ
  pub given : ℕ

-- a reader's bytes, as records are taken from them
abbrev pub as_taking : Reading → Taking
as_taking r = record { bytes = r.bytes; given = r.given }

-- the record after the first n whole ones
abbrev pub IsNext : List ℕ → ℕ → Record → Type 0
IsNext bytes n r =
    (before : List Record) × (rest : List ℕ) × Holds bytes (before ++ r ∷ []) rest × (length before ≡ n)

-- there are more than n whole records
abbrev pub HasNext : List ℕ → ℕ → Type 0
HasNext bytes n = (r : Record) × IsNext bytes n r

-- the bytes begin with a header and these whole records, if there are any
abbrev pub AreFirst : List ℕ → List Record → Type 0
AreFirst bytes [] = Unit {0}
AreFirst bytes (r ∷ rs) = (rest : List ℕ) × Holds bytes (r ∷ rs) rest

-- the records that were taken so far are these
pub record HasTaken (t : Taking) (rs : List Record) : Type 0 where
  pub first : AreFirst t.bytes rs
  pub count : length rs ≡ t.given

-- one more record is taken
abbrev pub taking_on : Taking → Taking
taking_on t = record t { given = t.given + 1 }

-- there are no more than n whole records
abbrev pub NoNext : List ℕ → ℕ → Type 0
NoNext bytes n = (r : Record) → IsNext bytes n r → ⊥

-- nothing is wrong after n records: they are the capture, if the input has ended; while it is open,
-- whatever is wrong may still be mended
abbrev pub IsSound : List ℕ → ℕ → Bool → Type 0
IsSound bytes n true = (rs : List Record) × IsCapture bytes rs × (length rs ≡ n)
IsSound bytes n false = (fault : PcapFault) → IsEarlyFault bytes fault → ⊥

-- what is wrong: the fault, if the input has ended; while it is open, only an early one
abbrev pub IsWrong : List ℕ → Bool → PcapFault → Type 0
IsWrong bytes true fault = IsFault bytes fault
IsWrong bytes false fault = IsEarlyFault bytes fault

-- what is answered after n records, over these bytes, by a reader that is closed or open
abbrev pub Answers : List ℕ → ℕ → Bool → Result (Option Record) PcapFault → Type 0
Answers bytes n closed (Ok (Some r)) = IsNext bytes n r
Answers bytes n closed (Ok None) = NoNext bytes n × IsSound bytes n closed
Answers bytes n closed (Err fault) = fault ≢ Memory → NoNext bytes n × IsWrong bytes closed fault

-- the answer if there is no next record: the fault, or none
abbrev pub answer_without : Option PcapFault → Result (Option Record) PcapFault
answer_without None = Ok None
answer_without (Some fault) = Err fault
