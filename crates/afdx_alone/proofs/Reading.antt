-- A capture that a reader gives, one piece after the other.
use Rattle.std.proofs.Common.{◌≡◌, ℕ, ◌-◌, Bool, true, false, List, ◌++◌, length, drop, Option, Some, None, refl, sym, ap, subst, ◌∙◌, arith, length-append}
use Rattle.std.specs.Io.KnownBytes.{Consumes, IsAtEnd}
use Rattle.std.proofs.KnownBytes.{Consumes-trans, Consumes-whole}
use Rattle.std.proofs.lemmas.List.{append-nil, drop_at}
use Rattle.afdx_pcap.specs.declared.format.Format.{Format}
use Rattle.afdx_pcap.specs.declared.fault.PcapFault.{PcapFault}
use Rattle.afdx_pcap.specs.Record.{Record}
use Rattle.afdx_pcap.specs.Fault.{IsFault, IsEarlyFault}
use Rattle.afdx_pcap.specs.Reading.{AreReadUpTo}
use Rattle.afdx_alone.specs.declared.link.Alone.{Alone}
use Rattle.afdx_alone.specs.declared.fault.AloneFault.{AloneFault}
use Rattle.afdx_alone.specs.declared.fault.AloneFault.TheVariants.{Memory, Capture}
use Rattle.afdx_alone.specs.declared.fault.ReadFault.TheVariants.{Alone as NoAnswer}
use Rattle.afdx_alone.specs.declared.policing.Policing.{Policing}
use Rattle.afdx_alone.specs.Answer.{IsAnswerTo}
use Rattle.afdx_alone.specs.Faults.{IsReadFault}
use Rattle.afdx_alone.specs.Inner.Polices.{IsReadUpTo, Polices, Leaves, IsPieceFault}
use Rattle.afdx_alone.proofs.Stopping.{answered}

-- what was read stays where more comes
abbrev pub RestsStay : Type 0
RestsStay = (f : Format) (bytes more rest : List ℕ) (rs : List Record) → AreReadUpTo f bytes rs rest → AreReadUpTo f (bytes ++ more) rs (rest ++ more)

abbrev pub EarlyFaultsStay : Type 0
EarlyFaultsStay = (bytes more : List ℕ) (fault : PcapFault) → IsEarlyFault bytes fault → IsEarlyFault (bytes ++ more) fault

-- a piece more
pub polices_more : {Z : Type 0} → RestsStay → (link : Alone) (all rest more : List ℕ) (p : Policing Z) → Polices link all rest p → Polices link (all ++ more) (rest ++ more) p
polices_more stay link all rest more p polices = record {
  seen = polices.seen;
  read = by p.format polices.read;
  last = polices.last;
  count = polices.count;
  progress = polices.progress;
  answer_is = polices.answer_is;
} where
  by : (o : Option Format) → IsReadUpTo o all polices.seen rest → IsReadUpTo o (all ++ more) polices.seen (rest ++ more)
  by None unread = (unread.0, ap (λ (t : List ℕ). t ++ more) unread.1)
  by (Some f) read = stay f all more rest polices.seen read

-- a piece more, behind the bytes that were not taken
pub next_piece : {Z : Type 0} → RestsStay → (link : Alone) (p : Policing Z) (a b c : Option (List ℕ)) (old piece new : List ℕ) → (all : List ℕ) × Consumes a b all × Polices link all old p
    → new ≡ old ++ piece → Consumes b c piece → (all : List ℕ) × Consumes a c all × Polices link all new p
next_piece stay link p a b c old piece new (all, given, polices) is more =
    (all ++ piece, Consumes-trans a b c all piece given more, subst (λ (bytes : List ℕ). Polices link (all ++ piece) bytes p) (sym is) (polices_more stay link all old piece p polices))

-- the last ones of some bytes
pub last_bytes : (bytes rest : List ℕ) → (before : List ℕ) × (before ++ rest ≡ bytes) → drop (length bytes - length rest) bytes ≡ rest
last_bytes bytes rest (before, is) =
    let long = length-append before rest in
    let all = ap length is in
    ap (drop (length bytes - length rest)) (sym is) ∙ drop_at before rest (length bytes - length rest) (omega (arith, long, all))

-- why there is no answer to what a reader gave
pub read_fault : EarlyFaultsStay → (a b : Option (List ℕ)) (all : List ℕ) (ended : Bool) (fault : AloneFault) → Consumes a b all → (ended ≡ true → IsAtEnd b) → IsPieceFault all ended fault
    → IsReadFault a (NoAnswer fault)
read_fault early a b all ended Memory given end wrong = tt
read_fault early None b all ended (Capture fault) given end wrong = (all, tt, wrong.0)
read_fault early (Some x) None all ended (Capture fault) given end wrong = absurd given
read_fault early (Some x) (Some y) all true (Capture fault) given end wrong =
    (x, refl, subst (λ (bytes : List ℕ). IsFault bytes fault) (sym (given ∙ ap (λ (t : List ℕ). all ++ t) (end refl) ∙ append-nil all)) wrong.0)
read_fault early (Some x) (Some y) all false (Capture fault) given end wrong =
    (x, refl, subst (λ (bytes : List ℕ). IsFault bytes fault) (sym given) (early all y fault (wrong.0, wrong.1 refl)).0)

-- the answer to all that it gave
pub read_answer : {Z : Type 0} (a b : Option (List ℕ)) (link : Alone) (all rest : List ℕ) (p : Policing Z) → Consumes a b all → IsAtEnd b → Leaves true p.format rest → Polices link all rest p
    → IsAnswerTo a link p.answer.items
read_answer a b link all rest p given end left polices = (all, Consumes-whole a b all (λ (bytes : List ℕ). all ≡ bytes) given end refl, answered link all rest p left polices)
