-- What is true of the records of captures, and of every arrival of their merge.
use Rattle.std.proofs.Common.{◌≡◌, ℕ, ◌<◌, ◌≤◌, ◌==◌, false, List, [], ◌∷◌, ◌++◌, map, drop, cond, refl, sym, inl, inr, subst}
use Rattle.std.specs.List.{AllByRecursion}
use Rattle.std.proofs.lemmas.Bool.{cases_Bool, eq-eqb}
use Rattle.std.specs.Prelude.{is_none, find}
use Rattle.afdx_table.specs.declared.rows.PortRow.{PortRow}
use Rattle.afdx_units.specs.Time.{last_second}
use Rattle.afdx_pcap.specs.declared.format.Format.{Format}
use Rattle.afdx_pcap.specs.Record.{Record}
use Rattle.afdx_pcap.specs.Capture.{Splits, IsCapture, after}
use Rattle.afdx_pcap.proofs.Early.{capture_early}
use Rattle.afdx_core.specs.Merge.{Arrival, Capture, Rises, records_of, arrivals_of}
use Rattle.afdx_core.specs.Inner.Merge.{AreInOrder, ByStampIsOrdered}
use Rattle.afdx_session.specs.Texts.{Text}
use Rattle.afdx_session.specs.Reading.{AreCaptures, AreMerged}
use Rattle.afdx_session.specs.Inner.Early.{RecordsAreEarly}
use Rattle.afdx_session.proofs.Numbered.{all_append, all_cond}
use Rattle.afdx_session.proofs.Joining.{by_stamp_every, records_weaken}

-- ---- the records of a capture

pub splits_rise : (f : Format) (last : ℕ) (bytes : List ℕ) (rs : List Record) (rest : List ℕ) → Splits f last bytes rs rest → AllByRecursion (λ (r : Record). last ≤ r.stamp) rs × Rises rs
splits_rise f last bytes [] rest splits = (tt, tt)
splits_rise f last bytes (r ∷ rs) rest splits =
    let more = splits_rise f r.stamp (after r bytes) rs rest splits.1 in
    let first : last ≤ r.stamp = splits.0.in_order in
    ((first, records_weaken r.stamp last rs first more.0), (more.0, more.1))

pub capture_rises : (bytes : List ℕ) (rs : List Record) → IsCapture bytes rs → Rises rs
capture_rises bytes rs capture = (splits_rise capture.format 0 (drop 24 bytes) rs [] capture.records).1

pub records_are_early : RecordsAreEarly
records_are_early [] [] port are = tt
records_are_early [] (c ∷ read) port are = absurd are
records_are_early (text ∷ texts) [] port are = absurd are
records_are_early (text ∷ texts) (c ∷ read) port are =
    all_append (λ (r : Record). r.stamp < last_second) (cond (c.port == port) c.records []) (records_of read port)
    (all_cond (λ (r : Record). r.stamp < last_second) (c.port == port) c.records [] (capture_early text.1 c.records are.1) tt)
    (records_are_early texts read port are.2)

-- ---- several captures

pub merged_in_order : ByStampIsOrdered → (texts : List Text) (arrivals : List Arrival) → AreMerged texts arrivals → AreInOrder arrivals
merged_in_order ordered texts arrivals are = subst AreInOrder (sym are.all) (ordered (arrivals_of are.read)).in_order

-- ---- what holds of every arrival of a merge

pub port_every : (P : Arrival → Type 0) (port : ℕ) (rs : List Record) (others : List Arrival) → AllByRecursion (λ (r : Record). P (record { port = port; frame = r })) rs → AllByRecursion P others
    → AllByRecursion P (map (λ (r : Record). record { port = port; frame = r }) rs ++ others)
port_every P port [] others all more = more
port_every P port (r ∷ rs) others all more = (all.0, port_every P port rs others all.1 more)

-- ---- stamps that are not in the last second

abbrev Early : Arrival → Type 0
Early a = a.frame.stamp < last_second

captures_early : (texts : List Text) (read : List Capture) → AreCaptures texts read → AllByRecursion Early (arrivals_of read)
captures_early [] [] are = tt
captures_early [] (c ∷ read) are = absurd are
captures_early (text ∷ texts) [] are = absurd are
captures_early (text ∷ texts) (c ∷ read) are = port_every Early c.port c.records (arrivals_of read) (capture_early text.1 c.records are.1) (captures_early texts read are.2)

pub merged_early : ByStampIsOrdered → (texts : List Text) (arrivals : List Arrival) → AreMerged texts arrivals → AllByRecursion Early arrivals
merged_early ordered texts arrivals are = subst (AllByRecursion Early) (sym are.all) (by_stamp_every ordered Early (arrivals_of are.read) (captures_early texts are.read are.are_read))

-- ---- ports that are the table's

abbrev pub Known : List PortRow → ℕ → Type 0
Known ports n = is_none (find (λ (p : PortRow). p.id == n) ports) ≡ false

known_here : (p : PortRow) (ports : List PortRow) → Known (p ∷ ports) p.id
known_here p ports = rw (eq-eqb p.id p.id refl) refl

known_later : (p : PortRow) (ports : List PortRow) (n : ℕ) → Known ports n → Known (p ∷ ports) n
known_later p ports n known =
    elim (cases_Bool (p.id == n)) [
      | inl here ↦ rw here refl
      | inr other ↦ rw other known
    ]

all_later : (p : PortRow) (ports : List PortRow) (ns : List ℕ) → AllByRecursion (Known ports) ns → AllByRecursion (Known (p ∷ ports)) ns
all_later p ports [] all = tt
all_later p ports (n ∷ ns) all = (known_later p ports n all.0, all_later p ports ns all.1)

pub all_known : (ports : List PortRow) → AllByRecursion (Known ports) (map (λ (p : PortRow). p.id) ports)
all_known [] = tt
all_known (p ∷ ports) = (known_here p ports, all_later p ports (map (λ (q : PortRow). q.id) ports) (all_known ports))
