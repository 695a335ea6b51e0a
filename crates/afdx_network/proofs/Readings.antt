-- What was read at the ports of a switch, and what came in there of it.
use Rattle.std.proofs.Common.{◌≡◌, ℕ, suc, ◌==◌, Bool, true, false, cond, List, [], ◌∷◌, ◌++◌, map, refl, ap, sym, ◌∙◌, arith}
use Rattle.std.specs.Prelude.{All, Contains}
use Rattle.std.specs.List.{AllByRecursion}
use Rattle.std.proofs.lemmas.List.Elements.{All-nil, All-append, All-map, All-weaker, All-contains, All-from_recursion, recursion_from_All}
use Rattle.std.proofs.lemmas.Bool.{eq-eqb, eqb-true}
use Rattle.afdx_pcap.specs.Record.{Record}
use Rattle.afdx_pcap.specs.Capture.{IsCapture}
use Rattle.afdx_core.specs.Merge.{Arrival, Capture, records_of, arrivals_of, merged}
use Rattle.afdx_core.specs.Inner.Merge.{ByStampIsOrdered}
use Rattle.afdx_session.specs.Texts.{Text}
use Rattle.afdx_session.specs.Reading.{AreCaptures}

all_parts : {X : Type 0} (P : X → Type 0) (xs ys : List X) → AllByRecursion P (xs ++ ys) → AllByRecursion P xs × AllByRecursion P ys
all_parts P [] ys all = (tt, all)
all_parts P (x ∷ xs) ys all = let rest = all_parts P xs ys all.1 in ((all.0, rest.0), rest.1)

pub records_all : (P : Record → Type 0) (port : ℕ) (texts : List Text) (read : List Capture) → AreCaptures texts read
    → ((text : Text) (records : List Record) → Contains texts text → text.0 ≡ port → IsCapture text.1 records → All P records) → All P (records_of read port)
records_all P port [] [] are each = All-nil P
records_all P port [] (c ∷ read) are each = absurd are
records_all P port (text ∷ texts) [] are each = absurd are
records_all P port (text ∷ texts) (c ∷ read) are each =
    All-append P (cond (c.port == port) c.records []) (records_of read port) (by (c.port == port) refl)
    (records_all P port texts read are.2 (λ t records among. let within = among.1 in each t records (suc among.0, omega (arith, within), among.2))) where
      by : (b : Bool) → (c.port == port) ≡ b → All P (cond b c.records [])
      by true is = each text c.records (0, omega arith, refl) (sym are.0 ∙ eqb-true c.port port is) are.1
      by false other = All-nil P

arrivals_all : (P : Record → Type 0) (read : List Capture) → ((port : ℕ) → AllByRecursion P (records_of read port)) → All (λ (a : Arrival). P a.frame) (arrivals_of read)
arrivals_all P [] each = All-nil (λ (a : Arrival). P a.frame)
arrivals_all P (c ∷ read) each =
    let first = (all_parts P (cond (c.port == c.port) c.records []) (records_of read c.port) (each c.port)).0 in
    let records = from_test c.records (c.port == c.port) (eq-eqb c.port c.port refl) first in
    All-append (λ (a : Arrival). P a.frame) (map (arrival_at c.port) c.records) (arrivals_of read)
    (All-map (λ (a : Arrival). P a.frame) (arrival_at c.port) c.records (All-from_recursion P c.records records))
    (arrivals_all P read (λ port. (all_parts P (cond (c.port == port) c.records []) (records_of read port) (each port)).1)) where
      arrival_at : ℕ → Record → Arrival
      arrival_at port r = record { port = port; frame = r }

      from_test : (rs : List Record) (b : Bool) → b ≡ true → AllByRecursion P (cond b rs []) → AllByRecursion P rs
      from_test rs true is all = all
      from_test rs false is all = absurd cc

-- and so of all that came in, by stamp
pub merged_all : ByStampIsOrdered → (P : Record → Type 0) (read : List Capture) → ((port : ℕ) → AllByRecursion P (records_of read port)) → AllByRecursion (λ (a : Arrival). P a.frame) (merged read)
merged_all ordered P read each =
    let Q : Arrival → Type 0 = λ a. P a.frame in
    let all : All Q (arrivals_of read) = arrivals_all P read each in
    recursion_from_All Q (merged read)
    (All-weaker (Contains (arrivals_of read)) Q (λ a among. All-contains Q (arrivals_of read) a all among) (merged read) (ordered (arrivals_of read)).among)

-- the same texts have one reading
pub one_reading : ((bytes : List ℕ) (rs qs : List Record) → IsCapture bytes rs → IsCapture bytes qs → rs ≡ qs) → (texts : List Text) (read other : List Capture)
    → AreCaptures texts read → AreCaptures texts other → read ≡ other
one_reading unique [] [] [] are too = refl
one_reading unique [] [] (d ∷ other) are too = absurd too
one_reading unique [] (c ∷ read) other are too = absurd are
one_reading unique (text ∷ texts) [] other are too = absurd are
one_reading unique (text ∷ texts) (c ∷ read) [] are too = absurd too
one_reading unique (text ∷ texts) (c ∷ read) (d ∷ other) are too =
    let port : c.port ≡ d.port = are.0 ∙ sym too.0 in
    let records : c.records ≡ d.records = unique text.1 c.records d.records are.1 too.1 in
    let first : c ≡ d = ap (λ (n : ℕ). capture_by n c.records) port ∙ ap (capture_by d.port) records in
    ap (λ (e : Capture). e ∷ read) first ∙ ap (λ (rest : List Capture). d ∷ rest) (one_reading unique texts read other are.2 too.2) where
      capture_by : ℕ → List Record → Capture
      capture_by port records = record { port = port; records = records }
