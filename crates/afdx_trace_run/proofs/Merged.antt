-- Captures that were read side by side, as texts of the table's ports, and the program's merge of them.
use Rattle.std.proofs.Common.{◌≡◌, ◌<◌, ◌≤◌, ◌==◌, ℕ, zero, suc, Bool, true, false, cond, List, [], ◌∷◌, ◌++◌, length, map, filter, get_or, slice_get, Option, Some}
use Rattle.std.proofs.Common.{refl, sym, ap, ◌∙◌, arith, inl, inr, subst}
use Rattle.std.specs.Prelude.{◌⊎◌}
use Rattle.std.specs.List.{AllByRecursion}
use Rattle.std.specs.Option.{option_map}
use Rattle.std.proofs.lemmas.Bool.{eq-eqb, ne_eqb, eqb-true}
use Rattle.std.proofs.lemmas.List.{length-map, append-nil}
use Rattle.std.proofs.lemmas.Option.{same_Some, slice_get-map}
use Rattle.afdx_pcap.specs.Record.{Record}
use Rattle.afdx_pcap.specs.Capture.{IsCapture}
use Rattle.afdx_pcap.proofs.Early.{capture_early}
use Rattle.afdx_table.specs.declared.rows.PortRow.{PortRow}
use Rattle.afdx_table.specs.Content.{Content}
use Rattle.afdx_table.specs.WellFormed.{IsWellFormed, Rises}
use Rattle.afdx_core.specs.Merge.{Arrival, Capture, merged, records_of, Rises as RisesInStamp}
use Rattle.afdx_core.specs.Inner.Merge.{part_at, Precedes, AreByStampAndPort}
use Rattle.afdx_merging.specs.Merge.{Arrival as Came, at_place, numbered_from, IsBy, AreInOrder, same_clock}
use Rattle.afdx_merging.specs.Read.{AreRead as AreReadInOrder, AreMerged}
use Rattle.afdx_merging.proofs.Timed.{IsTimed, numbered_back, frames_of, there_at}
use Rattle.afdx_session.specs.Texts.{Text, AreOfPorts}
use Rattle.afdx_session.specs.Reading.{AreCaptures}
use Rattle.afdx_session.specs.Sources.{AreRead}
use Rattle.afdx_session.specs.Inner.OneMerge.{MergedIsTheOnlyOne}
use Rattle.afdx_trace_run.specs.Inner.Running.{clocks_of, arrival_of, arrivals_of}

-- ---- texts and captures beside the numbers of their ports

abbrev pub texts_at : List PortRow → List (List ℕ) → List Text
texts_at [] texts = []
texts_at (p ∷ ports) [] = []
texts_at (p ∷ ports) (text ∷ texts) = (p.id, text) ∷ texts_at ports texts

abbrev captures_at : List PortRow → List (List Record) → List Capture
captures_at [] captures = []
captures_at (p ∷ ports) [] = []
captures_at (p ∷ ports) (rs ∷ captures) = record { port = p.id; records = rs } ∷ captures_at ports captures

-- the texts are of the ports
pub of_ports : (ports : List PortRow) (texts : List (List ℕ)) → length texts ≡ length ports → map (λ (text : Text). text.0) (texts_at ports texts) ≡ map (λ (p : PortRow). p.id) ports
of_ports [] texts long = refl
of_ports (p ∷ ports) [] long = absurd (omega (arith, long))
of_ports (p ∷ ports) (text ∷ texts) long = ap (λ (ns : List ℕ). p.id ∷ ns) (of_ports ports texts (omega (arith, long)))

pub many_texts : (ports : List PortRow) (texts : List (List ℕ)) → length texts ≡ length ports → length (texts_at ports texts) ≡ length texts
many_texts [] [] long = refl
many_texts [] (text ∷ texts) long = absurd (omega (arith, long))
many_texts (p ∷ ports) [] long = refl
many_texts (p ∷ ports) (text ∷ texts) long = ap suc (many_texts ports texts (omega (arith, long)))

text_there : (ports : List PortRow) (texts : List (List ℕ)) (k : ℕ) (text : Text) → slice_get (texts_at ports texts) k ≡ Some text → slice_get texts k ≡ Some text.1
text_there [] texts k text is = absurd (cc)
text_there (p ∷ ports) [] k text is = absurd (cc)
text_there (p ∷ ports) (bytes ∷ texts) zero text is = ap (option_map (λ (t : Text). t.1)) is
text_there (p ∷ ports) (bytes ∷ texts) (suc k) text is = text_there ports texts k text is

pub texts_read : {R : Type 0} (remaining : R → Option (List ℕ)) (ports : List PortRow) (readers : List R) (texts : List (List ℕ)) → length texts ≡ length ports
    → AreReadInOrder remaining readers texts → AreRead remaining readers (texts_at ports texts)
texts_read remaining ports readers texts long read = record {
  many = many_texts ports texts long ∙ read.many;
  each = λ place reader text here there. read.each place reader text.1 here (text_there ports texts place text there);
}

are_captures : (ports : List PortRow) (texts : List (List ℕ)) (captures : List (List Record)) → length texts ≡ length ports → length captures ≡ length texts
    → ((k : ℕ) (text : List ℕ) (rs : List Record) → slice_get texts k ≡ Some text → slice_get captures k ≡ Some rs → IsCapture text rs)
    → AreCaptures (texts_at ports texts) (captures_at ports captures)
are_captures [] texts captures long many each = tt
are_captures (p ∷ ports) [] captures long many each = absurd (omega (arith, long))
are_captures (p ∷ ports) (text ∷ texts) [] long many each = absurd (omega (arith, many))
are_captures (p ∷ ports) (text ∷ texts) (rs ∷ captures) long many each =
    (refl, each 0 text rs refl refl, are_captures ports texts captures (omega (arith, long)) (omega (arith, many)) (λ k t r here there. each (suc k) t r here there))

-- ---- numbers of ports that rise

abbrev At : List PortRow → ℕ → ℕ
At ports k = get_or (map (λ (p : PortRow). p.id) ports) k 0

later_rises : (n : ℕ) (ports : List PortRow) (k : ℕ) → AllByRecursion (λ (q : PortRow). n < q.id) ports → k < length ports → n < At ports k
later_rises n [] k all lt = absurd (omega (arith, lt))
later_rises n (q ∷ ports) zero all lt = all.0
later_rises n (q ∷ ports) (suc k) all lt = later_rises n ports k all.1 (omega (arith, lt))

numbers_rise : (ports : List PortRow) (j k : ℕ) → Rises ports → j < k → k < length ports → At ports j < At ports k
numbers_rise [] j k rises less lt = absurd (omega (arith, lt))
numbers_rise (p ∷ ports) j zero rises less lt = absurd (omega (arith, less))
numbers_rise (p ∷ ports) zero (suc k) rises less lt = later_rises p.id ports k rises.0 (omega (arith, lt))
numbers_rise (p ∷ ports) (suc j) (suc k) rises less lt = numbers_rise ports j k rises.1 (omega (arith, less)) (omega (arith, lt))

numbers_do_not_fall : (ports : List PortRow) (j k : ℕ) → Rises ports → j ≤ k → k < length ports → At ports j ≤ At ports k
numbers_do_not_fall ports j k rises le lt = by (j == k) refl where
  by : (b : Bool) → (j == k) ≡ b → At ports j ≤ At ports k
  by true is = let same = eqb-true j k is in subst (λ (n : ℕ). At ports j ≤ At ports n) same (omega arith)
  by false is = let ne : (j ≡ k → ⊥) = (λ same. let e : true ≡ false = sym (eq-eqb j k same) ∙ is in cc) in
      let less = numbers_rise ports j k rises (omega (arith, le, ne)) lt in omega (arith, less)

-- ---- the part of a port

-- places of other numbers
apart : (ports : List PortRow) (j k : ℕ) → Rises ports → j < length ports → k < length ports → (At ports j == At ports k) ≡ (j == k)
apart ports j k rises within lt = by (j == k) refl where
  by : (b : Bool) → (j == k) ≡ b → (At ports j == At ports k) ≡ b
  by true is = eq-eqb (At ports j) (At ports k) (ap (At ports) (eqb-true j k is))
  by false is = ne_eqb (At ports j) (At ports k) (λ same. differ same) where
    ne : j ≡ k → ⊥
    ne same = let e : true ≡ false = sym (eq-eqb j k same) ∙ is in cc

    order : (j < k) ⊎ (k < j) → At ports j ≡ At ports k → ⊥
    order (inl less) same = let lower = numbers_rise ports j k rises less lt in omega (arith, lower, same)
    order (inr more) same = let lower = numbers_rise ports k j rises more within in omega (arith, lower, same)

    differ : At ports j ≡ At ports k → ⊥
    differ same = order (apart_places j k ne) same where
      apart_places : (a b : ℕ) → (a ≡ b → ⊥) → (a < b) ⊎ (b < a)
      apart_places zero zero other = absurd (other refl)
      apart_places zero (suc b) other = inl (omega arith)
      apart_places (suc a) zero other = inr (omega arith)
      apart_places (suc a) (suc b) other = elim (apart_places a b (λ e. other (ap suc e))) [ inl less ↦ inl (omega (arith, less)) | inr more ↦ inr (omega (arith, more)) ]

part_of_place : (ports : List PortRow) (k : ℕ) (came : List Came) → Rises ports → k < length ports → AllByRecursion (λ (a : Came). a.place < length ports) came
    → part_at (At ports k) (arrivals_of ports came) ≡ map (λ (a : Came). a.head.frame) (at_place k came)
part_of_place ports k [] rises lt within = refl
part_of_place ports k (a ∷ came) rises lt within =
    ap (λ (b : Bool). map (λ (x : Arrival). x.frame) (cond b (arrival_of ports a ∷ filter (λ (x : Arrival). x.port == At ports k) (arrivals_of ports came))
    (filter (λ (x : Arrival). x.port == At ports k) (arrivals_of ports came)))) (apart ports a.place k rises within.0 lt)
    ∙ by (a.place == k) (part_of_place ports k came rises lt within.1) where
      by : (b : Bool) → part_at (At ports k) (arrivals_of ports came) ≡ map (λ (x : Came). x.head.frame) (at_place k came)
          → map (λ (x : Arrival). x.frame) (cond b (arrival_of ports a ∷ filter (λ (x : Arrival). x.port == At ports k) (arrivals_of ports came))
          (filter (λ (x : Arrival). x.port == At ports k) (arrivals_of ports came)))
          ≡ map (λ (x : Came). x.head.frame) (cond b (a ∷ at_place k came) (at_place k came))
      by true same = ap (λ (rs : List Record). a.head.frame ∷ rs) same
      by false same = same

-- no arrival has the number of no port
part_of_none : (ports : List PortRow) (port : ℕ) (came : List Came) → ((k : ℕ) → k < length ports → (At ports k == port) ≡ false) → AllByRecursion (λ (a : Came). a.place < length ports) came
    → part_at port (arrivals_of ports came) ≡ []
part_of_none ports port [] none within = refl
part_of_none ports port (a ∷ came) none within =
    ap (λ (b : Bool). map (λ (x : Arrival). x.frame) (cond b (arrival_of ports a ∷ filter (λ (x : Arrival). x.port == port) (arrivals_of ports came))
    (filter (λ (x : Arrival). x.port == port) (arrivals_of ports came)))) (none a.place within.0)
    ∙ part_of_none ports port came none within.1

-- the records of a port's capture
records_none : (ports : List PortRow) (captures : List (List Record)) (port : ℕ) → ((k : ℕ) → k < length ports → (At ports k == port) ≡ false) → records_of (captures_at ports captures) port ≡ []
records_none [] captures port none = refl
records_none (p ∷ ports) [] port none = refl
records_none (p ∷ ports) (rs ∷ captures) port none =
    ap (λ (b : Bool). cond b rs [] ++ records_of (captures_at ports captures) port) (none 0 (omega arith)) ∙ records_none ports captures port (λ k lt. none (suc k) (omega (arith, lt)))

records_at : (ports : List PortRow) (captures : List (List Record)) (k : ℕ) (rs : List Record) → Rises ports → k < length ports → slice_get captures k ≡ Some rs
    → records_of (captures_at ports captures) (At ports k) ≡ rs
records_at [] captures k rs rises lt there = absurd (omega (arith, lt))
records_at (p ∷ ports) [] k rs rises lt there = absurd (cc)
records_at (p ∷ ports) (own ∷ captures) zero rs rises lt there =
    ap (λ (b : Bool). cond b own [] ++ records_of (captures_at ports captures) p.id) (eq-eqb p.id p.id refl)
    ∙ ap (λ (more : List Record). own ++ more) (records_none ports captures p.id
    (λ k less. ne_eqb (At ports k) p.id (λ same. let above = later_rises p.id ports k rises.0 less in omega (arith, above, same))))
    ∙ append-nil own ∙ same_Some own rs there
records_at (p ∷ ports) (own ∷ captures) (suc k) rs rises lt there =
    ap (λ (b : Bool). cond b own [] ++ records_of (captures_at ports captures) (At ports k))
    (ne_eqb p.id (At ports k) (λ same. let above = later_rises p.id ports k rises.0 (omega (arith, lt)) in omega (arith, above, same)))
    ∙ records_at ports captures k rs rises.1 (omega (arith, lt)) there

-- ---- the order

before_of : (ports : List PortRow) (a : Came) (came : List Came) → Rises ports → IsTimed a → AllByRecursion IsTimed came → AllByRecursion (λ (b : Came). b.place < length ports) came
    → AllByRecursion (IsBy a) came → AllByRecursion (Precedes (arrival_of ports a)) (arrivals_of ports came)
before_of ports a [] rises timed all within order = tt
before_of ports a (b ∷ came) rises timed all within order = (one order.0, before_of ports a came rises timed all.1 within.1 order.1) where
  one : (a.due < b.due) ⊎ ((a.due ≡ b.due) × (a.place ≤ b.place)) → Precedes (arrival_of ports a) (arrival_of ports b)
  one (inl less) = inl (let here = timed.due in let there = all.0.due in omega (arith, less, here, there))
  one (inr same) = inr (
    (let here = timed.due in let there = all.0.due in let is = same.0 in let e : a.head.frame.stamp ≡ b.head.frame.stamp = omega (arith, is, here, there) in e),
    numbers_do_not_fall ports a.place b.place rises same.1 within.0,
  )

all_by_stamp_and_port : (ports : List PortRow) (came : List Came) → Rises ports → AllByRecursion IsTimed came → AllByRecursion (λ (b : Came). b.place < length ports) came → AreInOrder came
    → AreByStampAndPort (arrivals_of ports came)
all_by_stamp_and_port ports [] rises all within order = tt
all_by_stamp_and_port ports (a ∷ came) rises all within order =
    (before_of ports a came rises all.0 all.1 within.1 order.0, all_by_stamp_and_port ports came rises all.1 within.1 order.1)

not_later : (a : Arrival) (xs : List Arrival) → AllByRecursion (Precedes a) xs → AllByRecursion (λ (r : Record). a.frame.stamp ≤ r.stamp) (map (λ (x : Arrival). x.frame) xs)
not_later a [] all = tt
not_later a (x ∷ xs) all = (one all.0, not_later a xs all.1) where
  one : (a.frame.stamp < x.frame.stamp) ⊎ ((a.frame.stamp ≡ x.frame.stamp) × (a.port ≤ x.port)) → a.frame.stamp ≤ x.frame.stamp
  one (inl less) = omega (arith, less)
  one (inr same) = let is = same.0 in omega (arith, is)

stamps_rise : (xs : List Arrival) → AreByStampAndPort xs → RisesInStamp (map (λ (x : Arrival). x.frame) xs)
stamps_rise [] order = tt
stamps_rise (x ∷ xs) order = (not_later x xs order.0, stamps_rise xs order.1)

-- ---- the program's merge

module _ {R : Type 0} (remaining : R → Option (List ℕ)) (t : Content) (formed : IsWellFormed t) (first : List R) (came : List Came) (all : AreMerged remaining (clocks_of t.ports) first came)
    (timed : AllByRecursion IsTimed came) where
  many : length all.captures ≡ length t.ports
  many = all.merge.many ∙ length-map t.ports (λ (p : PortRow). same_clock)

  pub as_many : length all.texts ≡ length t.ports
  as_many = sym all.are.many ∙ many

  pub texts : List Text
  texts = texts_at t.ports all.texts

  pub read : List Capture
  read = captures_at t.ports all.captures

  within : AllByRecursion (λ (a : Came). a.place < length t.ports) came
  within = subst (λ (n : ℕ). AllByRecursion (λ (a : Came). a.place < n) came) (length-map t.ports (λ (p : PortRow). same_clock)) all.merge.within

  sorted : AreByStampAndPort (arrivals_of t.ports came)
  sorted = all_by_stamp_and_port t.ports came formed.ports_rise timed within all.merge.in_order

  -- the records of the capture at a place
  own : (k : ℕ) → k < length t.ports → part_at (At t.ports k) (arrivals_of t.ports came) ≡ records_of read (At t.ports k)
  unfolding read
  own k lt =
      let rs = there_at all.captures k (let same = many in omega (arith, lt, same)) in
      let text = there_at all.texts k (let same = as_many in omega (arith, lt, same)) in
      let p = there_at t.ports k lt in
      let capture = all.are.each k text.0 rs.0 text.1 rs.1 in
      part_of_place t.ports k came formed.ports_rise lt within
      ∙ ap (map (λ (a : Came). a.head.frame)) (all.merge.each k same_clock rs.0 (slice_get-map (λ (x : PortRow). same_clock) t.ports k ∙ ap (option_map (λ (x : PortRow). same_clock)) p.1) rs.1)
      ∙ frames_of k same_clock (numbered_from 1 same_clock rs.0) ∙ numbered_back 1 rs.0 (capture_early text.0 rs.0 capture)
      ∙ sym (records_at t.ports all.captures k rs.0 formed.ports_rise lt rs.1)

  -- the place of a number, if there is one
  place_of : (ports : List PortRow) (port : ℕ) → ((k : ℕ) × (k < length ports) × (At ports k ≡ port)) ⊎ ((k : ℕ) → k < length ports → (At ports k == port) ≡ false)
  place_of [] port = inr (λ k lt. absurd (omega (arith, lt)))
  place_of (p ∷ ports) port = by (p.id == port) refl (place_of ports port) where
    by : (b : Bool) → (p.id == port) ≡ b → ((k : ℕ) × (k < length ports) × (At ports k ≡ port)) ⊎ ((k : ℕ) → k < length ports → (At ports k == port) ≡ false)
        → ((k : ℕ) × (k < suc (length ports)) × (At (p ∷ ports) k ≡ port)) ⊎ ((k : ℕ) → k < suc (length ports) → (At (p ∷ ports) k == port) ≡ false)
    by true is rest = inl (0, omega arith, eqb-true p.id port is)
    by false is (inl found) = inl (suc found.0, (let lt = found.1 in omega (arith, lt)), found.2)
    by false is (inr none) = inr (λ k. at k) where
      at : (k : ℕ) → k < suc (length ports) → (At (p ∷ ports) k == port) ≡ false
      at zero lt = is
      at (suc k) lt = none k (omega (arith, lt))

  parts : (port : ℕ) → part_at port (arrivals_of t.ports came) ≡ records_of read port
  unfolding read
  parts port = elim (place_of t.ports port) [
    | inl found ↦ subst (λ (n : ℕ). part_at n (arrivals_of t.ports came) ≡ records_of read n) found.2 (own found.0 found.1)
    | inr none ↦ part_of_none t.ports port came none within ∙ sym (records_none t.ports all.captures port none)
  ]

  pub are_of_ports : AreOfPorts t texts
  unfolding texts
  are_of_ports = of_ports t.ports all.texts as_many

  pub are_read : AreRead remaining first texts
  unfolding texts
  are_read = texts_read remaining t.ports first all.texts as_many all.read

  pub captured : AreCaptures texts read
  unfolding texts read
  captured = are_captures t.ports all.texts all.captures as_many all.are.many all.are.each

  pub is_merged : MergedIsTheOnlyOne → arrivals_of t.ports came ≡ merged read
  is_merged only = (only t texts read (arrivals_of t.ports came) formed are_of_ports captured).0 (record { in_order = stamps_rise (arrivals_of t.ports came) sorted; parts = parts }, sorted)
