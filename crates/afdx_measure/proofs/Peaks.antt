-- Peaks, port by port, while an arrival is noted.
use Rattle.std.proofs.Common.{◌≡◌, ◌≢◌, ℕ, ◌+◌, ◌<◌, ◌==◌, ◌||◌, nat_eq, Bool, true, false, cond, List, [], ◌∷◌, ◌++◌, length, map, take, get_or}
use Rattle.std.proofs.Common.{slice_get, Option, Some, None, refl, ap, sym, ◌∙◌, arith, subst, inl, inr}
use Rattle.std.specs.List.{IsDistinct, list_any}
use Rattle.std.proofs.lemmas.Bool.{cases_eq, eq-eqb, ne_eqb}
use Rattle.std.proofs.lemmas.Bool.Decides.{nat_tests}
use Rattle.std.proofs.lemmas.List.{get_or-map, get_or-take, length-map, length-take, append_assoc, append-nil, take-map}
use Rattle.std.proofs.lemmas.List.Folds.{list_any_more, list_any_none}
use Rattle.std.proofs.lemmas.Map.Keys.{apart_from_distinct}
use Rattle.std.proofs.lemmas.Option.{slice_get_within}
use Rattle.afdx_table.specs.declared.rows.PortRow.{PortRow}
use Rattle.afdx_table.specs.Link.{names_port}
use Rattle.afdx_table.specs.Inner.Distinct.{PortsAreDistinct}
use Rattle.afdx_port.specs.declared.Settings.{Settings}
use Rattle.afdx_port.specs.declared.Item.{Item}
use Rattle.afdx_port.specs.declared.Offer.{Offer}
use Rattle.afdx_port.specs.declared.Offer.TheVariants.{Full, Queued}
use Rattle.afdx_core.specs.State.{Run, occupied_in, place_of}
use Rattle.afdx_measure.specs.declared.filling.Filling.{Filling}
use Rattle.afdx_measure.specs.declared.gauges.AtPort.{AtPort}
use Rattle.afdx_measure.specs.Peak.{filling, fillings, peak_of}
use Rattle.afdx_measure.specs.Ports.{peak_at}
use Rattle.afdx_measure.specs.Inner.Gauged.{IsFilledAt, FillsBy, fillings_in, asked, Fill, ArePeaks, DelaysStay}
use Rattle.afdx_measure.proofs.Numbered.{passes_at, none_passes, placed}

pub fillings_push : (s : Settings) (before items : List Item) (x : Item) → fillings s before (items ++ x ∷ []) ≡ fillings s before items ++ filling s (before ++ items) x ∷ []
fillings_push s before [] x = ap (λ (all : List Item). filling s all x ∷ []) (sym (append-nil before))
fillings_push s before (y ∷ items) x =
    ap (λ fs. filling s before y ∷ fs) (fillings_push s (before ++ y ∷ []) items x
    ∙ ap (λ (all : List Item). fillings s (before ++ y ∷ []) items ++ filling s all x ∷ []) (append_assoc before (y ∷ []) items))

-- ---- ports that are asked

abbrev port_of : ℕ × Offer → ℕ
port_of o = o.0

-- the next one is asked after those before it
asked_more : (n i : ℕ) (offers : List (ℕ × Offer)) (d : ℕ × Offer) → i < length offers
    → names_port n (asked (take (i + 1) offers)) ≡ (names_port n (asked (take i offers)) || ((get_or offers i d).0 == n))
asked_more n i offers d lt =
    let long = length-map offers port_of in
    ap (names_port n) (sym (take-map port_of (i + 1) offers)) ∙ list_any_more (λ (p : ℕ). p == n) (map port_of offers) i d.0 (omega (arith, long, lt))
    ∙ ap (λ m. list_any (λ (p : ℕ). p == n) (take i (map port_of offers)) || (m == n)) (get_or-map port_of offers i d d.0 lt)
    ∙ ap (λ ps. list_any (λ (p : ℕ). p == n) ps || ((get_or offers i d).0 == n)) (take-map port_of i offers)

-- and was not asked before
not_before : (i : ℕ) (offers : List (ℕ × Offer)) (d : ℕ × Offer) → IsDistinct nat_eq (asked offers) → i < length offers → names_port (get_or offers i d).0 (asked (take i offers)) ≡ false
not_before i offers d once lt =
    let n = (get_or offers i d).0 in
    let ps = map port_of offers in
    let long = length-map offers port_of in
    ap (names_port n) (sym (take-map port_of i offers)) ∙ list_any_none (λ (p : ℕ). p == n) (take i ps) (λ k e klt.
    let less : k < i = let m = length-take i ps in omega (arith, m, klt) in
    let apart = apart_from_distinct nat_eq ps k i e once less (omega (arith, long, lt)) in
    ap (λ m. m == n) (get_or-take i ps k e less) ∙ other (get_or ps k e) (get_or ps i e) n apart (get_or-map port_of offers i d e lt)) where
      other : (a b c : ℕ) → nat_eq a b ≡ false → b ≡ c → (a == c) ≡ false
      other a b c e f = let g : (a == b) ≡ false = grind (arith, nat_tests) in ap (λ m. a == m) (sym f) ∙ g

-- ---- one more that is asked

module _ {Z : Type 0} (distinct : PortsAreDistinct) (r now : Run) (at : ℕ) (offers : List (ℕ × Offer)) (fill : Fill r now at offers) (i : ℕ) (d : ℕ × Offer) (lt : i < length offers)
    (old : List (AtPort Z)) (peaks : ArePeaks r now (take i offers) old) where
  abbrev port : ℕ
  port = (get_or offers i d).0

  abbrev answer : Offer
  answer = (get_or offers i d).1

  abbrev expected : PortRow → List (ℕ × Offer) → Option Filling
  expected p so_far = cond (names_port p.id (asked so_far)) (peak_at now p) (peak_at r p)

  -- the port is at the place that is found for it
  its_place : (k : ℕ) (p : PortRow) → slice_get now.table.ports k ≡ Some p → p.id ≡ port → (o : Option ℕ) → place_of now port ≡ o → o ≡ Some k
  its_place k p here same None none =
      let missed = none_passes (λ (q : PortRow). q.id == port) now.table.ports k p none here in
      let hit = eq-eqb p.id port same in
      absurd (cc)
  its_place k p here same (Some j) found = ap (λ (n : ℕ). Some n) (placed (λ (q : PortRow). q.id) now.table.ports (distinct now.table.ports fill.formed.ports_rise) port j k p found here same)

  -- of another port nothing is expected that was not
  of_another : (p : PortRow) → p.id ≢ port → expected p (take (i + 1) offers) ≡ expected p (take i offers)
  of_another p other =
      let named = asked_more p.id i offers d lt in
      ap (λ b. cond b (peak_at now p) (peak_at r p)) (named ∙ ap (λ b. names_port p.id (asked (take i offers)) || b) (ne_eqb port p.id (λ e. other (sym e)))
      ∙ or_false (names_port p.id (asked (take i offers)))) where
        or_false : (b : Bool) → (b || false) ≡ b
        or_false true = refl
        or_false false = refl

  -- of this one its peak now, and before it was asked the peak before
  of_this : (p : PortRow) → p.id ≡ port → (expected p (take (i + 1) offers) ≡ peak_at now p) × (expected p (take i offers) ≡ peak_at r p)
  of_this p same =
      let named = asked_more p.id i offers d lt in
      let before : names_port p.id (asked (take i offers)) ≡ false = ap (λ n. names_port n (asked (take i offers))) same ∙ not_before i offers d fill.once lt in
      let hit : (port == p.id) ≡ true = eq-eqb port p.id (sym same) in (
        ap (λ b. cond b (peak_at now p) (peak_at r p)) (named ∙ (λ j. before j || hit j)),
        ap (λ b. cond b (peak_at now p) (peak_at r p)) before,
      )

  -- where it queued a copy
  pub peaks_filled : (new : List (AtPort Z)) (place : ℕ) → answer ≡ Queued → place_of now port ≡ Some place
      → IsFilledAt place (record { bytes = occupied_in now (slice_get now.table.ports place); at = at }) old new → ArePeaks r now (take (i + 1) offers) new
  peaks_filled new place queued found filled = record {
    many = filled.long ∙ peaks.many;
    each = λ k p a here. elim (cases_eq p.id port) [
      | inl same ↦
          let is : k ≡ place = some (sym (its_place k p here same (Some place) found)) in
          let there : slice_get now.table.ports place ≡ Some p = ap (slice_get now.table.ports) (sym is) ∙ here in
          let within : place < length old = let w = slice_get_within now.table.ports place p there in omega (arith, w, peaks.many) in
          let was : (get_or old place a).peak ≡ peak_of (fillings_in r p) = peaks.each place p a there ∙ (of_this p same).1 in
          let fills : FillsBy r now at p Queued = subst (FillsBy r now at p) queued (fill.each i place d p lt found there) in
          let bytes : ◌≡◌ {A = Filling} (record { bytes = occupied_in now (slice_get now.table.ports place); at = at }) (record { bytes = occupied_in now (Some p); at = at })
          = ap (λ (o : Option PortRow). record { bytes = occupied_in now o; at = at }) there in
          ap (λ (n : ℕ). (get_or new n a).peak) is ∙ filled.here a (fillings_in r p) within was ∙ ap (λ (f : Filling). peak_of (fillings_in r p ++ f ∷ [])) bytes ∙ sym fills ∙ sym (of_this p same).0
      | inr other ↦
          let apart : k ≢ place = λ e. other (eqb (passes_at (λ (q : PortRow). q.id == port) now.table.ports place p found (ap (slice_get now.table.ports) (sym e) ∙ here))) in
          ap (λ (x : AtPort Z). x.peak) (filled.others k a apart) ∙ peaks.each k p a here ∙ sym (of_another p other)
    ];
  } where
    some : {a b : ℕ} → Some a ≡ Some b → a ≡ b
    some e = (cc)

    eqb : {a b : ℕ} → (a == b) ≡ true → a ≡ b
    eqb e = grind (arith, nat_tests)

  -- where nothing is noted: it answered Full, or there is no such port
  pub peaks_stay : ((k : ℕ) (p : PortRow) → slice_get now.table.ports k ≡ Some p → p.id ≡ port → answer ≡ Full) → ArePeaks r now (take (i + 1) offers) old
  peaks_stay full = record {
    many = peaks.many;
    each = λ k p a here. elim (cases_eq p.id port) [
      | inl same ↦
          let found : place_of now port ≡ Some k = its_place k p here same (place_of now port) refl in
          let fills : FillsBy r now at p Full = subst (FillsBy r now at p) (full k p here same) (fill.each i k d p lt found here) in
          peaks.each k p a here ∙ (of_this p same).1 ∙ sym fills ∙ sym (of_this p same).0
      | inr other ↦ peaks.each k p a here ∙ sym (of_another p other)
    ];
  }

  -- no port has its number
  pub nowhere : place_of now port ≡ None → (k : ℕ) (p : PortRow) → slice_get now.table.ports k ≡ Some p → p.id ≡ port → answer ≡ Full
  nowhere none k p here same = absurd (let found = its_place k p here same None none in (cc))

  -- whatever was noted of it
  pub peaks_next : (new : List (AtPort Z))
      → ((place : ℕ) → answer ≡ Queued → place_of now port ≡ Some place → IsFilledAt place (record { bytes = occupied_in now (slice_get now.table.ports place); at = at }) old new)
      → (answer ≡ Full → new ≡ old) → (place_of now port ≡ None → new ≡ old) → ArePeaks r now (take (i + 1) offers) new
  peaks_next new queued full none = by_answer answer refl where
    by_place : answer ≡ Queued → (o : Option ℕ) → place_of now port ≡ o → ArePeaks r now (take (i + 1) offers) new
    by_place is None missed = subst (ArePeaks r now (take (i + 1) offers)) (sym (none missed)) (peaks_stay (nowhere missed))
    by_place is (Some place) found = peaks_filled new place is found (queued place is found)

    by_answer : (o : Offer) → answer ≡ o → ArePeaks r now (take (i + 1) offers) new
    by_answer Queued is = by_place is (place_of now port) refl
    by_answer Full is = subst (ArePeaks r now (take (i + 1) offers)) (sym (full is)) (peaks_stay (λ k p here same. is))

-- the delays stay through two notes
pub stay_on : {Z : Type 0} (old mid new : List (AtPort Z)) → DelaysStay old mid → DelaysStay mid new → DelaysStay old new
stay_on old mid new first next = record { long = next.long ∙ first.long; delays = λ k a. next.delays k a ∙ first.delays k a }
