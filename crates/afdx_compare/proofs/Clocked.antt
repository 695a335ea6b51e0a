-- Each record of a capture is in order by the clock of its port.
use Rattle.std.proofs.Common.{◌≡◌, ℕ, zero, suc, ◌+◌, ◌*◌, Bool, true, false, List, [], ◌∷◌, ◌++◌, map, length, Option, Some, refl, sym, ap, subst, ◌∙◌, arith}
use Rattle.std.specs.Prelude.{◌<◌, if◌then◌else◌, slice_get}
use Rattle.std.specs.List.{AllByRecursion}
use Rattle.std.proofs.lemmas.Option.{slice_get_within, same_Some}
use Rattle.afdx_units.specs.Line.{tick_of}
use Rattle.afdx_table.specs.declared.rows.PortRow.{PortRow}
use Rattle.afdx_table.specs.Content.{Content}
use Rattle.afdx_following.specs.declared.watch.Watch.{Watch}
use Rattle.afdx_merging.specs.declared.clock.Clock.{Clock}
use Rattle.afdx_merging.specs.Merge.{due_at, Arrival}
use Rattle.afdx_recordings.specs.declared.recordings.Recordings.{Recordings}
use Rattle.afdx_recordings.specs.Recordings.{gap_of, is_recorded}
use Rattle.afdx_compare.specs.declared.sources.Source.{Source}
use Rattle.afdx_compare.specs.Comparison.{watch_of}
use Rattle.afdx_compare.specs.Sources.{input_clock, output_clock, source_of, inputs_from, outputs_from, output_clocks, sources_of}
use Rattle.afdx_compare.specs.Inner.Due.{IsDueBy, IsDue, AreDue}
use Rattle.afdx_compare.specs.Inner.Reading.{IsClocked, AreClocked}

-- the clock of a capture's port, which is of the table
record IsOutput (r : Recordings) (whole : List PortRow) (s : Source) (c : Clock) : Type 0 where
  row : PortRow
  there : slice_get whole s.place ≡ Some row
  number : row.id ≡ s.port
  clock : c ≡ output_clock r row

abbrev IsClockOf : Recordings → List PortRow → Source → Bool → Clock → Type 0
IsClockOf r whole s true c = IsOutput r whole s c
IsClockOf r whole s false c = c ≡ input_clock

record HasClock (r : Recordings) (whole : List PortRow) (captures : List Source) (k : ℕ) (c : Clock) : Type 0 where
  source : Source
  at : slice_get captures k ≡ Some source
  of : IsClockOf r whole source source.leaves c

abbrev HaveClocks : Recordings → List PortRow → List Source → List Clock → Type 0
HaveClocks r whole captures clocks = (k : ℕ) (c : Clock) → slice_get clocks k ≡ Some c → HasClock r whole captures k c

one_output : (b : Bool) (r : Recordings) (p : PortRow) (whole : List PortRow) (place : ℕ) (captures : List Source) (clocks : List Clock) → slice_get whole place ≡ Some p
    → HaveClocks r whole captures clocks → (k : ℕ) (c : Clock) → slice_get ((if b then output_clock r p ∷ [] else []) ++ clocks) k ≡ Some c
    → HasClock r whole ((if b then source_of place true p ∷ [] else []) ++ captures) k c
one_output true r p whole place captures clocks there rest zero c get = record {
  source = source_of place true p;
  at = refl;
  of = record { row = p; there = there; number = refl; clock = sym (let same : output_clock r p ≡ c = cc in same) };
}
one_output true r p whole place captures clocks there rest (suc k) c get = (let was = rest k c get in record { source = was.source; at = was.at; of = was.of })
one_output false r p whole place captures clocks there rest k c get = rest k c get

place_later : (place k : ℕ) → place + suc k ≡ (place + 1) + k
place_later place k = omega arith

place_first : (place : ℕ) → place + 0 ≡ place
place_first place = omega arith

-- these are the table's from a place on
outputs_have : (r : Recordings) (ps whole : List PortRow) (place : ℕ) → ((k : ℕ) → slice_get ps k ≡ slice_get whole (place + k))
    → (k : ℕ) (c : Clock) → slice_get (output_clocks r ps) k ≡ Some c → HasClock r whole (outputs_from r.outputs place ps) k c
outputs_have r [] whole place same k c get = absurd (let never = get in cc)
outputs_have r (p ∷ ps) whole place same k c get =
    one_output (is_recorded r.outputs p.id) r p whole place (outputs_from r.outputs (place + 1) ps) (output_clocks r ps)
    (ap (λ (k : ℕ). slice_get whole k) (sym (place_first place)) ∙ sym (same 0))
    (outputs_have r ps whole (place + 1) (λ j. same (suc j) ∙ ap (λ (i : ℕ). slice_get whole i) (place_later place j))) k c get

inputs_have : (r : Recordings) (ps whole : List PortRow) (place : ℕ) (captures : List Source) (clocks : List Clock) → HaveClocks r whole captures clocks
    → (k : ℕ) (c : Clock) → slice_get (map (λ p. input_clock) ps ++ clocks) k ≡ Some c → HasClock r whole (inputs_from place ps ++ captures) k c
inputs_have r [] whole place captures clocks rest k c get = rest k c get
inputs_have r (p ∷ ps) whole place captures clocks rest zero c get = record { source = source_of place false p; at = refl; of = sym (same_Some input_clock c get) }
inputs_have r (p ∷ ps) whole place captures clocks rest (suc k) c get =
    let was = inputs_have r ps whole (place + 1) captures clocks rest k c get in record { source = was.source; at = was.at; of = was.of }

from_none : (k : ℕ) → k ≡ 0 + k
from_none k = omega arith

clocks_have : (r : Recordings) (t : Content) → HaveClocks r t.ports (sources_of t r).captures (sources_of t r).clocks
clocks_have r t = inputs_have r t.ports t.ports 0 (outputs_from r.outputs 0 t.ports) (output_clocks r t.ports)
    (outputs_have r t.ports t.ports 0 (λ k. ap (λ (j : ℕ). slice_get t.ports j) (from_none k)))

-- ---- so each is in order by its port's line

regroup : (stamp gap tolerance : ℕ) → stamp + (gap + tolerance) ≡ (stamp + gap) + tolerance
regroup stamp gap tolerance = omega arith

-- what is known of the switch, wherever the recordings end
abbrev pub watch_to : Content → Recordings → ℕ → Option ℕ → Watch
watch_to t r from until = record (watch_of t r from) { until = until }

due_by : (r : Recordings) (t : Content) (from : ℕ) (until : Option ℕ) (s : Source) (leaves : Bool) (a : Arrival) (c : Clock) → IsClockOf r t.ports s leaves c
    → a.due ≡ due_at c a.head.frame.stamp → IsDueBy (watch_to t r from until) t s leaves a
due_by r t from until s true a c of due = record {
  row = of.row;
  there = of.there;
  number = of.number;
  due = due ∙ ap (λ (x : Clock). due_at x a.head.frame.stamp) of.clock ∙ regroup a.head.frame.stamp (gap_of r.stamps * tick_of of.row.speed) r.tolerance;
}
due_by r t from until s false a c of due = due ∙ ap (λ (x : Clock). due_at x a.head.frame.stamp) of ∙ place_first a.head.frame.stamp

one_due : (r : Recordings) (t : Content) (from : ℕ) (until : Option ℕ) (a : Arrival) → IsClocked (sources_of t r).clocks a
    → IsDue (watch_to t r from until) t (slice_get (sources_of t r).captures a.place) a
one_due r t from until a by =
    let has = clocks_have r t a.place by.clock by.at in
    subst (λ (of : Option Source). IsDue (watch_to t r from until) t of a) (sym has.at) (due_by r t from until has.source has.source.leaves a by.clock has.of by.due)

pub all_due : (r : Recordings) (t : Content) (from : ℕ) (until : Option ℕ) (arrivals : List Arrival) → AreClocked (sources_of t r).clocks arrivals
    → AreDue (watch_to t r from until) t (sources_of t r).captures arrivals
all_due r t from until [] all = tt
all_due r t from until (a ∷ arrivals) all = (one_due r t from until a all.0, all_due r t from until arrivals all.1)

-- ---- and each is of a capture

one_within : (r : Recordings) (t : Content) (a : Arrival) → IsClocked (sources_of t r).clocks a → a.place < length (sources_of t r).captures
one_within r t a by = (let has = clocks_have r t a.place by.clock by.at in slice_get_within (sources_of t r).captures a.place has.source has.at)

pub all_within : (r : Recordings) (t : Content) (arrivals : List Arrival) → AreClocked (sources_of t r).clocks arrivals
    → AllByRecursion (λ a. a.place < length (sources_of t r).captures) arrivals
all_within r t [] all = tt
all_within r t (a ∷ arrivals) all = (one_within r t a all.0, all_within r t arrivals all.1)

one_many : (b : Bool) (p : PortRow) (r : Recordings) (place : ℕ) (captures : List Source) (clocks : List Clock) → length captures ≡ length clocks
    → length ((if b then source_of place true p ∷ [] else []) ++ captures) ≡ length ((if b then output_clock r p ∷ [] else []) ++ clocks)
one_many true p r place captures clocks same = ap (λ (n : ℕ). suc n) same
one_many false p r place captures clocks same = same

outputs_many : (r : Recordings) (ps : List PortRow) (place : ℕ) → length (outputs_from r.outputs place ps) ≡ length (output_clocks r ps)
outputs_many r [] place = refl
outputs_many r (p ∷ ps) place = one_many (is_recorded r.outputs p.id) p r place (outputs_from r.outputs (place + 1) ps) (output_clocks r ps) (outputs_many r ps (place + 1))

inputs_many : (ps : List PortRow) (place : ℕ) (captures : List Source) (clocks : List Clock) → length captures ≡ length clocks
    → length (inputs_from place ps ++ captures) ≡ length (map (λ p. input_clock) ps ++ clocks)
inputs_many [] place captures clocks same = same
inputs_many (p ∷ ps) place captures clocks same = ap (λ (n : ℕ). suc n) (inputs_many ps (place + 1) captures clocks same)

pub sources_many : (r : Recordings) (t : Content) → length (sources_of t r).captures ≡ length (sources_of t r).clocks
sources_many r t = inputs_many t.ports 0 (outputs_from r.outputs 0 t.ports) (output_clocks r t.ports) (outputs_many r t.ports 0)
