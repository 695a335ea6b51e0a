-- A merge at its end.
use Rattle.std.proofs.Common.{◌≡◌, ℕ, List, ◌++◌, map, length, slice_get, Option, Some, None, refl, ap, sym, ◌∙◌, arith, subst}
use Rattle.std.specs.Prelude.{option_to_list}
use Rattle.std.specs.Option.{option_map}
use Rattle.std.proofs.lemmas.List.{append-nil, length-map}
use Rattle.std.proofs.lemmas.Option.{slice_get_within}
use Rattle.afdx_pcap.specs.Record.{Record}
use Rattle.afdx_pcap.specs.Capture.{IsCapture}
use Rattle.afdx_pcap.specs.Reading.{as_taking}
use Rattle.afdx_folder.specs.Input.{AreGiven}
use Rattle.afdx_earliest.specs.Instants.{IsFirstIn}
use Rattle.afdx_pairing.specs.Events.{Numbered}
use Rattle.afdx_merging.specs.declared.clock.Clock.{Clock}
use Rattle.afdx_merging.specs.declared.lane.Lane.{Lane}
use Rattle.afdx_merging.specs.declared.merging.Merging.{Merging}
use Rattle.afdx_merging.specs.Merge.{due_at, numbered_from, Arrival, arrival_at, at_place}
use Rattle.afdx_merging.specs.Read.{AreMerged}
use Rattle.afdx_merging.specs.Inner.Merging.{dues_of, due_of, HasMerged}
use Rattle.afdx_merging.proofs.Firsts.{instant_of}
use Rattle.afdx_merging.proofs.Lists.{there, mapped_at, chosen}
use Rattle.afdx_merging.proofs.Stopping.{Ends, given_at_end}

-- what a reader gave, and its records
record IsReadAs {R : Type 0} (remaining : R → Option (List ℕ)) (clocks : List Clock) (came : List Arrival) (k : ℕ) (f : R) (both : List ℕ × List Record) : Type 0 where
  given : AreGiven (remaining f) both.0
  is : IsCapture both.0 both.1
  are : (c : Clock) → slice_get clocks k ≡ Some c → at_place k came ≡ map (arrival_at k c) (numbered_from 1 c both.1)

no_head : {Z : Type 0} (l : Lane Z) → due_of l ≡ None → l.head ≡ None
no_head {Z} l none = by l.head none where
  by : (o : Option Numbered) → option_map (λ (n : Numbered). due_at l.clock n.frame.stamp) o ≡ None → o ≡ None
  by None is = refl
  by (Some n) is = absurd cc

pub all_merged : {R Z : Type 0} → Ends → (remaining : R → Option (List ℕ)) (clocks : List Clock) (first now : List R) (m : Merging Z) (came : List Arrival)
    → IsFirstIn (dues_of m.lanes.items) (length m.lanes.items) None → HasMerged remaining clocks first now m came → AreMerged remaining clocks first came
all_merged {R} {Z} ends remaining clocks first now m came none merged =
    let all = chosen (IsReadAs remaining clocks came) first read in
    record {
      texts = map (λ (y : List ℕ × List Record). y.0) all.0;
      captures = map (λ (y : List ℕ × List Record). y.1) all.0;
      read = record { many = length-map all.0 (λ (y : List ℕ × List Record). y.0) ∙ all.1; each = given all.0 all.2 };
      are = record {
        many = length-map all.0 (λ (y : List ℕ × List Record). y.1) ∙ sym (length-map all.0 (λ (y : List ℕ × List Record). y.0));
        each = captures all.0 all.1 all.2;
      };
      merge = record {
        many = length-map all.0 (λ (y : List ℕ × List Record). y.1) ∙ all.1 ∙ merged.long;
        each = records all.0 all.2;
        within = merged.within;
        in_order = merged.in_order;
      };
    } where
      read : (k : ℕ) (f : R) → slice_get first k ≡ Some f → (both : List ℕ × List Record) × IsReadAs remaining clocks came k f both
      read k f is_first =
          let lt = slice_get_within first k f is_first in
          let many = merged.many in
          let long = merged.long in
          let readers = merged.readers in
          let c = there clocks k (omega (arith, lt, long)) in
          let r = there now k (omega (arith, lt, long, readers)) in
          let l = there m.lanes.items k (omega (arith, lt, long, many)) in
          let of = merged.each k c.0 f r.0 l.0 c.1 is_first r.1 l.1 in
          let empty = no_head l.0 (sym (instant_of m.lanes.items k l.0 l.1) ∙ none k (omega (arith, lt, long, many))) in
          let end = of.at_hand empty in
          let numbered : of.given ≡ numbered_from 1 c.0 of.read.has.records =
          sym (append-nil of.given) ∙ ap (λ (o : Option Numbered). of.given ++ option_to_list o) (sym empty) ∙ of.read.has.numbered
          ∙ ap (λ (x : Clock). numbered_from 1 x of.read.has.records) of.clock in (
            (l.0.reader.bytes, of.read.has.records),
            record {
              given = given_at_end (remaining f) (remaining r.0) l.0.reader.bytes of.read.bytes (of.read.ended end.0);
              is = ends (as_taking l.0.reader) of.read.has.records of.read.has.taken end.1;
              are = λ other is_clock. of.are ∙ ap (λ (ns : List Numbered). map (arrival_at k c.0) ns) numbered
                  ∙ ap (λ (x : Clock). map (arrival_at k x) (numbered_from 1 x of.read.has.records)) (same c.0 other (sym c.1 ∙ is_clock));
            },
          )
        where
          same : (a b : Clock) → Some a ≡ Some b → a ≡ b
          same a b is = cc

      given : (ys : List (List ℕ × List Record))
          → ((k : ℕ) (f : R) (y : List ℕ × List Record) → slice_get first k ≡ Some f → slice_get ys k ≡ Some y → IsReadAs remaining clocks came k f y)
          → (k : ℕ) (f : R) (text : List ℕ) → slice_get first k ≡ Some f → slice_get (map (λ (y : List ℕ × List Record). y.0) ys) k ≡ Some text → AreGiven (remaining f) text
      given ys each k f text is_first at =
          let y = mapped_at (λ (y : List ℕ × List Record). y.0) ys k text at in
          subst (AreGiven (remaining f)) y.2 (each k f y.0 is_first y.1).given

      captures : (ys : List (List ℕ × List Record)) → length ys ≡ length first
          → ((k : ℕ) (f : R) (y : List ℕ × List Record) → slice_get first k ≡ Some f → slice_get ys k ≡ Some y → IsReadAs remaining clocks came k f y)
          → (k : ℕ) (text : List ℕ) (rs : List Record) → slice_get (map (λ (y : List ℕ × List Record). y.0) ys) k ≡ Some text
          → slice_get (map (λ (y : List ℕ × List Record). y.1) ys) k ≡ Some rs → IsCapture text rs
      captures ys many each k text rs is_text is_rs =
          let y = mapped_at (λ (y : List ℕ × List Record). y.0) ys k text is_text in
          let z = mapped_at (λ (y : List ℕ × List Record). y.1) ys k rs is_rs in
          let lt = slice_get_within ys k y.0 y.1 in
          let f = there first k (omega (arith, lt, many)) in
          let one : IsCapture y.0.0 y.0.1 = (each k f.0 y.0 f.1 y.1).is in
          subst (λ (t : List ℕ). IsCapture t rs) y.2 (subst (λ (x : List Record). IsCapture y.0.0 x) (ap (λ (x : List ℕ × List Record). x.1) (alike y.0 z.0 (sym y.1 ∙ z.1)) ∙ z.2) one)
        where
          alike : (a b : List ℕ × List Record) → Some a ≡ Some b → a ≡ b
          alike a b is = cc

      records : (ys : List (List ℕ × List Record))
          → ((k : ℕ) (f : R) (y : List ℕ × List Record) → slice_get first k ≡ Some f → slice_get ys k ≡ Some y → IsReadAs remaining clocks came k f y)
          → (k : ℕ) (c : Clock) (rs : List Record) → slice_get clocks k ≡ Some c → slice_get (map (λ (y : List ℕ × List Record). y.1) ys) k ≡ Some rs
          → at_place k came ≡ map (arrival_at k c) (numbered_from 1 c rs)
      records ys each k c rs is_clock at =
          let y = mapped_at (λ (y : List ℕ × List Record). y.1) ys k rs at in
          let lt = slice_get_within clocks k c is_clock in
          let long = merged.long in
          let f = there first k (omega (arith, lt, long)) in
          (each k f.0 y.0 f.1 y.1).are c is_clock ∙ ap (λ (x : List Record). map (arrival_at k c) (numbered_from 1 c x)) y.2
