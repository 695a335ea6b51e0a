-- A merge that has stopped: the captures are read on to their ends, and the first fault of all is found.
use Rattle.std.proofs.Common.{◌≡◌, ℕ, ◌+◌, ◌<◌, ◌≤◌, Bool, true, not, List, [], ◌++◌, length, set, slice_get, Option, Some, None, inl, inr, refl, ap, sym, ◌∙◌, arith, subst}
use Rattle.std.specs.Prelude.{unwrap_or, option_to_list, is_some}
use Rattle.std.specs.Io.KnownBytes.{Consumes, IsAtEnd}
use Rattle.std.proofs.KnownBytes.{Consumes-whole}
use Rattle.std.proofs.lemmas.Bool.{cases_lt}
use Rattle.std.proofs.lemmas.List.{append-nil}
use Rattle.afdx_pcap.specs.declared.fault.PcapFault.{PcapFault}
use Rattle.afdx_pcap.specs.Record.{Record}
use Rattle.afdx_pcap.specs.Capture.{IsCapture}
use Rattle.afdx_pcap.specs.Fault.{IsFault, IsEarlyFault}
use Rattle.afdx_pcap.specs.Reading.{Taking, as_taking, HasTaken, IsSound}
use Rattle.afdx_folder.specs.Input.{AreGiven}
use Rattle.afdx_pairing.specs.Events.{Numbered}
use Rattle.afdx_merging.specs.declared.lane.Lane.{Lane}
use Rattle.afdx_merging.specs.declared.lane.LaneFault.TheVariants as lane_fault
use Rattle.afdx_merging.specs.declared.fault.MergeFault.{MergeFault}
use Rattle.afdx_merging.specs.declared.fault.MergeFault.TheVariants as fault
use Rattle.afdx_merging.specs.Read.{HasFirstFault, IsMergeFault, WereAllRead}
use Rattle.afdx_merging.specs.Inner.Lanes.{without_head, IsAtHand, IsReadBy, IsKnown, IsStopped, IsReadOut}
use Rattle.afdx_merging.specs.Inner.Merging.{AreStoppedAt, AreAtEnd, IsFirstOut, IsFoundBefore, first_found, IsUnread, IsUnreadAt}
use Rattle.afdx_merging.proofs.Lists.{there, get-set, chosen}

-- what the laws of captures say: of an early fault, and of what was taken where nothing is wrong after it
abbrev pub EarlyStays : Type 0
EarlyStays = (bytes more : List ℕ) (why : PcapFault) → IsEarlyFault bytes why → IsEarlyFault (bytes ++ more) why

abbrev pub Ends : Type 0
Ends = (t : Taking) (rs : List Record) → HasTaken t rs → IsSound t.bytes t.given true → IsCapture t.bytes rs

-- ---- one capture

-- there are some bytes that a reader gives
pub given_of : (a : Option (List ℕ)) → (text : List ℕ) × AreGiven a text
given_of None = ([], tt)
given_of (Some all) = (all, refl)

-- all that a reader still has to give
more_of : (a b : Option (List ℕ)) (xs : List ℕ) → Consumes a b xs → (more : List ℕ) × AreGiven a (xs ++ more)
more_of None b xs came = ([], tt)
more_of (Some ys) None xs came = absurd came
more_of (Some ys) (Some zs) xs came = (zs, sym came)

-- it is at its end
pub given_at_end : (a b : Option (List ℕ)) (xs : List ℕ) → Consumes a b xs → IsAtEnd b → AreGiven a xs
given_at_end a b xs came end = Consumes-whole a b xs (λ all. xs ≡ all) came end refl

-- the next record was taken from a lane
pub without : {R Z : Type 0} (remaining : R → Option (List ℕ)) (first now : R) (l : Lane Z) (given : List Numbered) → IsReadBy remaining first now l given
    → IsReadBy remaining first now (without_head l) (given ++ option_to_list l.head)
without remaining first now l given read = record {
  has = record {
    records = read.has.records;
    no_fault = read.has.no_fault;
    taken = read.has.taken;
    count = read.has.count;
    numbered = append-nil (given ++ option_to_list l.head) ∙ read.has.numbered;
  };
  bytes = read.bytes;
  ended = read.ended;
}

pub none_is : {T : Type 0} (o : Option T) (b : Bool) → is_some o ≡ not b → b ≡ true → o ≡ None
none_is None b same is = refl
none_is (Some x) b same is = absurd (let never : true ≡ not true = same ∙ ap not is in cc)

-- a capture was read to its end
pub ended_out : {R Z : Type 0} → Ends → (remaining : R → Option (List ℕ)) (first now : R) (l : Lane Z) (given : List Numbered) → IsAtHand l → l.head ≡ None
    → IsReadBy remaining first now l given → IsReadOut remaining first None × IsAtEnd (remaining now)
ended_out ends remaining first now l given at_hand none read =
    let end = at_hand none in (
      record {
        text = l.reader.bytes;
        all = given_at_end (remaining first) (remaining now) l.reader.bytes read.bytes (read.ended end.0);
        end = (read.has.records, ends (as_taking l.reader) read.has.records read.has.taken end.1);
      },
      read.ended end.0,
    )

-- or it has a fault
pub stopped_out : {R : Type 0} → EarlyStays → (remaining : R → Option (List ℕ)) (first now : R) (why : PcapFault) → IsStopped remaining first now (lane_fault.Capture why)
    → IsReadOut remaining first (Some why)
stopped_out {R} law remaining first now why stopped = by stopped.2 where
  by : IsKnown (remaining now) stopped.0 why → IsReadOut remaining first (Some why)
  by (inl early) =
      let more = more_of (remaining first) (remaining now) stopped.0 stopped.1 in
      record { text = stopped.0 ++ more.0; all = more.1; end = (law stopped.0 more.0 why early).0 }
  by (inr is) = record { text = stopped.0; all = given_at_end (remaining first) (remaining now) stopped.0 stopped.1 is.1; end = is.0 }

-- ---- one capture after the other

pub found_more : {R : Type 0} (remaining : R → Option (List ℕ)) (first : List R) (n : ℕ) (found : Option (ℕ × PcapFault)) (why : Option PcapFault)
    → IsFoundBefore remaining first n found → ((f : R) → slice_get first n ≡ Some f → IsReadOut remaining f why) → IsFoundBefore remaining first (n + 1) (first_found found n why)
found_more remaining first n (Some found) why was read = let lt = was.0 in (omega (arith, lt), was.1)
found_more {R} remaining first n None None was read = λ k f lt at. elim (cases_lt k n) [
  | inl before ↦ was k f before at
  | inr ge ↦ let same : k ≡ n = omega (arith, lt, ge) in read f (ap (slice_get first) (sym same) ∙ at)
]
found_more remaining first n None (Some why) was read = (omega arith, record { here = read; before = was })

-- ---- all captures

-- what is known of the text of a reader, where that at a place has the first fault
record IsTextOf {R : Type 0} (remaining : R → Option (List ℕ)) (place : ℕ) (why : PcapFault) (k : ℕ) (f : R) (text : List ℕ) : Type 0 where
  given : AreGiven (remaining f) text
  before : k < place → (rs : List Record) × IsCapture text rs
  here : k ≡ place → IsFault text why

text_of : {R : Type 0} (remaining : R → Option (List ℕ)) (first : List R) (place : ℕ) (why : PcapFault) → IsFirstOut remaining first place why → (k : ℕ) (f : R) → slice_get first k ≡ Some f
    → (text : List ℕ) × IsTextOf remaining place why k f text
text_of remaining first place why out k f at = elim (cases_lt k place) [
  | inl lt ↦ let read = out.before k f lt at in (read.text, record { given = read.all; before = λ _. read.end; here = λ same. absurd (omega (arith, lt, same)) })
  | inr ge ↦ elim (cases_lt place k) [
    | inl gt ↦ let some = given_of (remaining f) in (some.0, record { given = some.1; before = λ lt. absurd (omega (arith, lt, gt)); here = λ same. absurd (omega (arith, gt, same)) })
    | inr le ↦
        let same : k ≡ place = omega (arith, ge, le) in
        let read = out.here f (ap (slice_get first) (sym same) ∙ at) in
        (read.text, record { given = read.all; before = λ lt. absurd (omega (arith, lt, ge)); here = λ _. read.end })
  ]
]

first_fault : {R : Type 0} (remaining : R → Option (List ℕ)) (first : List R) (place : ℕ) (why : PcapFault) → place < length first → IsFirstOut remaining first place why
    → HasFirstFault remaining first place why
first_fault {R} remaining first place why within out =
    let all = chosen (IsTextOf remaining place why) first (text_of remaining first place why out) in
    record {
      texts = all.0;
      read = record { many = all.1; each = λ k f text at is. (all.2 k f text at is).given };
      here = λ text is. by all.0 all.2 text is;
      within = subst (λ n. place < n) (sym all.1) within;
      before = λ k text lt is. earlier all.0 all.1 all.2 k text lt is;
    } where
      by : (texts : List (List ℕ)) → ((k : ℕ) (f : R) (text : List ℕ) → slice_get first k ≡ Some f → slice_get texts k ≡ Some text → IsTextOf remaining place why k f text)
          → (text : List ℕ) → slice_get texts place ≡ Some text → IsFault text why
      by texts each text is = let f = there first place within in (each place f.0 text f.1 is).here refl

      earlier : (texts : List (List ℕ)) → length texts ≡ length first
          → ((k : ℕ) (f : R) (text : List ℕ) → slice_get first k ≡ Some f → slice_get texts k ≡ Some text → IsTextOf remaining place why k f text)
          → (k : ℕ) (text : List ℕ) → k < place → slice_get texts k ≡ Some text → (rs : List Record) × IsCapture text rs
      earlier texts many each k text lt is = let f = there first k (omega (arith, lt, within)) in (each k f.0 text f.1 is).before lt

-- the fault that is answered: the first that was found before the place, or that there
pub first_of_all : {R Z : Type 0} → EarlyStays → (remaining : R → Option (List ℕ)) (first now : List R) (lanes : List (Lane Z)) (place : ℕ) (why : PcapFault) (found : Option (ℕ × PcapFault))
    → IsFoundBefore remaining first place found → AreStoppedAt remaining first now lanes place (lane_fault.Capture why)
    → HasFirstFault remaining first (unwrap_or found (place, why)).0 (unwrap_or found (place, why)).1
first_of_all law remaining first now lanes place why (Some found) is stopped =
    let lt = is.0 in
    let within = stopped.within in
    let long = stopped.long in
    first_fault remaining first found.0 found.1 (omega (arith, lt, within, long)) is.1
first_of_all {R} law remaining first now lanes place why None is stopped =
    first_fault remaining first place why (subst (λ n. place < n) (sym stopped.long) stopped.within) (record { here = here; before = is }) where
      here : (f : R) → slice_get first place ≡ Some f → IsReadOut remaining f (Some why)
      here f at = let r = there now place stopped.within in stopped_out law remaining f r.0 why (stopped.here f r.0 at r.1)

-- ---- all were read

-- one more reader is at its end
pub ends_more : {R : Type 0} (remaining : R → Option (List ℕ)) (readers : List R) (from n : ℕ) (now : R) → AreAtEnd remaining readers from n → IsAtEnd (remaining now)
    → AreAtEnd remaining (set readers n now) from (n + 1)
ends_more {R} remaining readers from n now were end = λ k r ge lt at. elim (get-set readers n k now r at) [
  | inl same ↦ subst (λ (x : R). IsAtEnd (remaining x)) (sym same.1) end
  | inr other ↦ were k r ge (before k lt other.0) other.1
] where
  before : (k : ℕ) → k < n + 1 → (k ≡ n → ⊥) → k < n
  before k lt other = elim (cases_lt k n) [
    | inl less ↦ less
    | inr ge ↦ absurd (other (omega (arith, lt, ge)))
  ]

-- those before a place, and those from there on
pub ends_all : {R : Type 0} (remaining : R → Option (List ℕ)) (mid now : List R) (place to : ℕ) → AreAtEnd remaining mid 0 place → ((k : ℕ) → k < place → slice_get now k ≡ slice_get mid k)
    → AreAtEnd remaining now place to → AreAtEnd remaining now 0 to
ends_all remaining mid now place to were others ends = λ k r ge lt at. elim (cases_lt k place) [
  | inl before ↦ were k r ge before (sym (others k before) ∙ at)
  | inr from ↦ ends k r from lt at
]

-- the reader at a place failed, after others that are at their ends
pub unread_here : {R : Type 0} (remaining : R → Option (List ℕ)) (readers : List R) (from to place : ℕ) (later : R) (why : MergeFault) → place < to → AreAtEnd remaining readers from place
    → IsUnreadAt place why → IsUnread remaining (set readers place later) from to why
unread_here remaining readers from to place later fault.Memory lt ends is = tt
unread_here {R} remaining readers from to place later (fault.Read at) lt ends is = (omega (arith, lt, is), end) where
  end : (k : ℕ) (r : R) → from ≤ k → k < at → slice_get (set readers place later) k ≡ Some r → IsAtEnd (remaining r)
  end k r ge before there = elim (get-set readers place k later r there) [
    | inl same ↦ absurd (let k_is = same.0 in omega (arith, k_is, before, is))
    | inr other ↦ ends k r ge (omega (arith, before, is)) other.1
  ]
unread_here remaining readers from to place later (fault.Capture at why) lt ends is = absurd is

-- those before a place are at their ends, and so are others from there up to the one that failed
pub unread_after : {R : Type 0} (remaining : R → Option (List ℕ)) (mid now : List R) (place to : ℕ) (why : MergeFault) → AreAtEnd remaining mid 0 place
    → ((k : ℕ) → k < place → slice_get now k ≡ slice_get mid k) → IsUnread remaining now place to why → IsUnread remaining now 0 to why
unread_after remaining mid now place to fault.Memory were others is = tt
unread_after remaining mid now place to (fault.Read at) were others is = (is.0, ends_all remaining mid now place at were others is.1)
unread_after remaining mid now place to (fault.Capture at why) were others is = absurd is

-- a reader that failed is one of those that there were at first
pub unread_fails : {R : Type 0} (remaining : R → Option (List ℕ)) (first later : List R) (many : ℕ) (why : MergeFault) → many ≤ length first → IsUnread remaining later 0 many why
    → IsMergeFault remaining first why × WereAllRead remaining later why
unread_fails remaining first later many fault.Memory le is = (tt, tt)
unread_fails remaining first later many (fault.Read place) le is = let lt = is.0 in (omega (arith, lt, le), λ k r before there. is.1 k r (omega arith) before there)
unread_fails remaining first later many (fault.Capture place why) le is = absurd is

-- a failure of one of fewer readers is one of more
pub unread_more : {R : Type 0} (remaining : R → Option (List ℕ)) (readers : List R) (few many : ℕ) (why : MergeFault) → few ≤ many → IsUnread remaining readers 0 few why
    → IsUnread remaining readers 0 many why
unread_more remaining readers few many fault.Memory le is = tt
unread_more remaining readers few many (fault.Read place) le is = let lt = is.0 in (omega (arith, le, lt), is.1)
unread_more remaining readers few many (fault.Capture place why) le is = absurd is
