-- Whole captures are carried to the switch: the first record goes, and the next one of its capture is read.
use Rattle.std.proofs.Common.{◌≡◌, ℕ, zero, suc, ◌+◌, ◌-◌, ◌<◌, ◌≤◌, nat_le, Bool, true, false, cond, List, [], ◌∷◌, length, length-set, set, get_or, slice_get, Option, Some, None, inl, inr, refl}
use Rattle.std.proofs.Common.{Vec, drop, option_map, ap, sym, ◌∙◌, arith, subst}
use Rattle.std.specs.List.{AllByRecursion}
use Rattle.std.specs.Prelude.{Result, Ok, Err, OnOk, IfErr}
use Rattle.std.proofs.lemmas.Bool.{cases_Bool, le-leb, lt-leb, both_ways}
use Rattle.afdx_units.specs.Time.{stamp_end}
use Rattle.afdx_pcap.specs.Record.{Record}
use Rattle.afdx_pcap.specs.Reading.{IsWrong}
use Rattle.afdx_pcap.specs.Capture.{IsCapture}
use Rattle.afdx_pcap.specs.Fault.{IsFault}
use Rattle.afdx_pcap.specs.declared.fault.PcapFault.{PcapFault}
use Rattle.afdx_table.specs.Content.{Content}
use Rattle.std.specs.Vec.{with_items}
use Rattle.std.proofs.lemmas.Option.{same_Some, slice_get_within, slice_get-map, slice_get-get_or}
use Rattle.afdx_core.specs.State.{State, after_advance}
use Rattle.afdx_core.specs.Held.{Keeps}
use Rattle.afdx_core.specs.declared.step.CoreFault.{CoreFault}
use Rattle.afdx_core.specs.declared.step.CoreFault.TheVariants as core
use Rattle.afdx_core.specs.Merge.{Arrival}
use Rattle.afdx_core.specs.Inner.Merge.{ByStampIsOrdered, MergedIsAMerge, MergedIsByStampAndPort}
use Rattle.afdx_session.specs.declared.lane.Lane.{Lane}
use Rattle.afdx_session.specs.declared.machine.Machine.{Machine}
use Rattle.afdx_session.specs.declared.plan.RunFault.{RunFault}
use Rattle.afdx_session.specs.declared.plan.RunFault.TheVariants as run
use Rattle.afdx_session.specs.Texts.{Text}
use Rattle.afdx_session.specs.Reading.{IsSound}
use Rattle.afdx_session.specs.Inner.Settled.{first_place, IsGiven, HandsOut, IsWithin}
use Rattle.afdx_session.proofs.FirstHeads.{set_twice, heads_set}
use Rattle.afdx_earliest.specs.Instants.{instant_at, IsFirstUpTo}
use Rattle.afdx_session.specs.Inner.Lanes.{limit_at, with_waiting, head_of, heads_of, IsFirstOf, IsLimit, NoneGoes, IsReadOn, HasDrawn, IsLaneFault}
use Rattle.afdx_session.specs.Inner.Lent.{AreSound, IsOver, texts_over, taken_by, left_of, left_in, IsOneFault, IsCarrying, CarriesOn, HandsOn}
use Rattle.afdx_session.specs.Inner.Kept.{AreOfTable, AreOut, Every, IsGoing, AreTouched, IsGrown, AreGrown, IsOfSameTable}
use Rattle.afdx_session.specs.Inner.View.{HasGone, IsRound}
use Rattle.afdx_session.proofs.Given.{lane_at, comes_anywhere}
use Rattle.afdx_session.proofs.Gone.{grown_length, grown_off, drained_going}
use Rattle.afdx_session.proofs.Going.{reads_on}
use Rattle.afdx_session.proofs.Intakes.{still_of_table, touched_of}
use Rattle.afdx_session.proofs.Settles.{back_items}
use Rattle.afdx_session.proofs.Calls.{advanced_same, handed_stays, handed_same, drained_back, touched_table}
use Rattle.afdx_session.proofs.Lending.{draws_over, drawn_adds, ports_stay, taken_stays}
use Rattle.afdx_count.specs.Tally.{Tally}
use Rattle.afdx_session.proofs.Closing.{no_fault}
use Rattle.afdx_session.proofs.Rounds.{GoesFrom}
use Rattle.afdx_session.proofs.Numbered.{all_slice_get, set_here}
use Rattle.afdx_session.proofs.ReadUp.{read_same, all_set}

-- ---- the limit

-- a lane whose first record waits has not ended, and this is the last record that was read
record Waits {Z : Type 0} (l : Lane Z) (t : ℕ) : Type 0 where
  still_open : l.ended ≡ false
  last : l.last ≡ t

waits_for : {Z : Type 0} (l : Lane Z) (t : ℕ) → IsOver l → head_of l.waiting.items ≡ Some t → Waits l t
waits_for {Z} l t over head = elim (cases_Bool l.ended) [
  | inl ended ↦ absurd (none (ap head_of (sym (over.read ended).0) ∙ head))
  | inr still_open ↦
      let one = over.head still_open in
      record { still_open = still_open; last = one.2 ∙ same_Some one.0.stamp t (ap head_of (sym one.1) ∙ head) }
] where
  none : None ≡ Some t → ⊥
  none e = absurd cc

head_is : {Z : Type 0} (l : Lane Z) → IsOver l → l.ended ≡ false → head_of l.waiting.items ≡ Some l.last
head_is l over still_open = let one = over.head still_open in ap head_of one.1 ∙ ap Some (sym one.2)

-- a place before all that others have come to is the first
first_of_two : (p q : ℕ × ℕ) (o : Option (ℕ × ℕ)) → p.0 ≤ q.0 → first_place p o ≡ p → first_place p (Some (first_place q o)) ≡ p
first_of_two p q None le same = ap (λ b. cond b p q) (le-leb p.0 q.0 le)
first_of_two p q (Some m) le same = by (nat_le q.0 m.0) where
  by : (b : Bool) → cond (nat_le p.0 (cond b q m).0) p (cond b q m) ≡ p
  by true = ap (λ b. cond b p q) (le-leb p.0 q.0 le)
  by false = same

first_stays : {Z : Type 0} (p : ℕ × ℕ) (lanes : List (Lane Z)) → AllByRecursion IsOver lanes → ((j u : ℕ) → j < length lanes → instant_at (heads_of lanes) j ≡ Some u → p.0 ≤ u)
    → first_place p (limit_at lanes) ≡ p
first_stays p [] over sooner = refl
first_stays {Z} p (l ∷ lanes) over sooner =
    let rest = first_stays p lanes over.1 (λ j u lt head. sooner (suc j) u (omega (arith, lt)) head) in
    elim (cases_Bool l.ended) [
      | inl ended ↦ ap (λ b. first_place p (cond b (limit_at lanes) (Some (first_place (l.last, l.port) (limit_at lanes))))) ended ∙ rest
      | inr still_open ↦
          ap (λ b. first_place p (cond b (limit_at lanes) (Some (first_place (l.last, l.port) (limit_at lanes))))) still_open
          ∙ first_of_two p (l.last, l.port) (limit_at lanes) (sooner 0 l.last (omega arith) (head_is l over.0 still_open)) rest
    ]

limit_from : {Z : Type 0} (l : Lane Z) (t : ℕ) (ls : List (Lane Z)) (j : ℕ) → AllByRecursion IsOver ls → slice_get ls j ≡ Some l → instant_at (heads_of ls) j ≡ Some t
    → ((i u : ℕ) → i < length ls → instant_at (heads_of ls) i ≡ Some u → t ≤ u)
    → ((i u : ℕ) → i < j → instant_at (heads_of ls) i ≡ Some u → t < u) → limit_at ls ≡ Some (t, l.port)
limit_from l t [] j all is here sooner former = absurd cc
limit_from {Z} l t (m ∷ ls) zero all is here sooner former =
    let w = waits_for m t all.0 here in
    ap (λ b. cond b (limit_at ls) (Some (first_place (m.last, m.port) (limit_at ls)))) w.still_open
    ∙ ap (λ n. Some (first_place (n, m.port) (limit_at ls))) w.last
    ∙ ap Some (first_stays (t, m.port) ls all.1 (λ i u lt head. sooner (suc i) u (omega (arith, lt)) head))
    ∙ ap (λ (x : Lane Z). Some (t, x.port)) (same_Some m l is)
limit_from {Z} l t (m ∷ ls) (suc j) all is here sooner former =
    let rest = limit_from l t ls j all.1 is here (λ i u lt head. sooner (suc i) u (omega (arith, lt)) head) (λ i u lt head. former (suc i) u (omega (arith, lt)) head) in
    elim (cases_Bool m.ended) [
      | inl ended ↦ ap (λ b. cond b (limit_at ls) (Some (first_place (m.last, m.port) (limit_at ls)))) ended ∙ rest
      | inr still_open ↦
          ap (λ b. cond b (limit_at ls) (Some (first_place (m.last, m.port) (limit_at ls)))) still_open
          ∙ ap (λ o. Some (first_place (m.last, m.port) o)) rest
          ∙ ap (λ b. Some (cond b (m.last, m.port) (t, l.port))) (lt-leb m.last t (former 0 m.last (omega arith) (head_is m all.0 still_open)))
    ]

-- the first record that waits lies at the limit
pub limit_first : {Z : Type 0} (lanes : List (Lane Z)) (k t : ℕ) (l : Lane Z) → AllByRecursion IsOver lanes → IsFirstUpTo (heads_of lanes) (length lanes) k t → slice_get lanes k ≡ Some l
    → limit_at lanes ≡ Some (t, l.port)
limit_first lanes k t l over first at = limit_from l t lanes k over at first.here first.sooner first.former

-- so it goes whatever the limit is
pub no_limit : {Z : Type 0} (lanes : List (Lane Z)) → AllByRecursion IsOver lanes → IsLimit None lanes
no_limit lanes over place stamp lane first at = (
  (λ within. subst (λ o. IsWithin o stamp lane.port) (sym (limit_first lanes place stamp lane over first at)) (inr (refl, omega arith))),
  λ within. tt,
)

-- where none goes, all have ended
all_ended : {Z : Type 0} (lanes : List (Lane Z)) → AllByRecursion IsOver lanes → ((j : ℕ) → j < length lanes → instant_at (heads_of lanes) j ≡ None)
    → AllByRecursion (λ (l : Lane Z). l.ended ≡ true) lanes
all_ended [] over none = tt
all_ended {Z} (l ∷ lanes) over none = (
  elim (cases_Bool l.ended) [
    | inl ended ↦ ended
    | inr still_open ↦ absurd (differ (sym (none 0 (omega arith)) ∙ head_is l over.0 still_open))
  ],
  all_ended lanes over.1 (λ j lt. none (suc j) (omega (arith, lt))),
) where
  differ : None ≡ Some l.last → ⊥
  differ e = absurd cc

pub none_left : {Z : Type 0} (lanes : List (Lane Z)) (first : Option (ℕ × ℕ)) → AllByRecursion IsOver lanes → NoneGoes (limit_at lanes) lanes first
    → AllByRecursion (λ (l : Lane Z). l.ended ≡ true) lanes
none_left {Z} lanes first over none = by first none.is none.past where
  by : (found : Option (ℕ × ℕ)) → IsFirstOf lanes found → ((place stamp : ℕ) (lane : Lane Z) → found ≡ Some (place, stamp) → slice_get lanes place ≡ Some lane
      → IsWithin (limit_at lanes) stamp lane.port → ⊥)
      → AllByRecursion (λ (l : Lane Z). l.ended ≡ true) lanes
  by None is past = all_ended lanes over is
  by (Some x) is past =
      let at = lane_at lanes x.0 is.within in
      absurd (past x.0 x.1 at.0 refl at.1 (subst (λ o. IsWithin o x.1 at.0.port) (sym (limit_first lanes x.0 x.1 at.0 over is at.1)) (inr (refl, omega arith))))

-- ---- the lanes

pub texts_touched : {Z : Type 0} (old new : List (Lane Z)) → AreTouched old new → texts_over new ≡ texts_over old
texts_touched [] [] touched = refl
texts_touched [] (n ∷ new) touched = absurd touched
texts_touched (l ∷ old) [] touched = absurd touched
texts_touched (l ∷ old) (n ∷ new) touched =
    ap (λ m. (m, n.reader.bytes) ∷ texts_over new) touched.0.port
    ∙ ap (λ r. (l.port, r.bytes) ∷ texts_over new) touched.0.reader
    ∙ ap (λ ts. (l.port, l.reader.bytes) ∷ ts) (texts_touched old new touched.1)

pub taken_touched : {Z : Type 0} (old new : List (Lane Z)) → AreTouched old new → taken_by new ≡ taken_by old
taken_touched [] [] touched = refl
taken_touched [] (n ∷ new) touched = absurd touched
taken_touched (l ∷ old) [] touched = absurd touched
taken_touched (l ∷ old) (n ∷ new) touched = ap (λ k. k ∷ taken_by new) touched.0.taken ∙ ap (λ ns. l.taken ∷ ns) (taken_touched old new touched.1)

pub texts_set : {Z : Type 0} (lanes : List (Lane Z)) (k : ℕ) (old new : Lane Z) → slice_get lanes k ≡ Some old → new.port ≡ old.port → new.reader.bytes ≡ old.reader.bytes
    → texts_over (set lanes k new)
    ≡ texts_over lanes
texts_set [] k old new at port bytes = absurd cc
texts_set {Z} (l ∷ lanes) zero old new at port bytes =
    ap (λ m. (m, new.reader.bytes) ∷ texts_over lanes) port
    ∙ ap (λ xs. (old.port, xs) ∷ texts_over lanes) bytes
    ∙ ap (λ (x : Lane Z). (x.port, x.reader.bytes) ∷ texts_over lanes) (sym (same_Some l old at))
texts_set (l ∷ lanes) (suc k) old new at port bytes = ap (λ ts. (l.port, l.reader.bytes) ∷ ts) (texts_set lanes k old new at port bytes)

pub left_touched : {Z : Type 0} (old new : List (Lane Z)) → AreTouched old new → left_in new ≡ left_in old
left_touched [] [] touched = refl
left_touched [] (n ∷ new) touched = absurd touched
left_touched (l ∷ old) [] touched = absurd touched
left_touched (l ∷ old) (n ∷ new) touched =
    ap (λ r. cond n.ended 0 (length r.bytes - r.given + 1) + left_in new) touched.0.reader
    ∙ ap (λ b. cond b 0 (length l.reader.bytes - l.reader.given + 1) + left_in new) touched.0.ended
    ∙ ap (λ m. left_of l + m) (left_touched old new touched.1)

left_set : {Z : Type 0} (lanes : List (Lane Z)) (k : ℕ) (old new : Lane Z) → slice_get lanes k ≡ Some old → left_of new < left_of old → left_in (set lanes k new) < left_in lanes
left_set [] k old new at lt = absurd cc
left_set {Z} (l ∷ lanes) zero old new at lt = let same = ap (λ (x : Lane Z). left_of x) (same_Some l old at) in omega (arith, lt, same)
left_set (l ∷ lanes) (suc k) old new at lt = let more = left_set lanes k old new at lt in omega (arith, more)

left_drawn : {Z : Type 0} (found : Bool) (old new : Lane Z) → old.reader.closed ≡ true → old.ended ≡ false → IsReadOn old new → HasDrawn found old new → left_of new < left_of old
left_drawn {Z} true old new closed still_open on drawn =
    let was : left_of old ≡ length old.reader.bytes - old.reader.given + 1 = ap (λ b. cond b 0 (length old.reader.bytes - old.reader.given + 1)) still_open in
    let is : left_of new ≡ length new.reader.bytes - new.reader.given + 1 = ap (λ b. cond b 0 (length new.reader.bytes - new.reader.given + 1)) (drawn.ended ∙ still_open) in
    let fewer = drawn.fewer in
    omega (arith, was, is, fewer)
left_drawn {Z} false old new closed still_open on drawn =
    let was : left_of old ≡ length old.reader.bytes - old.reader.given + 1 = ap (λ b. cond b 0 (length old.reader.bytes - old.reader.given + 1)) still_open in
    let is : left_of new ≡ 0 = ap (λ b. cond b 0 (length new.reader.bytes - new.reader.given + 1)) (drawn.read.ended ∙ on.ended ∙ closed) in
    omega (arith, was, is)

-- ---- one record

pub gone_within : {Z : Type 0} (old new : List (Lane Z)) (place : ℕ) → HasGone old new place → place < length new
gone_within {Z} old new place gone =
    let lt = slice_get_within old place gone.lane gone.at in
    let long = ap (λ (ls : List (Lane Z)). length ls) gone.lanes ∙ length-set old place (with_waiting gone.rest gone.lane) in
    omega (arith, lt, long)

-- the lane whose first record has gone
pub record IsGone {Z : Type 0} (lanes : List (Lane Z)) (place : ℕ) (l : Lane Z) : Type 0 where
  pub at : slice_get lanes place ≡ Some l
  pub closed : l.reader.closed ≡ true
  pub still_open : l.ended ≡ false
  pub none : l.waiting.items ≡ []

-- the lane there, as the code reads it
pub gone_at : {Z : Type 0} (old new : List (Lane Z)) (place : ℕ) (l d : Lane Z) → HasGone old new place → l ≡ get_or new place d → slice_get new place ≡ Some l
gone_at {Z} old new place l d gone is = slice_get-get_or new place d (gone_within old new place gone) ∙ ap Some (sym is)

gone_same : {Z : Type 0} (old new : List (Lane Z)) (place : ℕ) (l : Lane Z) (gone : HasGone old new place) → slice_get new place ≡ Some l → l ≡ with_waiting gone.rest gone.lane
gone_same {Z} old new place l gone at =
    same_Some l (with_waiting gone.rest gone.lane) (sym at ∙ ap (λ (ls : List (Lane Z)). slice_get ls place) gone.lanes ∙ set_here old place gone.lane (with_waiting gone.rest gone.lane) gone.at)

pub gone_lane : {Z : Type 0} (old new : List (Lane Z)) (place : ℕ) (l : Lane Z) → AllByRecursion IsOver old → HasGone old new place → slice_get new place ≡ Some l → IsGone new place l
gone_lane {Z} old new place l over gone at = subst (IsGone new place) (sym same) (record {
  at = subst (λ (x : Lane Z). slice_get new place ≡ Some x) same at;
  closed = was.closed;
  still_open = waits.still_open;
  none = let one = was.head waits.still_open in ap (drop 1) (sym gone.head ∙ one.1);
}) where
  was : IsOver gone.lane
  was = all_slice_get IsOver old place gone.lane over gone.at

  waits : Waits gone.lane gone.frame.stamp
  waits = waits_for gone.lane gone.frame.stamp was (ap head_of gone.head)

  same : l ≡ with_waiting gone.rest gone.lane
  same = gone_same old new place l gone at

-- a lane whose first record was taken, before it is given
pub went_gone : {Z : Type 0} (limit : Option (ℕ × ℕ)) (old new : List (Lane Z)) (port place : ℕ) (frame : Record) → GoesFrom limit old new place port frame → HasGone old new place
went_gone {Z} limit old new port place frame from =
    let goes = from.goes in
    subst (HasGone old new) from.here (record { lane = goes.lane; frame = frame; rest = goes.rest; at = goes.at; head = goes.head; lanes = goes.lanes })

-- it can be read on
pub went_on : {Z : Type 0} (t : Content) (old new : List (Lane Z)) (s : State) (counts : Tally) (place : ℕ) (l : Lane Z) → IsGoing t old s counts
    → HasGone old new place → slice_get new place ≡ Some l → l.reader.fault ≡ None
went_on {Z} t old new s counts place l going gone at =
    ap (λ (x : Lane Z). x.reader.fault) (gone_same old new place l gone at) ∙ no_fault old going.streams place gone.lane going.lanes_are gone.at

-- it went, and the next one was read
pub carries_one : {Z : Type 0} → ByStampIsOrdered → MergedIsAMerge → MergedIsByStampAndPort → (found : Bool) (old mid next : Machine Z) (place : ℕ) (l new : Lane Z) → IsCarrying old
    → AreTouched old.lanes.items mid.lanes.items → IsOfSameTable old.switch mid.switch → IsRound (Some place) old mid
    → slice_get mid.lanes.items place ≡ Some l → IsReadOn l new → HasDrawn found l new → next.lanes.items ≡ set mid.lanes.items place new → next.switch ≡ mid.switch → next.counts ≡ mid.counts
    → CarriesOn true old next
carries_one {Z} ordered merge sorted found old mid next place l new carrying touched same round at on drawn lanes switch counts =
    let added = drawn_adds found l new drawn in
    let of_mid : AreOfTable mid.switch.run.table mid.lanes.items = touched_table old mid touched same carrying.of in
    let going : IsGoing mid.switch.run.table (set mid.lanes.items place new) mid.switch mid.counts =
    reads_on ordered merge sorted mid.switch.run.table mid.lanes.items mid.switch mid.counts place l new added.0 of_mid at gone.still_open on.port (ap (λ o. o.items) on.out)
    on.taken added.1 round.going in
    let fewer = left_set mid.lanes.items place l new at (left_drawn found l new gone.closed gone.still_open on drawn) in
    let was = left_touched old.lanes.items mid.lanes.items touched in
    let now = ap (λ ls. left_in ls) lanes in
    record {
      carrying = record {
        of = rw (switch, lanes) (still_of_table mid.switch.run.table mid.lanes.items (set mid.lanes.items place new) (ports_stay mid.lanes.items place l new at on.port) of_mid);
        handed = rw switch (handed_stays old.switch mid.switch same carrying.handed);
        going = rw (switch, lanes, counts) going;
        over = rw lanes over;
      };
      texts = ap (λ ls. texts_over ls) lanes ∙ texts_set mid.lanes.items place l new at on.port on.bytes ∙ texts_touched old.lanes.items mid.lanes.items touched;
      taken = ap (λ ls. taken_by ls) lanes ∙ taken_stays mid.lanes.items place l new at on.taken ∙ taken_touched old.lanes.items mid.lanes.items touched;
      fewer = λ more. omega (arith, fewer, was, now);
      all = λ none. absurd (both_ways true none refl);
    } where
      has_gone : HasGone old.lanes.items mid.lanes.items place
      has_gone = round.gone place refl

      gone : IsGone mid.lanes.items place l
      gone = gone_lane old.lanes.items mid.lanes.items place l carrying.over has_gone at

      over : AllByRecursion IsOver (set mid.lanes.items place new)
      over = subst (AllByRecursion IsOver) (sym (ap (λ (ls : List (Lane Z)). set ls place new) has_gone.lanes ∙ set_twice old.lanes.items place (with_waiting has_gone.rest has_gone.lane) new))
          (all_set IsOver old.lanes.items place new carrying.over (draws_over found l new gone.closed gone.still_open gone.none on drawn))

-- the stamps follow the lanes
pub heads_drawn : {Z : Type 0} (heads : List (Option ℕ)) (old mid : List (Lane Z)) (place : ℕ) (l : Lane Z) (head : Option ℕ) → heads ≡ heads_of old → HasGone old mid place
    → head ≡ head_of l.waiting.items → set heads place head ≡ heads_of (set mid place l)
heads_drawn {Z} heads old mid place l head are gone same =
    ap (λ hs. set hs place head) are
    ∙ ap (set (heads_of old) place) same
    ∙ heads_set old mid place (with_waiting gone.rest gone.lane) l gone.lanes

-- none was left
pub carries_none : {Z : Type 0} (old next : Machine Z) → IsCarrying old → IsOfSameTable old.switch next.switch → IsRound None old next → CarriesOn false old next
carries_none {Z} old next carrying same round = record {
  carrying = record {
    of = subst (λ (c : Content). AreOfTable c next.lanes.items) (sym same.table) (subst (λ (ls : List (Lane Z)). AreOfTable old.switch.run.table ls) (sym lanes) carrying.of);
    handed = handed_stays old.switch next.switch same carrying.handed;
    going = round.going;
    over = over;
  };
  texts = ap (λ ls. texts_over ls) lanes;
  taken = ap (λ ls. taken_by ls) lanes;
  fewer = λ more. absurd (both_ways true (sym more) refl);
  all = λ is. let none = round.none refl in none_left next.lanes.items none.0 over none.1;
} where
  lanes : next.lanes.items ≡ old.lanes.items
  lanes = round.stays refl

  over : AllByRecursion IsOver next.lanes.items
  over = subst (AllByRecursion IsOver) (sym lanes) carrying.over

-- why it cannot be read
pub carries_fault : {Z : Type 0} (old mid : List (Lane Z)) (place : ℕ) (l : Lane Z) (fault : RunFault) → AreTouched old mid → IsGone mid place l → IsLaneFault l fault
    → IsOneFault (texts_over old) fault
carries_fault old mid place l run.Memory touched gone why = tt
carries_fault {Z} old mid place l (run.Capture port fault) touched gone why = (
  place,
  l.reader.bytes,
  ap (λ ts. slice_get ts place) (sym (texts_touched old mid touched))
      ∙ slice_get-map (λ (x : Lane Z). (x.port, x.reader.bytes)) mid place ∙ ap (option_map (λ (x : Lane Z). (x.port, x.reader.bytes))) gone.at ∙ ap (λ n. Some (n, l.reader.bytes)) (sym why.0),
  subst (λ b. IsWrong l.reader.bytes b fault) gone.closed why.1,
)
carries_fault old mid place l run.WrongPorts touched gone why = why
carries_fault old mid place l run.Closed touched gone why = why
carries_fault old mid place l run.Failed touched gone why = why

-- ---- what has left goes out

over_grown : {Z : Type 0} (l n : Lane Z) → IsGrown l n → IsOver l → IsOver n
over_grown l n grown over = record {
  closed = ap (λ r. r.closed) grown.touched.reader ∙ over.closed;
  head = λ still_open. let one = over.head (sym grown.touched.ended ∙ still_open) in (one.0, ap (λ w. w.items) grown.waiting ∙ one.1, grown.last ∙ one.2);
  read = λ ended. let all = over.read (sym grown.touched.ended ∙ ended) in (ap (λ w. w.items) grown.waiting ∙ all.0, read_same l n grown.touched.reader grown.touched.ended all.1);
}

all_over_grown : {Z : Type 0} (old new : List (Lane Z)) → AreGrown old new → AllByRecursion IsOver old → AllByRecursion IsOver new
all_over_grown [] [] grown over = tt
all_over_grown [] (n ∷ new) grown over = absurd grown
all_over_grown (l ∷ old) [] grown over = absurd grown
all_over_grown (l ∷ old) (n ∷ new) grown over = (over_grown l n grown.0 over.0, all_over_grown old new grown.1 over.1)

pub hands_on : {Z : Type 0} (m next : Machine Z) (start now : List (Lane Z)) → IsCarrying m → HandsOut m.switch next.switch → start ≡ m.lanes.items → AreGrown start now
    → ((t : Content) (given : List Arrival) (h : ℕ) → AreOfTable t start → IsGiven t given m.switch → h ≤ m.switch.run.latest → AreOut t given h m.switch start Every
    → AreOut t given m.switch.run.latest next.switch now Every)
    → next.lanes.items ≡ (with_items m.lanes now).items → next.counts ≡ m.counts → HandsOn m next
hands_on {Z} m next start now carrying hands is grown out lanes counts = record {
  carrying = record {
    of = touched_table m next touched same carrying.of;
    handed = handed_stays m.switch next.switch same carrying.handed;
    going = subst (λ (c : Content). IsGoing c next.lanes.items next.switch next.counts) (sym hands.table)
        (subst (λ n. IsGoing t next.lanes.items next.switch n) (sym counts)
        (drained_going t m.lanes.items next.lanes.items m.switch next.switch m.counts carrying.going (grown_off m.lanes.items next.lanes.items all) hands outs));
    over = all_over_grown m.lanes.items next.lanes.items all carrying.over;
  };
  same = same;
  texts = texts_touched m.lanes.items next.lanes.items touched;
  taken = taken_touched m.lanes.items next.lanes.items touched;
  left = left_touched m.lanes.items next.lanes.items touched;
} where
  t : Content
  t = m.switch.run.table

  same : IsOfSameTable m.switch next.switch
  same = handed_same m.switch next.switch hands

  all : AreGrown m.lanes.items next.lanes.items
  all = subst (λ (ls : List (Lane Z)). AreGrown m.lanes.items ls) (sym lanes) (drained_back m.lanes start now is grown)

  touched : AreTouched m.lanes.items next.lanes.items
  touched = touched_of m.lanes.items next.lanes.items all

  now_is : now ≡ next.lanes.items
  now_is = sym (lanes ∙ back_items m.lanes now (grown_length start now grown ∙ ap (λ (ls : List (Lane Z)). length ls) is))

  outs : AreOut t carrying.going.given m.switch.run.latest next.switch next.lanes.items Every
  outs = subst (λ (ls : List (Lane Z)). AreOut t carrying.going.given m.switch.run.latest next.switch ls Every) now_is
      (out t carrying.going.given carrying.going.since (subst (λ (ls : List (Lane Z)). AreOfTable t ls) (sym is) carrying.of) carrying.going.is_given carrying.going.come
      (subst (λ (ls : List (Lane Z)). AreOut t carrying.going.given carrying.going.since m.switch ls Every) (sym is) carrying.going.outs))

pub same_table : (s : State) → IsOfSameTable s s
same_table s = record { table = refl; accepted = refl; keeps = refl; handed = refl }

-- nothing goes out
pub hands_none : {Z : Type 0} (m : Machine Z) → IsCarrying m → HandsOn m m
hands_none m carrying = record { carrying = carrying; same = same_table m.switch; texts = refl; taken = refl; left = refl }

-- where nothing is left to be read, all have ended
pub none_left_to_read : {Z : Type 0} (lanes : List (Lane Z)) → left_in lanes ≡ 0 → AllByRecursion (λ (l : Lane Z). l.ended ≡ true) lanes
none_left_to_read [] none = tt
none_left_to_read {Z} (l ∷ lanes) none = (
  elim (cases_Bool l.ended) [
    | inl ended ↦ ended
    | inr still_open ↦
        let some : left_of l ≡ length l.reader.bytes - l.reader.given + 1 = ap (λ b. cond b 0 (length l.reader.bytes - l.reader.given + 1)) still_open in
        absurd (omega (arith, none, some))
  ],
  none_left_to_read lanes (omega (arith, none)),
)

pub all_ended_are_read : {Z : Type 0} (lanes : List (Lane Z)) → AllByRecursion (λ (l : Lane Z). l.ended ≡ true) lanes → left_in lanes ≡ 0
all_ended_are_read [] ended = refl
all_ended_are_read {Z} (l ∷ lanes) ended =
    let none : left_of l ≡ 0 = ap (λ b. cond b 0 (length l.reader.bytes - l.reader.given + 1)) ended.0 in
    let rest = all_ended_are_read lanes ended.1 in
    omega (arith, none, rest)

-- then the switch may come to any instant
pub steps_on : {Z : Type 0} → ByStampIsOrdered → (m : Machine Z) (next : State) (to : ℕ) → IsCarrying m → left_in m.lanes.items ≡ 0 → m.switch.run.latest ≤ to → to < stamp_end
    → next.run ≡ after_advance to m.switch.run → Keeps m.switch next → HandsOn m (record { switch = next; counts = m.counts; lanes = m.lanes })
steps_on {Z} ordered m next to carrying none onward early run keeps = record {
  carrying = record {
    of = subst (λ (c : Content). AreOfTable c m.lanes.items) (sym same.table) carrying.of;
    handed = handed_stays m.switch next same carrying.handed;
    going = subst (λ (c : Content). IsGoing c m.lanes.items next m.counts) (sym same.table)
        (comes_anywhere ordered m.switch.run.table m.lanes.items m.switch next m.counts to carrying.going ended (none_waits m.lanes.items carrying.over ended) onward early run keeps);
    over = carrying.over;
  };
  same = same;
  texts = refl;
  taken = refl;
  left = refl;
} where
  same : IsOfSameTable m.switch next
  same = advanced_same m.switch next to run keeps

  ended : AllByRecursion (λ (l : Lane Z). l.ended ≡ true) m.lanes.items
  ended = none_left_to_read m.lanes.items none

  none_waits : (ls : List (Lane Z)) → AllByRecursion IsOver ls → AllByRecursion (λ (l : Lane Z). l.ended ≡ true) ls → AllByRecursion (λ (l : Lane Z). l.waiting.items ≡ []) ls
  none_waits [] over all = tt
  none_waits (l ∷ ls) over all = ((over.0.read all.0).0, none_waits ls over.1 all.1)

-- or is past it
pub came_to : {Z : Type 0} → ByStampIsOrdered → (m : Machine Z) (next : State) (to : ℕ) (r : Result (Unit {0}) CoreFault) → IsCarrying m → left_in m.lanes.items ≡ 0 → to < stamp_end
    → OnOk r ((m.switch.run.latest ≤ to) × (next.run ≡ after_advance to m.switch.run) × Keeps m.switch next) → IfErr r (λ e. (to < m.switch.run.latest) × (e ≡ core.Earlier) × (next ≡ m.switch))
    → HandsOn m (record { switch = next; counts = m.counts; lanes = m.lanes })
came_to ordered m next to (Ok x) carrying none early came back = steps_on ordered m next to carrying none came.0 early came.1 came.2
came_to ordered m next to (Err e) carrying none early came back =
    subst (λ (s : State). HandsOn m (record { switch = s; counts = m.counts; lanes = m.lanes })) (sym back.2) (hands_none m carrying)

-- what a machine carries depends on the lanes as a list
pub over_same_lanes : {Z : Type 0} (m : Machine Z) (lanes : Vec (Lane Z) Z) → lanes.items ≡ m.lanes.items → IsCarrying m
    → IsCarrying (record { switch = m.switch; counts = m.counts; lanes = lanes })
over_same_lanes m lanes same carrying = record { of = rw same carrying.of; handed = carrying.handed; going = rw same carrying.going; over = rw same carrying.over }

-- ---- a fault

-- none of the captures has one
pub no_one_fault : ((bytes : List ℕ) (rs : List Record) (e : PcapFault) → IsCapture bytes rs → IsFault bytes e → ⊥) → (texts : List Text) (port : ℕ) (why : PcapFault) → AreSound texts
    → IsOneFault texts (run.Capture port why) → ⊥
no_one_fault law texts port why sound one =
    let capture : IsSound (port, one.1) = all_slice_get IsSound texts one.0 (port, one.1) sound one.2 in law one.1 capture.0 why capture.1 one.3
