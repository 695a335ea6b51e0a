-- A merge goes on by one record.
use Rattle.std.proofs.Common.{◌≡◌, ◌≢◌, ℕ, zero, suc, ◌+◌, ◌<◌, ◌≤◌, ◌==◌, Bool, cond, List, [], ◌∷◌, ◌++◌, map, length, length-set, set, slice_get, Option, Some, None}
use Rattle.std.proofs.Common.{inl, inr, refl, ap, sym, ◌∙◌, arith, subst, append_assoc}
use Rattle.std.specs.Prelude.{option_to_list}
use Rattle.std.specs.List.{AllByRecursion}
use Rattle.std.specs.Option.{option_map}
use Rattle.std.specs.declared.vec.Vec.{Vec}
use Rattle.std.specs.Vec.{with_items}
use Rattle.std.proofs.lemmas.Bool.{cases_lt, eq-eqb, ne_eqb}
use Rattle.std.proofs.lemmas.List.{append-nil, map-append}
use Rattle.std.proofs.lemmas.List.Elements.{filter-append}
use Rattle.std.proofs.lemmas.Option.{same_Some, slice_get_within}
use Rattle.afdx_units.specs.Time.{earlier_of}
use Rattle.afdx_pcap.specs.Reading.{as_taking}
use Rattle.afdx_earliest.specs.Instants.{instant_at, IsFirstUpTo}
use Rattle.afdx_pairing.specs.Events.{Numbered}
use Rattle.afdx_merging.specs.declared.clock.Clock.{Clock}
use Rattle.afdx_merging.specs.declared.lane.Lane.{Lane}
use Rattle.afdx_merging.specs.declared.merging.Merging.{Merging}
use Rattle.afdx_merging.specs.Merge.{due_at, numbered_from, Arrival, arrival_at, at_place, IsBy, AreInOrder, IsAfter}
use Rattle.afdx_merging.specs.Inner.Lanes.{without_head, IsAtHand, IsReadBy}
use Rattle.afdx_merging.specs.Inner.Merging.{dues_of, least_of, IsLaneOf, HasMerged, HaveNoFault, AreReadBy, HasNoneAt, Takes, IsAdvanced}
use Rattle.afdx_merging.proofs.Firsts.{instant_of, least_taken}
use Rattle.afdx_merging.proofs.Lists.{all_more, all_weaker, get-set, set_twice, there, back_items}
use Rattle.afdx_merging.proofs.Rising.{taken_rises}
use Rattle.afdx_merging.proofs.Stopping.{without}

-- ---- order

by_joins : (a b c : Arrival) → IsBy a b → IsBy b c → IsBy a c
by_joins a b c (inl lt) (inl gt) = inl (omega (arith, lt, gt))
by_joins a b c (inl lt) (inr same) = let equal = same.0 in inl (omega (arith, lt, equal))
by_joins a b c (inr same) (inl gt) = let equal = same.0 in inl (omega (arith, equal, gt))
by_joins a b c (inr one) (inr other) = let p = one.1 in let q = other.1 in inr (one.0 ∙ other.0, omega (arith, p, q))

order_more : (arrivals : List Arrival) (a : Arrival) → AreInOrder arrivals → AllByRecursion (λ b. IsBy b a) arrivals → AreInOrder (arrivals ++ a ∷ [])
order_more [] a order last = (tt, tt)
order_more (x ∷ arrivals) a order last = (all_more (IsBy x) arrivals a order.0 last.0, order_more arrivals a order.1 last.1)

-- ---- those of one place

here_more : (place : ℕ) (arrivals : List Arrival) (a : Arrival) → a.place ≡ place → at_place place (arrivals ++ a ∷ []) ≡ at_place place arrivals ++ a ∷ []
here_more place arrivals a same =
    filter-append (λ (x : Arrival). x.place == place) arrivals (a ∷ [])
    ∙ ap (λ (b : Bool). at_place place arrivals ++ cond b (a ∷ []) []) (eq-eqb a.place place same)

there_more : (place : ℕ) (arrivals : List Arrival) (a : Arrival) → a.place ≢ place → at_place place (arrivals ++ a ∷ []) ≡ at_place place arrivals
there_more place arrivals a other =
    filter-append (λ (x : Arrival). x.place == place) arrivals (a ∷ [])
    ∙ ap (λ (b : Bool). at_place place arrivals ++ cond b (a ∷ []) []) (ne_eqb a.place place other)
    ∙ append-nil (at_place place arrivals)

-- ---- the lane at a place

pub lane_at : {R Z : Type 0} (remaining : R → Option (List ℕ)) (clocks : List Clock) (first now : List R) (m : Merging Z) (came : List Arrival) → HasMerged remaining clocks first now m came
    → (k : ℕ) (l : Lane Z) → slice_get m.lanes.items k ≡ Some l
    → (c : Clock) × (f : R) × (r : R) × (slice_get clocks k ≡ Some c) × (slice_get first k ≡ Some f) × (slice_get now k ≡ Some r) × IsLaneOf remaining c f r came k l
lane_at remaining clocks first now m came merged k l at =
    let lt = slice_get_within m.lanes.items k l at in
    let many = merged.many in
    let long = merged.long in
    let readers = merged.readers in
    let c = there clocks k (omega (arith, lt, many)) in
    let f = there first k (omega (arith, lt, many, long)) in
    let r = there now k (omega (arith, lt, many, readers)) in
    (c.0, f.0, r.0, c.1, f.1, r.1, merged.each k c.0 f.0 r.0 l c.1 f.1 r.1 at)

-- no lane has a fault, also where the next record was taken of one
pub none_faulty : {R Z : Type 0} (remaining : R → Option (List ℕ)) (clocks : List Clock) (first now : List R) (m : Merging Z) (came : List Arrival) (lanes : List (Lane Z)) (a : Arrival) (n : ℕ)
    → HasMerged remaining clocks first now m came → Takes m.lanes.items lanes a → HaveNoFault lanes n
none_faulty {R} {Z} remaining clocks first now m came lanes a n merged takes = λ k l lt at. elim (get-set m.lanes.items a.place k (without_head takes.lane) l
    (ap (λ (ls : List (Lane Z)). slice_get ls k) (sym takes.lanes) ∙ at)) [
      | inl same ↦
          let was = lane_at remaining clocks first now m came merged a.place takes.lane takes.at in
          ap (λ (x : Lane Z). x.reader.fault) same.1 ∙ was.6.read.has.no_fault
      | inr other ↦ (lane_at remaining clocks first now m came merged k l other.1).6.read.has.no_fault
    ]

pub none_there : {Z : Type 0} (old lanes : List (Lane Z)) (a : Arrival) → Takes old lanes a → HasNoneAt lanes a.place
none_there {Z} old lanes a takes = λ l at. elim (get-set old a.place a.place (without_head takes.lane) l (ap (λ (ls : List (Lane Z)). slice_get ls a.place) (sym takes.lanes) ∙ at)) [
  | inl same ↦ ap (λ (x : Lane Z). x.head) same.1
  | inr other ↦ absurd (other.0 refl)
]

-- each has what its reader gave
pub all_read : {R Z : Type 0} (remaining : R → Option (List ℕ)) (clocks : List Clock) (first now : List R) (m : Merging Z) (came : List Arrival) (lanes : List (Lane Z)) (a : Arrival) (n : ℕ)
    → HasMerged remaining clocks first now m came → Takes m.lanes.items lanes a → AreReadBy remaining first now lanes n
all_read {R} {Z} remaining clocks first now m came lanes a n merged takes = λ k f r l lt is_first is_now at.
    elim (get-set m.lanes.items a.place k (without_head takes.lane) l (ap (λ (ls : List (Lane Z)). slice_get ls k) (sym takes.lanes) ∙ at)) [
      | inl same ↦
          let c = there clocks k (within k f is_first) in
          let was = merged.each k c.0 f r takes.lane c.1 is_first is_now (ap (slice_get m.lanes.items) same.0 ∙ takes.at) in (
            was.given ++ option_to_list takes.lane.head,
            subst (λ (x : Lane Z). IsReadBy remaining f r x (was.given ++ option_to_list takes.lane.head)) (sym same.1)
                (without remaining f r takes.lane was.given was.read),
          )
      | inr other ↦
          let c = there clocks k (within k f is_first) in
          let was = merged.each k c.0 f r l c.1 is_first is_now other.1 in
          (was.given, was.read)
    ] where
      within : (k : ℕ) (f : R) → slice_get first k ≡ Some f → k < length clocks
      within k f at = let lt = slice_get_within first k f at in let long = merged.long in omega (arith, lt, long)

-- ---- the next record is taken

-- there is one, where one is the first
pub head_there : {Z : Type 0} (lanes : List (Lane Z)) (k t : ℕ) (l : Lane Z) → IsFirstUpTo (dues_of lanes) (length lanes) k t → slice_get lanes k ≡ Some l → l.head ≡ None → ⊥
head_there {Z} lanes k t l first at none =
    absurd (let never : None ≡ Some t = sym (instant_of lanes k l at ∙ ap (λ (o : Option Numbered). option_map (λ (x : Numbered). due_at l.clock x.frame.stamp) o) none) ∙ first.here in cc)

pub takes_it : {Z : Type 0} (old : List (Lane Z)) (lane : Lane Z) (place due : ℕ) (head : Numbered) (left : Option Numbered) → IsFirstUpTo (dues_of old) (length old) place due
    → slice_get old place ≡ Some lane → lane.head ≡ Some head → left ≡ None
    → Takes old (set old place (record lane { head = left })) (record { place = place; due = due; head = head })
takes_it {Z} old lane place due head left first at is none = record { lane = lane; at = at; head = is; first = first; lanes = ap put none } where
  put : Option Numbered → List (Lane Z)
  put h = set old place (record lane { head = h })

-- as many lanes are left
pub taken_long : {Z : Type 0} (old new : List (Lane Z)) (a : Arrival) → Takes old new a → length new ≡ length old
taken_long old new a takes = ap length takes.lanes ∙ length-set old a.place (without_head takes.lane)

pub taken_within : {Z : Type 0} (old new : List (Lane Z)) (a : Arrival) → Takes old new a → a.place < length new
taken_within old new a takes = subst (λ n. a.place < n) (sym (taken_long old new a takes)) (slice_get_within old a.place takes.lane takes.at)

-- ---- the next record was taken, and the capture was read on

-- what is at hand after it is no sooner
after_it : {Z : Type 0} (a : Arrival) (old : List (Lane Z)) (k : ℕ) (l : Lane Z) (n : Numbered) → IsFirstUpTo (dues_of old) (length old) a.place a.due → slice_get old k ≡ Some l → l.head ≡ Some n
    → IsBy a (arrival_at k l.clock n)
after_it {Z} a old k l n first at head = elim (cases_lt k a.place) [
  | inl before ↦ inl (first.former k (due_at l.clock n.frame.stamp) before is)
  | inr ge ↦ elim (cases_lt a.due (due_at l.clock n.frame.stamp)) [
    | inl lt ↦ inl lt
    | inr le ↦
        let sooner = first.sooner k (due_at l.clock n.frame.stamp) (slice_get_within old k l at) is in
        inr (omega (arith, le, sooner), ge)
  ]
] where
  is : instant_at (dues_of old) k ≡ Some (due_at l.clock n.frame.stamp)
  is = instant_of old k l at ∙ ap (λ (o : Option Numbered). option_map (λ (x : Numbered). due_at l.clock x.frame.stamp) o) head

due_is : {Z : Type 0} (a : Arrival) (old new : List (Lane Z)) (takes : Takes old new a) → a.due ≡ due_at takes.lane.clock a.head.frame.stamp
due_is {Z} a old new takes =
    same_Some a.due (due_at takes.lane.clock a.head.frame.stamp)
    (sym takes.first.here ∙ instant_of old a.place takes.lane takes.at
    ∙ ap (λ (o : Option Numbered). option_map (λ (x : Numbered). due_at takes.lane.clock x.frame.stamp) o) takes.head)

is_arrival : {Z : Type 0} (a : Arrival) (old new : List (Lane Z)) (takes : Takes old new a) → a ≡ arrival_at a.place takes.lane.clock a.head
is_arrival a old new takes = let made : ℕ → Arrival = λ due. record { place = a.place; due = due; head = a.head } in ap made (due_is a old new takes)

-- the arrivals so far are by it
so_far_by : {R Z : Type 0} (remaining : R → Option (List ℕ)) (clocks : List Clock) (first now : List R) (m : Merging Z) (came : List Arrival) (new : List (Lane Z)) (a : Arrival)
    → HasMerged remaining clocks first now m came → Takes m.lanes.items new a → AllByRecursion (λ b. IsBy b a) came
so_far_by remaining clocks first now m came new a merged takes =
    subst (λ (x : Arrival). AllByRecursion (λ b. IsBy b x) came) (sym (is_arrival a m.lanes.items new takes)) (merged.up_to a.place takes.lane a.head takes.at takes.head)

pub is_after : {R Z : Type 0} (remaining : R → Option (List ℕ)) (clocks : List Clock) (first now : List R) (m : Merging Z) (came : List Arrival) (new : List (Lane Z)) (a : Arrival)
    → HasMerged remaining clocks first now m came → Takes m.lanes.items new a → IsAfter clocks came a
is_after remaining clocks first now m came new a merged takes =
    let was = lane_at remaining clocks first now m came merged a.place takes.lane takes.at in
    record {
      clock = was.0;
      at = was.3;
      due = due_is a m.lanes.items new takes ∙ ap (λ (c : Clock). due_at c a.head.frame.stamp) was.6.clock;
      after = so_far_by remaining clocks first now m came new a merged takes;
    }

-- the lane goes on
lane_on : {R Z : Type 0} (remaining : R → Option (List ℕ)) (c : Clock) (f r s : R) (came : List Arrival) (a : Arrival) (was l : Lane Z) → IsLaneOf remaining c f r came a.place was
    → was.head ≡ Some a.head → a ≡ arrival_at a.place was.clock a.head → l.clock ≡ was.clock → IsAtHand l
    → ((given : List Numbered) → IsReadBy remaining f r (without_head was) given → IsReadBy remaining f s l given) → IsLaneOf remaining c f s (came ++ a ∷ []) a.place l
lane_on {R} {Z} remaining c f r s came a was l of head is clock at_hand on = record {
  given = of.given ++ a.head ∷ [];
  clock = clock ∙ of.clock;
  read = on (of.given ++ a.head ∷ []) (subst (λ (o : Option Numbered). IsReadBy remaining f r (without_head was) (of.given ++ option_to_list o)) head (without remaining f r was of.given of.read));
  are = here_more a.place came a refl
      ∙ ap (λ (those : List Arrival). those ++ a ∷ []) of.are
      ∙ ap (λ (x : Arrival). map (arrival_at a.place c) of.given ++ x ∷ []) (is ∙ ap (λ (k : Clock). arrival_at a.place k a.head) of.clock)
      ∙ sym (map-append (arrival_at a.place c) of.given (a.head ∷ []));
  at_hand = at_hand;
}

-- its next record is no sooner than that which was taken
next_by : {R Z : Type 0} (remaining : R → Option (List ℕ)) (f s : R) (given : List Numbered) (a : Arrival) (l : Lane Z) (n : Numbered)
    → IsReadBy remaining f s l (given ++ a.head ∷ []) → a ≡ arrival_at a.place l.clock a.head → l.head ≡ Some n → IsBy a (arrival_at a.place l.clock n)
next_by remaining f s given a l n read is head =
    let numbered : given ++ a.head ∷ n ∷ [] ≡ numbered_from 1 l.clock read.has.records =
    sym (append_assoc given (a.head ∷ []) (n ∷ [])) ∙ ap (λ (o : Option Numbered). (given ++ a.head ∷ []) ++ option_to_list o) (sym head) ∙ read.has.numbered in
    let rises = taken_rises (as_taking l.reader) read.has.records l.clock given a.head n read.has.taken numbered in
    let due : a.due ≡ due_at l.clock a.head.frame.stamp = ap (λ (x : Arrival). x.due) is in
    elim (cases_lt a.due (due_at l.clock n.frame.stamp)) [
      | inl lt ↦ inl lt
      | inr ge ↦ inr (omega (arith, rises, due, ge), omega arith)
    ]

pub goes_on : {R Z : Type 0} (remaining : R → Option (List ℕ)) (clocks : List Clock) (first now later : List R) (m new : Merging Z) (came : List Arrival) (mid : List (Lane Z)) (a : Arrival)
    → HasMerged remaining clocks first now m came → Takes m.lanes.items mid a → IsAdvanced remaining now later mid new.lanes.items a.place → 0 < length new.piece.items
    → HasMerged remaining clocks first later new (came ++ a ∷ [])
goes_on {R} {Z} remaining clocks first now later m new came mid a merged takes on room = record {
  room = room;
  many = ap length lanes ∙ length-set m.lanes.items a.place on.later ∙ merged.many;
  long = merged.long;
  readers = ap length on.readers ∙ length-set now a.place on.after ∙ merged.readers;
  each = each;
  within = all_more (λ (x : Arrival). x.place < length clocks) came a merged.within within;
  in_order = order_more came a merged.in_order (so_far_by remaining clocks first now m came mid a merged takes);
  up_to = up_to;
} where
  lanes : new.lanes.items ≡ set m.lanes.items a.place on.later
  lanes = on.lanes ∙ ap (λ (ls : List (Lane Z)). set ls a.place on.later) takes.lanes ∙ set_twice m.lanes.items a.place (without_head takes.lane) on.later

  within : a.place < length clocks
  within = let lt = slice_get_within m.lanes.items a.place takes.lane takes.at in let many = merged.many in omega (arith, lt, many)

  -- what was read on is the lane of which the record was taken
  was : on.lane ≡ without_head takes.lane
  was = elim (get-set m.lanes.items a.place a.place (without_head takes.lane) on.lane (ap (λ (ls : List (Lane Z)). slice_get ls a.place) (sym takes.lanes) ∙ on.at)) [
    | inl same ↦ same.1
    | inr other ↦ absurd (other.0 refl)
  ]

  clock : on.later.clock ≡ takes.lane.clock
  clock = on.clock ∙ ap (λ (l : Lane Z). l.clock) was

  here : (c : Clock) (f : R) → slice_get clocks a.place ≡ Some c → slice_get first a.place ≡ Some f → IsLaneOf remaining c f on.after (came ++ a ∷ []) a.place on.later
  here c f is_clock is_first =
      lane_on remaining c f on.reader on.after came a takes.lane on.later (merged.each a.place c f on.reader takes.lane is_clock is_first on.here takes.at) takes.head
      (is_arrival a m.lanes.items mid takes) clock on.at_hand
      (λ given read. on.on f given (subst (λ (l : Lane Z). IsReadBy remaining f on.reader l given) (sym was) read))

  each : (k : ℕ) (c : Clock) (f r : R) (l : Lane Z) → slice_get clocks k ≡ Some c → slice_get first k ≡ Some f → slice_get later k ≡ Some r → slice_get new.lanes.items k ≡ Some l
      → IsLaneOf remaining c f r (came ++ a ∷ []) k l
  each k c f r l is_clock is_first is_now at =
      elim (get-set m.lanes.items a.place k on.later l (ap (λ (ls : List (Lane Z)). slice_get ls k) (sym lanes) ∙ at)) [
        | inl same ↦ elim (get-set now a.place k on.after r (ap (λ (rs : List R). slice_get rs k) (sym on.readers) ∙ is_now)) [
          | inl also ↦
              subst (λ (j : ℕ). IsLaneOf remaining c f r (came ++ a ∷ []) j l) (sym same.0)
              (subst (λ (x : Lane Z). IsLaneOf remaining c f r (came ++ a ∷ []) a.place x) (sym same.1)
              (subst (λ (x : R). IsLaneOf remaining c f x (came ++ a ∷ []) a.place on.later) (sym also.1)
              (here c f (ap (slice_get clocks) (sym same.0) ∙ is_clock) (ap (slice_get first) (sym same.0) ∙ is_first))))
          | inr never ↦ absurd (never.0 same.0)
        ]
        | inr other ↦ elim (get-set now a.place k on.after r (ap (λ (rs : List R). slice_get rs k) (sym on.readers) ∙ is_now)) [
          | inl never ↦ absurd (other.0 never.0)
          | inr also ↦
              let of = merged.each k c f r l is_clock is_first also.1 other.1 in
              record { given = of.given; clock = of.clock; read = of.read; are = there_more k came a (λ same. other.0 (sym same)) ∙ of.are; at_hand = of.at_hand }
        ]
      ]

  -- what is at hand now is no sooner than the record that was taken
  next : (k : ℕ) (l : Lane Z) (n : Numbered) → slice_get new.lanes.items k ≡ Some l → l.head ≡ Some n → IsBy a (arrival_at k l.clock n)
  next k l n at head =
      elim (get-set m.lanes.items a.place k on.later l (ap (λ (ls : List (Lane Z)). slice_get ls k) (sym lanes) ∙ at)) [
        | inl same ↦
            let c = there clocks a.place within in
            let f = there first a.place (let long = merged.long in omega (arith, long, within)) in
            let of = merged.each a.place c.0 f.0 on.reader takes.lane c.1 f.1 on.here takes.at in
            let given = of.given ++ a.head ∷ [] in
            let read : IsReadBy remaining f.0 on.after on.later given =
            on.on f.0 given (subst (λ (x : Lane Z). IsReadBy remaining f.0 on.reader x given) (sym was)
            (subst (λ (o : Option Numbered). IsReadBy remaining f.0 on.reader (without_head takes.lane) (of.given ++ option_to_list o)) takes.head
            (without remaining f.0 on.reader takes.lane of.given of.read))) in
            let by = next_by remaining f.0 on.after of.given a on.later n read (is_arrival a m.lanes.items mid takes ∙ ap (λ (x : Clock). arrival_at a.place x a.head) (sym clock))
            (ap (λ (x : Lane Z). x.head) (sym same.1) ∙ head) in
            subst (λ (j : ℕ). IsBy a (arrival_at j l.clock n)) (sym same.0) (subst (λ (x : Lane Z). IsBy a (arrival_at a.place x.clock n)) (sym same.1) by)
        | inr other ↦ after_it a m.lanes.items k l n takes.first other.1 head
      ]

  up_to : (k : ℕ) (l : Lane Z) (n : Numbered) → slice_get new.lanes.items k ≡ Some l → l.head ≡ Some n → AllByRecursion (λ b. IsBy b (arrival_at k l.clock n)) (came ++ a ∷ [])
  up_to k l n at head =
      let by = next k l n at head in
      all_more (λ b. IsBy b (arrival_at k l.clock n)) came a
      (all_weaker (λ b. IsBy b a) (λ b. IsBy b (arrival_at k l.clock n)) (λ b sooner. by_joins b a (arrival_at k l.clock n) sooner by) came
      (so_far_by remaining clocks first now m came mid a merged takes))
      by

-- what was taken is written back to the vector
pub taken_back : {Z : Type 0} (v : Vec (Lane Z) Z) (ws : List (Lane Z)) (a : Arrival) → Takes v.items ws a → (with_items v ws).items ≡ ws
taken_back v ws a takes = back_items v ws (taken_long v.items ws a takes)

pub merges_on : {R Z : Type 0} (remaining : R → Option (List ℕ)) (clocks : List Clock) (first now later : List R) (m : Merging Z) (came : List Arrival) (ws vs : List (Lane Z))
    (ps : List ℕ) (a : Arrival)
    → HasMerged remaining clocks first now m came → Takes m.lanes.items ws a → IsAdvanced remaining now later ws vs a.place → length ps ≡ length m.piece.items
    → HasMerged remaining clocks first later (record { lanes = with_items (with_items m.lanes ws) vs; piece = with_items m.piece ps }) (came ++ a ∷ [])
merges_on {R} {Z} remaining clocks first now later m came ws vs ps a merged takes on same =
    let new : Merging Z = record { lanes = with_items (with_items m.lanes ws) vs; piece = with_items m.piece ps } in
    let taken = taken_back m.lanes ws a takes in
    let long : length vs ≡ length (with_items m.lanes ws).items = ap length on.lanes ∙ length-set ws a.place on.later ∙ ap length (sym taken) in
    let piece_is = ap length (back_items m.piece ps same) ∙ same in
    goes_on remaining clocks first now later m new came ws a merged takes
    (subst (λ (ls : List (Lane Z)). IsAdvanced remaining now later ws ls a.place) (sym (back_items (with_items m.lanes ws) vs long)) on) (subst (λ n. 0 < n) (sym piece_is) merged.room)

-- ---- the least instant of those at hand

set_there : {X : Type 0} (xs : List X) (k : ℕ) (x y : X) → slice_get xs k ≡ Some x → slice_get (set xs k y) k ≡ Some y
set_there [] k x y at = absurd cc
set_there (z ∷ xs) zero x y at = refl
set_there (z ∷ xs) (suc k) x y at = set_there xs k x y at

last_of : {X : Type 0} (P : X → Type 0) (xs : List X) (x : X) → AllByRecursion P (xs ++ x ∷ []) → P x
last_of P [] x all = all.0
last_of P (y ∷ xs) x all = last_of P xs x all.1

stamps_rise : (a : Arrival) (place : ℕ) (c : Clock) (n : Numbered) → a.due ≡ due_at c a.head.frame.stamp → IsBy a (arrival_at place c n) → a.head.frame.stamp ≤ n.frame.stamp
stamps_rise a place c n due (inl lt) = omega (arith, due, lt)
stamps_rise a place c n due (inr same) = let equal = same.0 in omega (arith, due, equal)

least_left : {R Z : Type 0} (remaining : R → Option (List ℕ)) (clocks : List Clock) (first now later : List R) (m new : Merging Z) (came : List Arrival) (mid : List (Lane Z)) (a : Arrival)
    → Takes m.lanes.items mid a → IsAdvanced remaining now later mid new.lanes.items a.place → HasMerged remaining clocks first later new (came ++ a ∷ [])
    → earlier_of (Some a.head.frame.stamp) (least_of new.lanes.items) ≡ least_of m.lanes.items
least_left {R} {Z} remaining clocks first now later m new came mid a takes on merged =
    ap (λ (ls : List (Lane Z)). earlier_of (Some a.head.frame.stamp) (least_of ls)) lanes
    ∙ least_taken m.lanes.items a.place takes.lane on.later a.head.frame.stamp takes.at (ap (λ (o : Option Numbered). option_map (λ (x : Numbered). x.frame.stamp) o) takes.head)
    (λ n is. by on.later.head refl n is) where
      lanes : new.lanes.items ≡ set m.lanes.items a.place on.later
      lanes = on.lanes ∙ ap (λ (ls : List (Lane Z)). set ls a.place on.later) takes.lanes ∙ set_twice m.lanes.items a.place (without_head takes.lane) on.later

      there_now : slice_get new.lanes.items a.place ≡ Some on.later
      there_now = ap (λ (ls : List (Lane Z)). slice_get ls a.place) lanes ∙ set_there m.lanes.items a.place takes.lane on.later takes.at

      was : on.lane ≡ without_head takes.lane
      was = elim (get-set m.lanes.items a.place a.place (without_head takes.lane) on.lane (ap (λ (ls : List (Lane Z)). slice_get ls a.place) (sym takes.lanes) ∙ on.at)) [
        | inl same ↦ same.1
        | inr other ↦ absurd (other.0 refl)
      ]

      due : a.due ≡ due_at on.later.clock a.head.frame.stamp
      due = due_is a m.lanes.items mid takes ∙ ap (λ (c : Clock). due_at c a.head.frame.stamp) (sym (on.clock ∙ ap (λ (l : Lane Z). l.clock) was))

      by : (o : Option Numbered) → on.later.head ≡ o → (n : ℕ) → option_map (λ (x : Numbered). x.frame.stamp) o ≡ Some n → a.head.frame.stamp ≤ n
      by None head n is = absurd cc
      by (Some x) head n is =
          subst (λ (k : ℕ). a.head.frame.stamp ≤ k) (same_Some x.frame.stamp n is)
          (stamps_rise a a.place on.later.clock x due
          (last_of (λ b. IsBy b (arrival_at a.place on.later.clock x)) came a (merged.up_to a.place on.later x there_now head)))

pub least_goes : {R Z : Type 0} (remaining : R → Option (List ℕ)) (clocks : List Clock) (first now later : List R) (m : Merging Z) (came : List Arrival) (ws vs : List (Lane Z))
    (ps : List ℕ) (a : Arrival)
    → HasMerged remaining clocks first now m came → Takes m.lanes.items ws a → IsAdvanced remaining now later ws vs a.place → length ps ≡ length m.piece.items
    → earlier_of (Some a.head.frame.stamp) (least_of (with_items (with_items m.lanes ws) vs).items) ≡ least_of m.lanes.items
least_goes {R} {Z} remaining clocks first now later m came ws vs ps a merged takes on same =
    let new : Merging Z = record { lanes = with_items (with_items m.lanes ws) vs; piece = with_items m.piece ps } in
    let taken = taken_back m.lanes ws a takes in
    let long : length vs ≡ length (with_items m.lanes ws).items = ap length on.lanes ∙ length-set ws a.place on.later ∙ ap length (sym taken) in
    least_left remaining clocks first now later m new came ws a takes
    (subst (λ (ls : List (Lane Z)). IsAdvanced remaining now later ws ls a.place) (sym (back_items (with_items m.lanes ws) vs long)) on)
    (merges_on remaining clocks first now later m came ws vs ps a merged takes on same)
