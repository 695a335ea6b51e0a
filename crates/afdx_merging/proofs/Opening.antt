-- The first record of each capture is read.
use Rattle.std.proofs.Common.{◌≡◌, ℕ, ◌+◌, ◌<◌, ◌≤◌, List, [], map, length, length-set, slice_get, Option, Some, inl, inr, refl, ap, sym, ◌∙◌, arith, subst}
use Rattle.std.specs.Option.{option_map}
use Rattle.std.specs.declared.vec.Vec.{Vec}
use Rattle.std.specs.Vec.{with_items}
use Rattle.std.proofs.KnownBytes.{Consumes-nil}
use Rattle.std.proofs.lemmas.Bool.{cases_lt}
use Rattle.std.proofs.lemmas.List.{length-map}
use Rattle.std.proofs.lemmas.Option.{same_Some, slice_get_within, slice_get-map}
use Rattle.afdx_merging.specs.declared.clock.Clock.{Clock}
use Rattle.afdx_merging.specs.declared.lane.Lane.{Lane}
use Rattle.afdx_merging.specs.declared.merging.Merging.{Merging}
use Rattle.afdx_merging.specs.Inner.Lanes.{fresh_lane, IsReadBy}
use Rattle.afdx_merging.specs.Inner.Merging.{IsLaneOf, HasMerged, HaveNoFault, HasNoneAt, AreReadBy, IsAdvanced, AreOpened}
use Rattle.afdx_merging.proofs.Lists.{get-set, set_later, there, back_items}

-- the lanes before a place have their first records, the others are as they were
pub record IsOpening {R Z : Type 0} (remaining : R → Option (List ℕ)) (clocks : List Clock) (first now : List R) (lanes : List (Lane Z)) (n : ℕ) : Type 0 where
  pub many : length lanes ≡ length clocks
  pub readers : length now ≡ length clocks
  pub done : (k : ℕ) (c : Clock) (f r : R) (l : Lane Z) → k < n → slice_get clocks k ≡ Some c → slice_get first k ≡ Some f → slice_get now k ≡ Some r → slice_get lanes k ≡ Some l
      → IsLaneOf remaining c f r [] k l
  pub fresh : (k : ℕ) (c : Clock) → n ≤ k → slice_get clocks k ≡ Some c → slice_get lanes k ≡ Some (fresh_lane c)
  pub unread : (k : ℕ) → n ≤ k → slice_get now k ≡ slice_get first k

-- of a fresh lane nothing was read
fresh_read : {R Z : Type 0} (remaining : R → Option (List ℕ)) (f : R) (c : Clock) → IsReadBy {Z = Z} remaining f f (fresh_lane c) []
fresh_read remaining f c = record {
  has = record { records = []; no_fault = refl; taken = record { first = tt; count = refl }; count = refl; numbered = refl };
  bytes = Consumes-nil (remaining f);
  ended = λ closed. absurd (let never = closed in cc);
}

pub opens : {R Z : Type 0} (remaining : R → Option (List ℕ)) (clocks : List Clock) (first : List R) (lanes : List (Lane Z)) → lanes ≡ map (λ c. fresh_lane c) clocks → length first ≡ length clocks
    → IsOpening remaining clocks first first lanes 0
opens {R} {Z} remaining clocks first lanes are long = record {
  many = ap length are ∙ length-map clocks (λ (c : Clock). fresh_lane {Z = Z} c);
  readers = long;
  done = λ k c f r l lt. absurd (omega (arith, lt));
  fresh = λ k c le at. ap (λ (ls : List (Lane Z)). slice_get ls k) are ∙ slice_get-map (λ (x : Clock). fresh_lane {Z = Z} x) clocks k
      ∙ ap (λ (o : Option Clock). option_map (λ (x : Clock). fresh_lane {Z = Z} x) o) at;
  unread = λ k le. refl;
}

-- the lane at the next place is fresh
pub next_fresh : {R Z : Type 0} (remaining : R → Option (List ℕ)) (clocks : List Clock) (first now : List R) (lanes : List (Lane Z)) (n : ℕ) → IsOpening remaining clocks first now lanes n
    → (l : Lane Z) → slice_get lanes n ≡ Some l → (c : Clock) × (slice_get clocks n ≡ Some c) × (l ≡ fresh_lane c)
next_fresh remaining clocks first now lanes n opening l at =
    let lt = slice_get_within lanes n l at in
    let many = opening.many in
    let c = there clocks n (omega (arith, lt, many)) in
    (c.0, c.1, same_Some l (fresh_lane c.0) (sym at ∙ opening.fresh n c.0 (omega arith) c.1))

pub none_yet : {R Z : Type 0} (remaining : R → Option (List ℕ)) (clocks : List Clock) (first now : List R) (lanes : List (Lane Z)) (n : ℕ) → IsOpening remaining clocks first now lanes n
    → HasNoneAt lanes n
none_yet {R} {Z} remaining clocks first now lanes n opening = λ l at. ap (λ (x : Lane Z). x.head) (next_fresh remaining clocks first now lanes n opening l at).2

-- each up to the next place has what its reader gave
pub read_so_far : {R Z : Type 0} (remaining : R → Option (List ℕ)) (clocks : List Clock) (first now : List R) (lanes : List (Lane Z)) (n : ℕ) → IsOpening remaining clocks first now lanes n
    → length first ≡ length clocks → AreReadBy remaining first now lanes (n + 1)
read_so_far {R} {Z} remaining clocks first now lanes n opening long = λ k f r l lt is_first is_now at. elim (cases_lt k n) [
  | inl before ↦
      let within = slice_get_within first k f is_first in
      let c = there clocks k (omega (arith, within, long)) in
      let of = opening.done k c.0 f r l before c.1 is_first is_now at in
      (of.given, of.read)
  | inr ge ↦
      let same : k ≡ n = omega (arith, lt, ge) in
      let is = next_fresh remaining clocks first now lanes n opening l (ap (slice_get lanes) (sym same) ∙ at) in
      let reader : f ≡ r = same_Some f r (sym is_first ∙ sym (opening.unread k ge) ∙ is_now) in
      ([], subst (λ (x : Lane Z). IsReadBy remaining f r x []) (sym is.2) (subst (λ (x : R). IsReadBy {Z = Z} remaining f x (fresh_lane is.0) []) reader (fresh_read remaining f is.0)))
]

pub none_faulty_yet : {R Z : Type 0} (remaining : R → Option (List ℕ)) (clocks : List Clock) (first now : List R) (lanes : List (Lane Z)) (n : ℕ) → IsOpening remaining clocks first now lanes n
    → length first ≡ length clocks → HaveNoFault lanes (n + 1)
none_faulty_yet remaining clocks first now lanes n opening long = λ k l lt at.
    let within = slice_get_within lanes k l at in
    let many = opening.many in
    let readers = opening.readers in
    let f = there first k (omega (arith, within, many, long)) in
    let r = there now k (omega (arith, within, many, readers)) in
    (read_so_far remaining clocks first now lanes n opening long k f.0 r.0 l lt f.1 r.1 at).1.has.no_fault

-- one more was read
pub opens_more : {R Z : Type 0} (remaining : R → Option (List ℕ)) (clocks : List Clock) (first now later : List R) (lanes new : List (Lane Z)) (n : ℕ) → IsOpening remaining clocks first now lanes n
    → length first ≡ length clocks → IsAdvanced remaining now later lanes new n → IsOpening remaining clocks first later new (n + 1)
opens_more {R} {Z} remaining clocks first now later lanes new n opening long on = record {
  many = ap length on.lanes ∙ length-set lanes n on.later ∙ opening.many;
  readers = ap length on.readers ∙ length-set now n on.after ∙ opening.readers;
  done = done;
  fresh = λ k c le at. ap (λ (ls : List (Lane Z)). slice_get ls k) on.lanes ∙ set_later lanes n k on.later (omega (arith, le)) ∙ opening.fresh k c (omega (arith, le)) at;
  unread = λ k le. ap (λ (rs : List R). slice_get rs k) on.readers ∙ set_later now n k on.after (omega (arith, le)) ∙ opening.unread k (omega (arith, le));
} where
  done : (k : ℕ) (c : Clock) (f r : R) (l : Lane Z) → k < n + 1 → slice_get clocks k ≡ Some c → slice_get first k ≡ Some f → slice_get later k ≡ Some r → slice_get new k ≡ Some l
      → IsLaneOf remaining c f r [] k l
  done k c f r l lt is_clock is_first is_now at =
      elim (get-set lanes n k on.later l (ap (λ (ls : List (Lane Z)). slice_get ls k) (sym on.lanes) ∙ at)) [
        | inl same ↦ elim (get-set now n k on.after r (ap (λ (rs : List R). slice_get rs k) (sym on.readers) ∙ is_now)) [
          | inl also ↦
              let is = next_fresh remaining clocks first now lanes n opening on.lane on.at in
              let of_clock : is.0 ≡ c = same_Some is.0 c (sym is.1 ∙ ap (slice_get clocks) (sym same.0) ∙ is_clock) in
              let reader : f ≡ on.reader = same_Some f on.reader (sym is_first ∙ ap (slice_get first) same.0 ∙ sym (opening.unread n (omega arith)) ∙ on.here) in
              let fresh : IsReadBy remaining f on.reader on.lane [] =
              subst (λ (x : Lane Z). IsReadBy remaining f on.reader x []) (sym is.2) (subst (λ (x : R). IsReadBy {Z = Z} remaining f x (fresh_lane is.0) []) reader (fresh_read remaining f is.0)) in
              subst (λ (x : Lane Z). IsLaneOf remaining c f r [] k x) (sym same.1) (record {
                given = [];
                clock = on.clock ∙ ap (λ (x : Lane Z). x.clock) is.2 ∙ of_clock;
                read = subst (λ (x : R). IsReadBy remaining f x on.later []) (sym also.1) (on.on f [] fresh);
                are = refl;
                at_hand = on.at_hand;
              })
          | inr never ↦ absurd (never.0 same.0)
        ]
        | inr other ↦ elim (get-set now n k on.after r (ap (λ (rs : List R). slice_get rs k) (sym on.readers) ∙ is_now)) [
          | inl never ↦ absurd (other.0 never.0)
          | inr also ↦ opening.done k c f r l (before k lt other.0) is_clock is_first also.1 other.1
        ]
      ]
    where
      before : (k : ℕ) → k < n + 1 → (k ≡ n → ⊥) → k < n
      before k lt other = elim (cases_lt k n) [
        | inl lt ↦ lt
        | inr ge ↦ absurd (other (omega (arith, lt, ge)))
      ]

pub opened : {R Z : Type 0} (remaining : R → Option (List ℕ)) (clocks : List Clock) (first now : List R) (lanes : List (Lane Z)) (n : ℕ) → IsOpening remaining clocks first now lanes n
    → length lanes ≤ n → AreOpened remaining clocks first now lanes
opened remaining clocks first now lanes n opening past = record {
  many = opening.many;
  readers = opening.readers;
  each = λ k c f r l is_clock is_first is_now at. let lt = slice_get_within lanes k l at in opening.done k c f r l (omega (arith, lt, past)) is_clock is_first is_now at;
}

-- nothing was handed out
pub nothing_merged : {R Z : Type 0} (remaining : R → Option (List ℕ)) (clocks : List Clock) (first now : List R) (m : Merging Z) → AreOpened remaining clocks first now m.lanes.items
    → length first ≡ length clocks → 0 < length m.piece.items → HasMerged remaining clocks first now m []
nothing_merged remaining clocks first now m opened long room = record {
  room = room;
  many = opened.many;
  long = long;
  readers = opened.readers;
  each = opened.each;
  within = tt;
  in_order = tt;
  up_to = λ place l n at head. tt;
}

pub merged_first : {R Z : Type 0} (remaining : R → Option (List ℕ)) (clocks : List Clock) (first now : List R) (lanes : Vec (Lane Z) Z) (piece : Vec ℕ Z) (ws : List (Lane Z)) (ps : List ℕ)
    → lanes.items ≡ map (λ c. fresh_lane c) clocks → AreOpened remaining clocks first now ws → length first ≡ length clocks → 0 < length ps → length ps ≡ length piece.items
    → HasMerged remaining clocks first now (record { lanes = with_items lanes ws; piece = with_items piece ps }) []
merged_first {R} {Z} remaining clocks first now lanes piece ws ps are opened long room same =
    let m : Merging Z = record { lanes = with_items lanes ws; piece = with_items piece ps } in
    let many = opened.many ∙ sym (ap length are ∙ length-map clocks (λ (c : Clock). fresh_lane {Z = Z} c)) in
    let piece_is = ap length (back_items piece ps same) in
    nothing_merged remaining clocks first now m (subst (AreOpened remaining clocks first now) (sym (back_items lanes ws many)) opened) long (subst (λ n. 0 < n) (sym piece_is) room)
