-- Captures that are read side by side.
use Rattle.std.specs.Prelude.{◌≡◌, ℕ, ◌<◌, ◌≤◌, List, [], ◌∷◌, map, length, set, slice_get, Option, Some, None, nat_lt, if◌then◌else◌}
use Rattle.std.specs.List.{AllByRecursion}
use Rattle.std.specs.Io.KnownBytes.{IsAtEnd}
use Rattle.std.specs.Option.{option_map}
use Rattle.afdx_units.specs.Time.{earlier_of}
use Rattle.afdx_pcap.specs.declared.fault.PcapFault.{PcapFault}
use Rattle.afdx_earliest.specs.Instants.{IsFirstUpTo}
use Rattle.afdx_pairing.specs.Events.{Numbered}
use Rattle.afdx_merging.specs.declared.clock.Clock.{Clock}
use Rattle.afdx_merging.specs.declared.fault.MergeFault.{MergeFault}
use Rattle.afdx_merging.specs.declared.fault.MergeFault.TheVariants as fault
use Rattle.afdx_merging.specs.declared.lane.Lane.{Lane}
use Rattle.afdx_merging.specs.declared.lane.LaneFault.{LaneFault}
use Rattle.afdx_merging.specs.declared.merging.Merging.{Merging}
use Rattle.afdx_merging.specs.Merge.{due_at, Arrival, arrival_at, at_place, IsBy, AreInOrder}
use Rattle.afdx_merging.specs.Inner.Lanes.{without_head, IsAtHand, IsReadBy, IsStopped, IsReadOut}

-- the instant by which a lane's next record is in order; none at the end
abbrev pub due_of : {Z : Type 0} → Lane Z → Option ℕ
due_of l = option_map (λ n. due_at l.clock n.frame.stamp) l.head

-- the instants by which the next records of lanes are in order
abbrev pub dues_of : {Z : Type 0} → List (Lane Z) → List (Option ℕ)
dues_of lanes = map (λ l. due_of l) lanes

-- the stamp of a lane's next record
abbrev pub stamp_of : {Z : Type 0} → Lane Z → Option ℕ
stamp_of l = option_map (λ n. n.frame.stamp) l.head

-- the least stamp of the records that are at hand
abbrev pub least_of : {Z : Type 0} → List (Lane Z) → Option ℕ
least_of [] = None
least_of (l ∷ lanes) = earlier_of (stamp_of l) (least_of lanes)

-- of two places with their instants the sooner, and of equal ones the former; this one may have none
abbrev pub sooner : Option (ℕ × ℕ) → ℕ → Option ℕ → Option (ℕ × ℕ)
sooner found place None = found
sooner None place (Some due) = Some (place, due)
sooner (Some found) place (Some due) = if nat_lt due found.1 then Some (place, due) else Some found

-- the lane at a place handed out the arrivals from there, which its reader gave, and has the next one at hand
pub record IsLaneOf {R Z : Type 0} (remaining : R → Option (List ℕ)) (c : Clock) (first now : R) (arrivals : List Arrival) (place : ℕ) (l : Lane Z) : Type 0 where
  pub given : List Numbered
  pub clock : l.clock ≡ c
  pub read : IsReadBy remaining first now l given
  pub are : at_place place arrivals ≡ map (arrival_at place c) given
  pub at_hand : IsAtHand l

-- all lanes handed out these arrivals, in order; readers gave this at first, and give that now
pub record HasMerged {R Z : Type 0} (remaining : R → Option (List ℕ)) (clocks : List Clock) (first now : List R) (m : Merging Z) (arrivals : List Arrival) : Type 0 where
  pub room : 0 < length m.piece.items
  pub many : length m.lanes.items ≡ length clocks
  pub long : length first ≡ length clocks
  pub readers : length now ≡ length clocks
  pub each : (place : ℕ) (c : Clock) (f r : R) (l : Lane Z) → slice_get clocks place ≡ Some c → slice_get first place ≡ Some f → slice_get now place ≡ Some r
      → slice_get m.lanes.items place ≡ Some l → IsLaneOf remaining c f r arrivals place l
  pub within : AllByRecursion (λ a. a.place < length clocks) arrivals
  pub in_order : AreInOrder arrivals
  pub up_to : (place : ℕ) (l : Lane Z) (n : Numbered) → slice_get m.lanes.items place ≡ Some l → l.head ≡ Some n
      → AllByRecursion (λ a. IsBy a (arrival_at place l.clock n)) arrivals

-- of the reader at a place it is not known what it gives: memory ran out, or it failed
abbrev pub IsUnreadAt : ℕ → MergeFault → Type 0
IsUnreadAt place fault.Memory = Unit {0}
IsUnreadAt place (fault.Read at) = at ≡ place
IsUnreadAt place (fault.Capture at why) = ⊥

-- ---- the next record is taken, and its capture is read on

-- the lanes before a place have no fault
abbrev pub HaveNoFault : {Z : Type 0} → List (Lane Z) → ℕ → Type 0
HaveNoFault {Z} lanes n = (k : ℕ) (l : Lane Z) → k < n → slice_get lanes k ≡ Some l → l.reader.fault ≡ None

-- the lane at a place has no record at hand
abbrev pub HasNoneAt : {Z : Type 0} → List (Lane Z) → ℕ → Type 0
HasNoneAt {Z} lanes place = (l : Lane Z) → slice_get lanes place ≡ Some l → l.head ≡ None

-- the lanes before a place have what their readers gave, which gave this at first
abbrev pub AreReadBy : {R Z : Type 0} → (R → Option (List ℕ)) → List R → List R → List (Lane Z) → ℕ → Type 0
AreReadBy {R} {Z} remaining first now lanes n = (k : ℕ) (f r : R) (l : Lane Z) → k < n → slice_get first k ≡ Some f → slice_get now k ≡ Some r → slice_get lanes k ≡ Some l
    → (given : List Numbered) × IsReadBy remaining f r l given

-- the first record of all that are at hand was taken from its lane
pub record Takes {Z : Type 0} (old new : List (Lane Z)) (a : Arrival) : Type 0 where
  pub lane : Lane Z
  pub at : slice_get old a.place ≡ Some lane
  pub head : lane.head ≡ Some a.head
  pub first : IsFirstUpTo (dues_of old) (length old) a.place a.due
  pub lanes : new ≡ set old a.place (without_head lane)

-- the capture at a place was read on, until its next record is at hand, or to its end
pub record IsAdvanced {R Z : Type 0} (remaining : R → Option (List ℕ)) (before now : List R) (old new : List (Lane Z)) (place : ℕ) : Type 0 where
  pub lane : Lane Z
  pub later : Lane Z
  pub reader : R
  pub after : R
  pub at : slice_get old place ≡ Some lane
  pub here : slice_get before place ≡ Some reader
  pub lanes : new ≡ set old place later
  pub readers : now ≡ set before place after
  pub clock : later.clock ≡ lane.clock
  pub at_hand : IsAtHand later
  pub on : (first : R) (given : List Numbered) → IsReadBy remaining first reader lane given → IsReadBy remaining first after later given

-- of all captures the first record is at hand, or there is none
pub record AreOpened {R Z : Type 0} (remaining : R → Option (List ℕ)) (clocks : List Clock) (first now : List R) (lanes : List (Lane Z)) : Type 0 where
  pub many : length lanes ≡ length clocks
  pub readers : length now ≡ length clocks
  pub each : (place : ℕ) (c : Clock) (f r : R) (l : Lane Z) → slice_get clocks place ≡ Some c → slice_get first place ≡ Some f → slice_get now place ≡ Some r
      → slice_get lanes place ≡ Some l → IsLaneOf remaining c f r [] place l

-- ---- which failure is answered

-- the readers from one place to another are at their ends
abbrev pub AreAtEnd : {R : Type 0} → (R → Option (List ℕ)) → List R → ℕ → ℕ → Type 0
AreAtEnd {R} remaining readers from to = (k : ℕ) (r : R) → from ≤ k → k < to → slice_get readers k ≡ Some r → IsAtEnd (remaining r)

-- of a reader before a place it is not known what it gives, and those from another place up to it are at their ends
abbrev pub IsUnread : {R : Type 0} → (R → Option (List ℕ)) → List R → ℕ → ℕ → MergeFault → Type 0
IsUnread remaining readers from to fault.Memory = Unit {0}
IsUnread remaining readers from to (fault.Read place) = (place < to) × AreAtEnd remaining readers from place
IsUnread remaining readers from to (fault.Capture place why) = ⊥

-- the capture at a place was not read on for this, and those before it have what their readers gave
pub record AreStoppedAt {R Z : Type 0} (remaining : R → Option (List ℕ)) (first now : List R) (lanes : List (Lane Z)) (place : ℕ) (why : LaneFault) : Type 0 where
  pub long : length first ≡ length now
  pub within : place < length now
  pub here : (f r : R) → slice_get first place ≡ Some f → slice_get now place ≡ Some r → IsStopped remaining f r why
  pub before : AreReadBy remaining first now lanes place

-- the reader at a place is the first of all that gives a fault
pub record IsFirstOut {R : Type 0} (remaining : R → Option (List ℕ)) (first : List R) (place : ℕ) (why : PcapFault) : Type 0 where
  pub here : (f : R) → slice_get first place ≡ Some f → IsReadOut remaining f (Some why)
  pub before : (k : ℕ) (f : R) → k < place → slice_get first k ≡ Some f → IsReadOut remaining f None

-- the first of the readers before a place that gives a fault, if one does
abbrev pub IsFoundBefore : {R : Type 0} → (R → Option (List ℕ)) → List R → ℕ → Option (ℕ × PcapFault) → Type 0
IsFoundBefore {R} remaining first n None = (k : ℕ) (f : R) → k < n → slice_get first k ≡ Some f → IsReadOut remaining f None
IsFoundBefore {R} remaining first n (Some found) = (found.0 < n) × IsFirstOut remaining first found.0 found.1

-- the first of two faults, the second of which may be this one at a place
abbrev pub first_found : Option (ℕ × PcapFault) → ℕ → Option PcapFault → Option (ℕ × PcapFault)
first_found (Some found) place why = Some found
first_found None place None = None
first_found None place (Some why) = Some (place, why)
