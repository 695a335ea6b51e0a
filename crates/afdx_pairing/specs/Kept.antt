-- Which records left a port for a link, and which frames they are, if recordings begin and end somewhere (profile).
use Rattle.std.specs.Prelude.{◌≡◌, ℕ, ◌+◌, ◌<◌, ◌≤◌, Bool, true, false, List, [], ◌∷◌, ◌++◌, map, length, Option, Some, None}
use Rattle.std.specs.List.{AllByRecursion, AllZip}
use Rattle.afdx_units.specs.Line.{size_of, cost_of}
use Rattle.afdx_pcap.specs.Record.{Record}
use Rattle.afdx_pairing.specs.declared.limits.Limits.{Limits}
use Rattle.afdx_pairing.specs.declared.event.Event.{Event}
use Rattle.afdx_pairing.specs.Events.{Numbered, differs}
use Rattle.afdx_pairing.specs.Limits.{left_at, most_of, came_within}
use Rattle.afdx_pairing.specs.Pairing.{Pairing, at_first, with_frame, with_left, kept_at, gone_told, left_told, end_told}

-- ---- the relation

-- a frame that came has left no sooner than the least latency and its line time after it came, and no later than the port's bound
-- for the link's priority, as far as the stamps tell
pub record IsInBound (m : Limits) (came left : Record) : Type 0 where
  pub least : came.stamp + m.least + cost_of m.speed (size_of (length came.bytes)) ≤ left_at m left + m.tolerance
  pub most : left_at m left ≤ came.stamp + most_of m

-- a record has the bytes of none of these frames that came before it left, at most twice the bound before
abbrev pub Apart : Limits → List Record → Record → Type 0
Apart m own left = AllByRecursion (λ f. came_within m 2 f left ≡ false) own

-- a frame may leave after the instant at which the records end; not if all had left
abbrev pub MayCome : Limits → Option ℕ → Record → Type 0
MayCome m None f = ⊥
MayCome m (Some last) f = last < f.stamp + most_of m

-- the bytes of records, in order
abbrev pub bytes_of : List Record → List (List ℕ)
bytes_of records = map (λ r. r.bytes) records

-- a port's records for a link are the frames that its account passed, one by one, in order and within bounds; but some at the beginning may
-- be of earlier frames, and some passed frames at the end may leave later
pub record IsKeptFor (m : Limits) (last : Option ℕ) (own passed out : List Record) : Type 0 where
  pub before : List Record
  pub seen : List Record
  pub gone : List Record
  pub after : List Record
  pub out_is : out ≡ before ++ seen
  pub passed_is : passed ≡ gone ++ after
  pub same_bytes : bytes_of seen ≡ bytes_of gone
  pub in_bound : AllZip (IsInBound m) gone seen
  pub from_before : AllByRecursion (λ r. left_at m r < m.before) before
  pub of_none : AllByRecursion (Apart m own) before
  pub to_come : AllByRecursion (MayCome m last) after

-- ---- what is told of a recording

-- what is seen of a link at a port, in order: a frame came, with whether its account passed it; a record left; or nothing leaves before an
-- instant any more
pub data Sight : Type 0 where
  Came : Numbered → Bool → Sight
  Left : Numbered → Sight
  Until : ℕ → Sight

-- the frames that came
abbrev pub own_of : List Sight → List Record
own_of [] = []
own_of (Came n passes ∷ sights) = n.frame ∷ own_of sights
own_of (Left n ∷ sights) = own_of sights
own_of (Until at ∷ sights) = own_of sights

-- the frames that came and were passed
abbrev pub passed_of : List Sight → List Record
passed_of [] = []
passed_of (Came n true ∷ sights) = n.frame ∷ passed_of sights
passed_of (Came n false ∷ sights) = passed_of sights
passed_of (Left n ∷ sights) = passed_of sights
passed_of (Until at ∷ sights) = passed_of sights

-- the records that left
abbrev pub left_of : List Sight → List Record
left_of [] = []
left_of (Came n passes ∷ sights) = left_of sights
left_of (Left n ∷ sights) = n.frame ∷ left_of sights
left_of (Until at ∷ sights) = left_of sights

-- a record is taken after all frames that came before it left, and after all records that left before it. After an instant before which
-- nothing leaves any more, no record is taken that left before it
abbrev pub AreInOrder : Limits → List Sight → Type 0
AreInOrder m [] = Unit {0}
AreInOrder m (Came n passes ∷ sights) = AreInOrder m sights
AreInOrder m (Left n ∷ sights) =
    AllByRecursion (λ f. left_at m n.frame ≤ f.stamp) (own_of sights) × AllByRecursion (λ r. left_at m n.frame ≤ left_at m r) (left_of sights) × AreInOrder m sights
AreInOrder m (Until at ∷ sights) = AllByRecursion (λ r. at ≤ left_at m r) (left_of sights) × AreInOrder m sights

-- what is held after one of these
abbrev pub after_one : Pairing → Sight → Pairing
after_one p (Came n passes) = with_frame p n passes
after_one p (Left n) = with_left p n
after_one p (Until at) = kept_at at p

-- what is told at one of these
abbrev pub told_by_one : Pairing → Sight → List Event
told_by_one p (Came n passes) = []
told_by_one p (Left n) = left_told p n
told_by_one p (Until at) = gone_told at p

-- what is held after all of these
abbrev pub after_all : Pairing → List Sight → Pairing
after_all p [] = p
after_all p (s ∷ sights) = after_all (after_one p s) sights

-- what all of these tell
abbrev pub told_by_all : Pairing → List Sight → List Event
told_by_all p [] = []
told_by_all p (s ∷ sights) = told_by_one p s ++ told_by_all (after_one p s) sights

-- what all of these tell, and what becomes of the frames that wait in the end
abbrev pub all_told : Pairing → Option ℕ → List Sight → List Event
all_told p last sights = told_by_all p sights ++ end_told (after_all p sights) last

-- an event does not speak against a switch
abbrev pub IsFine : Event → Type 0
IsFine e = differs e ≡ false

-- if nothing speaks against a switch, the records are what left of the frames
abbrev pub FineIsKept : Type 0
FineIsKept = (m : Limits) (last : Option ℕ) (sights : List Sight) → AreInOrder m sights
    → AllByRecursion IsFine (all_told (at_first m) last sights) → IsKeptFor m last (own_of sights) (passed_of sights) (left_of sights)
