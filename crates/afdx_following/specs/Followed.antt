-- A link at which nothing speaks against the switch keeps to what is proved of ours: laws over what it is told of (profile).
use Rattle.std.specs.Prelude.{◌≡◌, ℕ, ◌<◌, ◌≤◌, ◌==◌, Bool, true, List, [], ◌∷◌, map, length, Option, Some, slice_get, if◌then◌else◌}
use Rattle.std.specs.List.{AllByRecursion}
use Rattle.afdx_units.specs.Line.{size_of}
use Rattle.afdx_pcap.specs.Record.{Record}
use Rattle.afdx_account.specs.declared.frame.Frame.{Frame}
use Rattle.afdx_account.specs.declared.account.Account.{Account}
use Rattle.afdx_account.specs.Account.{account_terms}
use Rattle.afdx_levels.specs.Levels.{Allowed}
use Rattle.afdx_levels.specs.Inner.Laws.{chosen}
use Rattle.afdx_pairing.specs.Events.{Numbered}
use Rattle.afdx_pairing.specs.Kept.{IsKeptFor}
use Rattle.afdx_following.specs.Output.{Output, IsFresh, last_at}
use Rattle.afdx_following.specs.Tally.{conforms_in}
use Rattle.afdx_following.specs.Watched.{Watched, at_first, Fits, with_own, left_by_at, with_record, with_ends}

-- what a link is told of: a frame that came, or a record that left at the port at a place
pub data Notice : Type 0 where
  Arrived : Numbered → Notice
  Departed : ℕ → Numbered → Notice

-- a link after it was told so
abbrev pub with_notice : Notice → Watched → Watched
with_notice (Arrived n) f = with_own n f
with_notice (Departed place n) f = with_record place n f

-- a link after it was told all of these, in order
abbrev pub with_notices : List Notice → Watched → Watched
with_notices [] f = f
with_notices (x ∷ xs) f = with_notices xs (with_notice x f)

-- each comes or leaves no sooner than those before it; a frame is one that the link may send, and a record left at a port of the link
abbrev pub IsNext : Watched → Notice → Type 0
IsNext f (Arrived n) = (f.latest ≤ n.frame.stamp) × Fits f.account n
IsNext f (Departed place n) = (place < length f.outputs) × (f.latest ≤ left_by_at place n f)

-- each of these comes or leaves so, after those before it
abbrev pub AreNext : Watched → List Notice → Type 0
AreNext f [] = Unit {0}
AreNext f (x ∷ xs) = IsNext f x × AreNext (with_notice x f) xs

-- the link's own frames that it is told of
abbrev pub own_in : List Notice → List Record
own_in [] = []
own_in (Arrived n ∷ xs) = n.frame ∷ own_in xs
own_in (Departed place n ∷ xs) = own_in xs

-- the records that it is told of at the port at a place
abbrev pub left_in : ℕ → List Notice → List Record
left_in place [] = []
left_in place (Arrived n ∷ xs) = left_in place xs
left_in place (Departed at n ∷ xs) = if at == place then n.frame ∷ left_in place xs else left_in place xs

-- a frame as its account judges it
abbrev pub judged : Record → Frame
judged r = record { stamp = r.stamp; size = size_of (length r.bytes) }

-- fates of the link's own frames (true: passed) that one level of its account explains, so that at each port at which nothing speaks against the
-- switch the records are what left of the frames that were passed
pub record IsExplained (first : Watched) (notices : List Notice) (last : Option ℕ) (fates : List Bool) : Type 0 where
  pub are_allowed : Allowed (account_terms first.account) first.tolerance first.levels (map judged (own_in notices)) fates
  pub kept : (place : ℕ) (o : Output) → slice_get (with_ends last (with_notices notices first)).outputs place ≡ Some o → conforms_in o.found.tally ≡ true
      → IsKeptFor o.limits (last_at o.limits last) (own_in notices) (chosen fates (own_in notices)) (left_in place notices)

-- however a link is followed, such fates explain what it was told
abbrev pub FollowedIsKept : Type 0
FollowedIsKept = (account : Account) (tolerance : ℕ) (since : Option ℕ) (outputs : List Output) (notices : List Notice) (last : Option ℕ)
    → tolerance ≤ 1000000000 → AllByRecursion IsFresh outputs → AreNext (at_first account tolerance since outputs) notices
    → (fates : List Bool) × IsExplained (at_first account tolerance since outputs) notices last fates
