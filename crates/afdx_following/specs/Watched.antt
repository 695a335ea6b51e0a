-- Which frames of a link its account passed, and what left of them at its ports (profile).
use Rattle.std.specs.Prelude.{◌≡◌, ℕ, zero, suc, ◌≤◌, Bool, true, false, List, [], ◌∷◌, ◌++◌, map, length, Option, Some, None, slice_get, if◌then◌else◌}
use Rattle.std.specs.List.{list_all, list_any}
use Rattle.std.specs.Option.{option_map_or}
use Rattle.afdx_units.specs.Line.{size_of}
use Rattle.afdx_account.specs.declared.account.Account.{Account}
use Rattle.afdx_account.specs.Account.{account_terms}
use Rattle.afdx_levels.specs.declared.outlook.Outlook.{Outlook}
use Rattle.afdx_levels.specs.declared.outlook.Outlook.TheVariants.{Must, Never, Unsure}
use Rattle.afdx_levels.specs.Levels.{Levels, at_rest, unknown, credited, outlook_of, after, fate_told}
use Rattle.afdx_pairing.specs.Events.{Numbered}
use Rattle.afdx_following.specs.Output.{Output, has, is_over, left_by, stamped_by, with_came, with_waiting, paired_up_to, gone_on, with_end}
use Rattle.afdx_following.specs.Tally.{up, conforms_in}

-- a link that is watched: how it is policed and by how much stamps may be off, what is known of its account's level, the frames of which the
-- fate is not told yet, its ports, how many frames were unsure, the instant of the last that was taken, and whether a call has failed
pub record Watched : Type 0 where
  pub account : Account
  pub tolerance : ℕ
  pub levels : Levels
  pub undecided : List Numbered
  pub outputs : List Output
  pub unsure : ℕ
  pub latest : ℕ
  pub failed : Bool

-- what is known of the account at first: it was full, or nothing is known of it at an instant
abbrev pub levels_at_first : Account → ℕ → Option ℕ → Levels
levels_at_first account tolerance None = at_rest (account_terms account) tolerance
levels_at_first account tolerance (Some since) = unknown (account_terms account) tolerance since

-- a link with this account and these ports, of which nothing came or left
abbrev pub at_first : Account → ℕ → Option ℕ → List Output → Watched
at_first account tolerance since outputs = record {
  account = account;
  tolerance = tolerance;
  levels = levels_at_first account tolerance since;
  undecided = [];
  outputs = outputs;
  unsure = 0;
  latest = option_map_or (λ at. at) since 0;
  failed = false;
}

-- nothing speaks against the switch
abbrev pub conforms : Watched → Bool
conforms f = list_all (λ o. conforms_in o.found.tally) f.outputs

-- ---- one frame's fate

-- the size of a frame in bytes, its FCS counted
abbrev pub frame_size : Numbered → ℕ
frame_size n = size_of (length n.frame.bytes)

-- a frame that the link may send at all
abbrev pub Fits : Account → Numbered → Type 0
Fits account n = (account_terms account).price (frame_size n) ≤ (account_terms account).cap

-- what is known of the account's level when a frame comes
abbrev pub levels_at : Watched → Numbered → Levels
levels_at f n = credited (account_terms f.account) f.levels n.frame.stamp

-- what the account may do with the frame: it must pass it, never does, or is unsure
abbrev pub outlook_at : Watched → Numbered → Outlook
outlook_at f n = outlook_of (account_terms f.account) f.tolerance (frame_size n) (levels_at f n)

-- an unsure frame's fate can be told after all records that may be of it were taken, at all ports: by an instant, or in the end
abbrev pub can_tell : Option ℕ → List Output → Numbered → Outlook → Bool
can_tell at outputs n Must = true
can_tell at outputs n Never = true
can_tell None outputs n Unsure = true
can_tell (Some at) outputs n Unsure = list_all (λ o. is_over at n o) outputs

-- a frame that is unsure was passed exactly if a record at any port may be of it
abbrev pub fate_of : Watched → Numbered → Bool
fate_of f n = fate_told (outlook_at f n) (list_any (λ o. has n o) f.outputs)

-- one more, if the frame is unsure
abbrev pub counted : Outlook → ℕ → ℕ
counted Must count = count
counted Never count = count
counted Unsure count = up count

-- a link whose account learns the fate of a frame, which is handed to each port
abbrev pub with_fate : Numbered → Bool → Watched → Watched
with_fate n passes f = record f {
  levels = after (account_terms f.account) f.tolerance (frame_size n) passes (levels_at f n);
  outputs = map (λ o. with_came n passes o) f.outputs;
}

-- a link after a frame's fate was told, and counted if it was unsure
abbrev pub with_told : Numbered → Watched → Watched
with_told n f = with_fate n (fate_of f n) (record f { unsure = counted (outlook_at f n) f.unsure })

-- the first frame's fate, if it can be told
abbrev pub first_told : Option ℕ → List Numbered → Watched → Option Watched
first_told at [] f = None
first_told at (n ∷ ns) f = if can_tell at f.outputs n (outlook_at f n) then Some (with_told n (record f { undecided = ns })) else None

-- ---- what follows from what came and left before an instant, or from all

-- the fates of these frames, as far as they can be told one by one
abbrev pub decided : Option ℕ → List Numbered → Watched → Watched
decided at [] f = record f { undecided = [] }
decided at (n ∷ ns) f = if can_tell at f.outputs n (outlook_at f n) then decided at ns (with_told n f) else record f { undecided = n ∷ ns }

-- the instant before which no frame comes of which the fate is not told; none if there is no such frame
abbrev pub first_unknown : List Numbered → Option ℕ
first_unknown [] = None
first_unknown (n ∷ ns) = Some n.frame.stamp

-- a link at each of whose ports the records that left before any frame of unknown fate came are paired
abbrev pub with_paired : Watched → Watched
with_paired f = record f { outputs = map (λ o. paired_up_to (first_unknown f.undecided) o) f.outputs }

-- a link at each of whose ports the frames that may not leave any more are let go
abbrev pub with_gone : Option ℕ → Watched → Watched
with_gone None f = f
with_gone (Some at) f = record f { outputs = map (λ o. gone_on at o) f.outputs }

-- a link after all that follows once what came and left before this instant is known, or all is
abbrev pub settled_by : Option ℕ → Watched → Watched
settled_by at f = with_gone at (with_paired (decided at f.undecided f))

-- ---- what a link is told of

-- a link after a frame of its own came
abbrev pub with_own : Numbered → Watched → Watched
with_own n f = settled_by (Some n.frame.stamp) (record f { undecided = f.undecided ++ n ∷ []; latest = n.frame.stamp })

-- a list whose item at a place is changed
abbrev pub changed_at : {X : Type 0} → ℕ → (X → X) → List X → List X
changed_at place change [] = []
changed_at zero change (x ∷ xs) = change x ∷ xs
changed_at (suc place) change (x ∷ xs) = x ∷ changed_at place change xs

-- the latest instant at which by the stamps the line was free again after a record at the port at a place
abbrev pub left_by_at : ℕ → Numbered → Watched → ℕ
left_by_at place n f = option_map_or (λ o. left_by n o) (slice_get f.outputs place) 0

-- the latest instant at which by the stamps a record at the port at a place was recorded
abbrev pub stamped_by_at : ℕ → Numbered → Watched → ℕ
stamped_by_at place n f = option_map_or (λ o. stamped_by n o) (slice_get f.outputs place) 0

-- a link after a record left at the port at a place: what follows rests on its stamp and the tolerance alone. If the gap of a slower line
-- counted, a frame that may still leave a faster port would be taken for missing
abbrev pub with_record : ℕ → Numbered → Watched → Watched
with_record place n f =
    settled_by (Some (stamped_by_at place n f)) (record f { outputs = changed_at place (λ o. with_waiting n o) f.outputs; latest = left_by_at place n f })

-- a link after the end: records were recorded up to an instant, or all had left
abbrev pub with_ends : Option ℕ → Watched → Watched
with_ends last f = let all = settled_by None f in record all { outputs = map (λ o. with_end last o) all.outputs }

-- ---- what stands after an error

-- a call has failed: nothing else is said of the link, but if one had failed before, nothing has changed
pub record HasFailed (old new : Watched) : Type 0 where
  pub failed : new.failed ≡ true
  pub same : old.failed ≡ true → new ≡ old
