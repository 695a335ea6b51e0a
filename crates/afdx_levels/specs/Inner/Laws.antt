-- The laws of what is known of a level: what it has to do with accounts, how it grows, and what hides in it.
use Rattle.std.specs.Prelude.{◌≡◌, ◌↔◌, ℕ, ◌+◌, ◌*◌, ◌-◌, ◌≤◌, List, [], ◌∷◌, Bool, true, IsTrue, nat_le, max, if◌then◌else◌}
use Rattle.std.specs.List.{AllByRecursion, AllZip}
use Rattle.afdx_account.specs.declared.frame.Frame.{Frame}
use Rattle.afdx_account.specs.Policing.{Terms, passed_frames}
use Rattle.afdx_account.specs.Level.{InOrder, credited_level}
use Rattle.afdx_levels.specs.declared.outlook.Outlook.TheVariants.{Must}
use Rattle.afdx_levels.specs.Levels.{Levels, slack_of, at_rest, unknown, credited, outlook_of, may_be, after, Allowed, fate_told, fates_told}

-- ---- an account of which all is known

-- the fates that an account with this level at the instant `since` gives these frames, step by step
abbrev pub fates_from : Terms → ℕ → ℕ → List Frame → List Bool
fates_from t level since [] = []
fates_from t level since (f ∷ fs) =
    let now = credited_level t level (f.stamp - since) in
    let passes = nat_le (t.price f.size) now in
    passes ∷ fates_from t (if passes then now - t.price f.size else now) f.stamp fs

-- the elements of a list whose fate is to be passed
abbrev pub chosen : {A : Type 0} → List Bool → List A → List A
chosen [] xs = []
chosen (passes ∷ fates) [] = []
chosen (passes ∷ fates) (x ∷ xs) = if passes then x ∷ chosen fates xs else chosen fates xs

-- no frame costs more than a full account has: so it is of all that a link may send at all
abbrev pub AllFit : Terms → List Frame → Type 0
AllFit t frames = AllByRecursion (λ f. t.price f.size ≤ t.cap) frames

-- without noise fates are allowed exactly if there is a level, within what is known, whose account gives them
abbrev pub AllowedIsALevel : Type 0
AllowedIsALevel = (t : Terms) (l : Levels) (frames : List Frame) (fates : List Bool) → l.least ≤ l.most → AllFit t frames
    → Allowed t 0 l frames fates ↔ ((level : ℕ) × (l.least ≤ level) × (level ≤ l.most) × (fates_from t level l.since frames ≡ fates))

-- at rest and without noise these are the fates of the policing's own account, and no others
abbrev pub AtRestIsTheAccount : Type 0
AtRestIsTheAccount = (t : Terms) (frames : List Frame) (fates : List Bool) → AllFit t frames
    → Allowed t 0 (at_rest t 0) frames fates ↔ (fates ≡ fates_from t t.cap 0 frames)

-- at rest and without noise the frames that fates choose are those that policing passes
abbrev pub AccountsChooseWhatConforms : Type 0
AccountsChooseWhatConforms = (t : Terms) (frames : List Frame) → InOrder 0 frames → chosen (fates_from t t.cap 0 frames) frames ≡ passed_frames t frames

-- ---- knowledge

-- the fates that are told are allowed, whatever is seen of the unsure frames
abbrev pub ToldIsAllowed : Type 0
ToldIsAllowed = (t : Terms) (tolerance : ℕ) (is_seen : Frame → Bool) (l : Levels) (frames : List Frame) → l.least ≤ l.most → AllFit t frames
    → Allowed t tolerance l frames (fates_told t tolerance is_seen l frames)

-- each fate that is told may be, one by one
abbrev pub FateMayBe : Type 0
FateMayBe = (t : Terms) (tolerance size : ℕ) (l : Levels) (seen : Bool) → l.least ≤ l.most
    → IsTrue (may_be t tolerance size l (fate_told (outlook_of t tolerance size l) seen))

-- how much is unknown of a level, in units
abbrev pub width : Levels → ℕ
width l = l.most - l.least

-- what is not known of a level never grows, but for the noise
abbrev pub KnowledgeNeverShrinks : Type 0
KnowledgeNeverShrinks = (t : Terms) (tolerance : ℕ) (l : Levels) (at size : ℕ) (passes : Bool) → t.price size ≤ t.cap
    → IsTrue (may_be t tolerance size (credited t l at) passes)
    → width (after t tolerance size passes (credited t l at)) ≤ max (width l) (2 * slack_of t tolerance)

-- after a silence in which an account is filled, whatever it had, it is known as well as one that was at rest
abbrev pub SilenceTells : Type 0
SilenceTells = (t : Terms) (tolerance : ℕ) (l : Levels) (at size : ℕ) → t.price size ≤ t.cap → l.least ≤ l.most
    → t.cap + 2 * slack_of t tolerance ≤ t.rate * (at - l.since)
    → (outlook_of t tolerance size (credited t l at) ≡ Must)
    × (after t tolerance size true (credited t l at) ≡ after t tolerance size true (credited t (at_rest t tolerance) at))

-- ---- noise

-- a frame, and how it was recorded
pub record IsNear (tolerance : ℕ) (came seen : Frame) : Type 0 where
  pub size : came.size ≡ seen.size
  pub late : seen.stamp ≤ came.stamp + tolerance
  pub early : came.stamp ≤ seen.stamp + tolerance

-- if the account was full at first, what it did with what came is allowed of what was recorded, however the stamps are off within the
-- tolerance
abbrev pub NoiseIsAllowedAtRest : Type 0
NoiseIsAllowedAtRest = (t : Terms) (tolerance : ℕ) (came seen : List Frame) → InOrder 0 came → InOrder 0 seen → AllFit t seen
    → AllZip (IsNear tolerance) came seen
    → Allowed t tolerance (at_rest t tolerance) seen (fates_from t t.cap 0 came)

-- what an account did with what came is allowed of what was recorded, whatever level it had at the instant from which on all was recorded
abbrev pub NoiseIsAllowed : Type 0
NoiseIsAllowed = (t : Terms) (tolerance level since : ℕ) (came seen : List Frame) → level ≤ t.cap → InOrder since came → InOrder since seen → AllFit t seen
    → AllZip (IsNear tolerance) came seen
    → Allowed t tolerance (unknown t tolerance since) seen (fates_from t level since came)

-- the terms of a link whose jitter is twice the tolerance more
abbrev pub loosened : ℕ → Terms → Terms
loosened tolerance t = record { cap = t.cap + 2 * slack_of t tolerance; rate = t.rate; price = t.price }

-- no surplus hides in the noise, nor in what is not known: all that is allowed to pass conforms to terms of so much more jitter
abbrev pub SurplusIsJitter : Type 0
SurplusIsJitter = (t : Terms) (tolerance : ℕ) (l : Levels) (frames : List Frame) (fates : List Bool) → l.most ≤ t.cap + 2 * slack_of t tolerance
    → InOrder l.since frames → AllFit t frames → Allowed t tolerance l frames fates
    → passed_frames (loosened tolerance t) (chosen fates frames) ≡ chosen fates frames
