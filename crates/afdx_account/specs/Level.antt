-- The level of an account, and what it is after a list of frames.
use Rattle.std.specs.Prelude.{◌≡◌, ℕ, ◌+◌, ◌*◌, ◌-◌, ◌≤◌, List, [], ◌∷◌, ◌++◌, Bool, min, nat_le, if◌then◌else◌}
use Rattle.std.specs.List.{AllByRecursion}
use Rattle.afdx_account.specs.declared.frame.Frame.{Frame}
use Rattle.afdx_account.specs.Policing.{Terms, paid, allowance, conforms, passed_frames}

-- the most that can be sent at an instant after these frames: of each window that begins with one of
-- them, what is left of its allowance
abbrev pub headroom : Terms → List Frame → ℕ → ℕ
headroom t [] now = t.cap
headroom t (g ∷ gs) now = min (headroom t gs now) (allowance t (now - g.stamp) - paid t (g ∷ gs))

-- none of these frames is later than the instant
abbrev pub NoneLater : List Frame → ℕ → Type 0
NoneLater fs now = AllByRecursion (λ f. f.stamp ≤ now) fs

-- at the instant `since`, an account that was full and then was offered these frames has this level
pub record IsLevelAfter (t : Terms) (since level : ℕ) (frames : List Frame) : Type 0 where
  pub latest : NoneLater frames since
  pub level_is : level ≡ headroom t (passed_frames t frames) since

-- an offer at an instant, of a frame of this size, that gives this answer and leaves this level: whatever frames
-- were offered before, the frame is passed exactly if it conforms to those that were passed
abbrev pub PassesWhatConforms : Terms → (since level at size : ℕ) → Bool → ℕ → Type 0
PassesWhatConforms t since level at size passes left = (frames : List Frame) → IsLevelAfter t since level frames
    → (passes ≡ conforms t (passed_frames t frames) (record { stamp = at; size = size }))
    × IsLevelAfter t at left (frames ++ record { stamp = at; size = size } ∷ [])

-- a level after a gap without frames: credited, up to the cap
abbrev pub credited_level : Terms → ℕ → ℕ → ℕ
credited_level t level gap = min t.cap (level + t.rate * gap)

-- profile: the frames that an account with this level at the instant `since` passes, step by step
abbrev pub stepped : Terms → ℕ → ℕ → List Frame → List Frame
stepped t level since [] = []
stepped t level since (f ∷ fs) =
    let now = credited_level t level (f.stamp - since) in
    if nat_le (t.price f.size) now then f ∷ stepped t (now - t.price f.size) f.stamp fs else stepped t now f.stamp fs

-- stamps don't fall, from an instant on
abbrev pub InOrder : ℕ → List Frame → Type 0
InOrder from [] = Unit {0}
InOrder from (f ∷ fs) = (from ≤ f.stamp) × InOrder f.stamp fs
