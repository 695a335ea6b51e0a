-- How early a frame came that its policing did not pass.
use Rattle.std.specs.Prelude.{◌≡◌, ◌↔◌, ℕ, ◌+◌, ◌-◌, ◌<◌, ◌≤◌, List, [], ◌∷◌, max}
use Rattle.std.specs.Int.{div_ceil}
use Rattle.afdx_account.specs.declared.frame.Frame.{Frame}
use Rattle.afdx_account.specs.Policing.{Terms, paid, allowance, Conforms, passed_frames}
use Rattle.afdx_account.specs.Level.{headroom, NoneLater, IsLevelAfter}

-- the same frame, so many ns later
abbrev pub later_by : ℕ → Frame → Frame
later_by ns f = record { stamp = f.stamp + ns; size = f.size }

-- ns in which so many units are credited, rounded up
abbrev pub credit_time : Terms → ℕ → ℕ
credit_time t units = div_ceil units t.rate

-- profile: by how many ns a frame came too early for those passed before it: of each window that ends with it, the ns that it is
-- too short for what it holds, and the most of these
abbrev pub early_by : Terms → List Frame → Frame → ℕ
early_by t [] f = credit_time t (t.price f.size - allowance t 0)
early_by t (g ∷ gs) f = max (credit_time t ((paid t (g ∷ gs) + t.price f.size) - allowance t (f.stamp - g.stamp))) (early_by t gs f)

-- a frame that its link may send at all conforms so many ns later exactly if it came early by no more: early_by is the least such number
abbrev pub EarlyIsLeast : Type 0
EarlyIsLeast = (t : Terms) (passed : List Frame) (f : Frame) → 0 < t.rate → t.price f.size ≤ t.cap
    → NoneLater passed f.stamp
    → (ns : ℕ) → Conforms t passed (later_by ns f) ↔ (early_by t passed f ≤ ns)

-- how early a frame came is the time in which what the level lacks is credited
abbrev pub EarlyByTheLevel : Type 0
EarlyByTheLevel = (t : Terms) (frames : List Frame) (f : Frame) → 0 < t.rate → NoneLater frames f.stamp
    → early_by t (passed_frames t frames) f ≡ credit_time t (t.price f.size - headroom t (passed_frames t frames) f.stamp)

-- whatever frames led to this level at `since`, a frame of this size at an instant comes so early
abbrev pub IsEarlyBy : Terms → (since level at size : ℕ) → ℕ → Type 0
IsEarlyBy t since level at size early = (frames : List Frame) → IsLevelAfter t since level frames
    → early ≡ early_by t (passed_frames t frames) (record { stamp = at; size = size })
