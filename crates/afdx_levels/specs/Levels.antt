-- What is known of the level of an account, if what came before is not known and stamps may be off.
use Rattle.std.specs.Prelude.{ℕ, ◌+◌, ◌*◌, ◌-◌, ◌∷◌, [], List, Bool, true, false, IsTrue, not, nat_le, nat_lt, min, max, if◌then◌else◌}
use Rattle.afdx_account.specs.declared.frame.Frame.{Frame}
use Rattle.afdx_account.specs.Policing.{Terms}
use Rattle.afdx_levels.specs.declared.outlook.Outlook.{Outlook}
use Rattle.afdx_levels.specs.declared.outlook.Outlook.TheVariants.{Must, Never, Unsure}

-- a level is no less than `least` and no more than `most` at the instant `since`; in units of the account, and higher by the slack
pub record Levels : Type 0 where
  pub least : ℕ
  pub most : ℕ
  pub since : ℕ

-- profile: what is credited within the tolerance of the stamps; levels are known as numbers that are higher by it, so that none is
-- below 0, and are off by it to either side
abbrev pub slack_of : Terms → ℕ → ℕ
slack_of t tolerance = t.rate * tolerance

-- a full account
abbrev pub at_rest : Terms → ℕ → Levels
at_rest t tolerance = record { least = t.cap + 2 * slack_of t tolerance; most = t.cap + 2 * slack_of t tolerance; since = 0 }

-- an account of which nothing is known at an instant
abbrev pub unknown : Terms → ℕ → ℕ → Levels
unknown t tolerance since = record { least = 0; most = t.cap + 2 * slack_of t tolerance; since = since }

-- profile: what is known at a later instant, before a frame that comes then; it is credited without end, and the cap is taken with the
-- frame
abbrev pub credited : Terms → Levels → ℕ → Levels
credited t l at = record { least = l.least + t.rate * (at - l.since); most = l.most + t.rate * (at - l.since); since = at }

-- a frame of this size may be passed, or policed, if this is known
abbrev pub may_be : Terms → ℕ → ℕ → Levels → Bool → Bool
may_be t tolerance size l true = nat_le (t.price size) l.most
may_be t tolerance size l false = nat_lt l.least (t.price size + 2 * slack_of t tolerance)

-- a frame must pass if it may not be policed, never passes if it may not pass, and is unsure else
abbrev pub outlook_of : Terms → ℕ → ℕ → Levels → Outlook
outlook_of t tolerance size l =
    if not (may_be t tolerance size l true) then Never
    else if may_be t tolerance size l false then Unsure
    else Must

-- what is known of the level once a frame was passed (true), or policed: then it was below the price, so no cap was met since
abbrev pub after : Terms → ℕ → ℕ → Bool → Levels → Levels
after t tolerance size true l = record {
  least = min t.cap (max l.least (t.price size)) - t.price size;
  most = min (t.cap + 2 * slack_of t tolerance) l.most - t.price size;
  since = l.since;
}
after t tolerance size false l = record {
  least = l.least;
  most = min l.most (t.price size + 2 * slack_of t tolerance - 1);
  since = l.since;
}

-- profile: these fates (true: passed) can be those of these frames, one for each, if this is known before them
abbrev pub Allowed : Terms → ℕ → Levels → List Frame → List Bool → Type 0
Allowed t tolerance l [] [] = Unit {0}
Allowed t tolerance l [] (passes ∷ fates) = ⊥
Allowed t tolerance l (f ∷ fs) [] = ⊥
Allowed t tolerance l (f ∷ fs) (passes ∷ fates) =
    let now = credited t l f.stamp in
    IsTrue (may_be t tolerance f.size now passes) × Allowed t tolerance (after t tolerance f.size passes now) fs fates

-- what is known of the level after frames of these fates
abbrev pub levels_after : Terms → ℕ → Levels → List Frame → List Bool → Levels
levels_after t tolerance l [] fates = l
levels_after t tolerance l (f ∷ fs) [] = l
levels_after t tolerance l (f ∷ fs) (passes ∷ fates) = levels_after t tolerance (after t tolerance f.size passes (credited t l f.stamp)) fs fates

-- profile: the fate of a frame as it is told: an unsure one was passed if a test says so, such as that it was seen to leave
abbrev pub fate_told : Outlook → Bool → Bool
fate_told Must seen = true
fate_told Never seen = false
fate_told Unsure seen = seen

-- the fates of these frames as they are told, each by what is known after those before it
abbrev pub fates_told : Terms → ℕ → (Frame → Bool) → Levels → List Frame → List Bool
fates_told t tolerance is_seen l [] = []
fates_told t tolerance is_seen l (f ∷ fs) =
    let now = credited t l f.stamp in
    let passes = fate_told (outlook_of t tolerance f.size now) (is_seen f) in
    passes ∷ fates_told t tolerance is_seen (after t tolerance f.size passes now) fs
