-- The laws of policing, over the definitions alone.
use Rattle.std.specs.Prelude.{◌≡◌, ◌↔◌, ℕ, ◌*◌, ◌-◌, ◌≤◌, nat_le, List, [], ◌∷◌, ◌++◌, map, IsTrue, if◌then◌else◌}
use Rattle.afdx_units.specs.declared.bag.Bag.{Bag}
use Rattle.afdx_units.specs.declared.line.Speed.{Speed}
use Rattle.afdx_units.specs.declared.police.Police.{Police}
use Rattle.afdx_units.specs.Line.{least_size, cost_of}
use Rattle.afdx_account.specs.declared.frame.Frame.{Frame}
use Rattle.afdx_account.specs.Policing.{parts, Terms, Conforms, byte_terms, byte_weight, frame_terms, frame_weight, terms_by, weight_by, conforms, passed_of, passed_frames}
use Rattle.afdx_account.specs.Level.{InOrder, headroom, NoneLater, credited_level, stepped}

-- a full account that goes step by step passes exactly the frames that keep to their allowances in all windows
abbrev pub StepsPassWhatConforms : Type 0
StepsPassWhatConforms = (t : Terms) (frames : List Frame) → InOrder 0 frames
    → stepped t t.cap 0 frames ≡ passed_frames t frames

-- the test says whether a frame conforms
abbrev pub ConformingIsTested : Type 0
ConformingIsTested = (t : Terms) (passed : List Frame) (f : Frame) → IsTrue (conforms t passed f) ↔ Conforms t passed f

-- of a list of things that carry frames, the next one joins those passed so far exactly if its frame
-- conforms to theirs
abbrev pub NextJoinsWhereItConforms : Type 0 → Type 0
NextJoinsWhereItConforms A = (frame_of : A → Frame) (t : Terms) (xs : List A) (x : A)
    → passed_of frame_of t (xs ++ x ∷ [])
    ≡ (if conforms t (map frame_of (passed_of frame_of t xs)) (frame_of x)
    then passed_of frame_of t xs ++ x ∷ []
    else passed_of frame_of t xs)

-- of a list of frames, the next one joins those passed so far exactly if it conforms to them
abbrev pub NextFrameJoinsWhereItConforms : Type 0
NextFrameJoinsWhereItConforms = (t : Terms) (frames : List Frame) (f : Frame)
    → passed_frames t (frames ++ f ∷ [])
    ≡ (if conforms t (passed_frames t frames) f then passed_frames t frames ++ f ∷ [] else passed_frames t frames)

-- the frames of what is passed of a list are the frames passed of its frames
abbrev pub PassedByTheirFrames : Type 0 → Type 0
PassedByTheirFrames A = (frame_of : A → Frame) (t : Terms) (xs : List A)
    → map frame_of (passed_of frame_of t xs) ≡ passed_frames t (map frame_of xs)

-- what an account that was full has left after these frames is credited over time, up to the cap
abbrev pub HeadroomIsCredited : Type 0
HeadroomIsCredited = (t : Terms) (frames : List Frame) (now later : ℕ) → now ≤ later → NoneLater frames now
    → headroom t (passed_frames t frames) later ≡ credited_level t (headroom t (passed_frames t frames) now) (later - now)

-- a frame conforms exactly if its price is within the headroom
abbrev pub HeadroomDecides : Type 0
HeadroomDecides = (t : Terms) (frames : List Frame) (f : Frame) → NoneLater frames f.stamp
    → conforms t (passed_frames t frames) f ≡ nat_le (t.price f.size) (headroom t (passed_frames t frames) f.stamp)

-- a frame that is passed takes its price away from the headroom
abbrev pub HeadroomIsDebited : Type 0
HeadroomIsDebited = (t : Terms) (passed : List Frame) (f : Frame)
    → headroom t (passed ++ f ∷ []) f.stamp ≡ headroom t passed f.stamp - t.price f.size

-- what a frame costs in bytes pays for its line time
abbrev pub BytePricesPay : Type 0
BytePricesPay = (max_size : ℕ) (bag : Bag) (jitter : ℕ) (speed : Speed) (size : ℕ) → least_size ≤ size
    → parts * cost_of speed size ≤ byte_weight bag speed * (byte_terms max_size bag jitter).price size

-- by frames, the price pays for the line time of each frame that the link allows
abbrev pub FramePricesPay : Type 0
FramePricesPay = (max_size : ℕ) (bag : Bag) (jitter : ℕ) (speed : Speed) (size : ℕ) → size ≤ max_size
    → parts * cost_of speed size ≤ frame_weight max_size bag speed * (frame_terms bag jitter).price size

-- by either kind of policing, what a frame costs pays for its line time
abbrev pub PricesPay : Type 0
PricesPay = (police : Police) (max_size : ℕ) (bag : Bag) (jitter : ℕ) (speed : Speed) (size : ℕ) → least_size ≤ size → size ≤ max_size
    → parts * cost_of speed size ≤ weight_by police max_size bag speed * (terms_by police max_size bag jitter).price size
