-- Which frames of a link its policing passes: an arrival curve over all windows of the frames that were passed.
use Rattle.std.specs.Prelude.{◌≡◌, ℕ, ◌+◌, ◌*◌, ◌-◌, ◌/◌, ◌≤◌, List, [], ◌∷◌, ◌++◌, Bool, ◌&&◌, nat_le, if◌then◌else◌}
use Rattle.afdx_units.specs.declared.bag.Bag.{Bag}
use Rattle.afdx_units.specs.declared.line.Speed.{Speed}
use Rattle.afdx_units.specs.Time.{bag_ms, bag_ns}
use Rattle.afdx_units.specs.Line.{tick_of, cost_of}
use Rattle.afdx_units.specs.declared.police.Police.{Police}
use Rattle.afdx_units.specs.declared.police.Police.TheVariants.{Byte, Frame as ByFrames}
use Rattle.afdx_account.specs.declared.frame.Frame.{Frame}

-- profile: what a link may send, in units: at most `cap` at once, `rate` more in each ns, and a price for each size
pub record Terms : Type 0 where
  pub cap : ℕ
  pub rate : ℕ
  pub price : ℕ → ℕ

-- profile: the parts of a nanosecond of line time, of which rates are numbers in each nanosecond; they are 16 * 128,000,000, so that
-- a byte's share is a whole number of them for each gap
abbrev pub parts : ℕ
parts = 2048000000

-- profile: policing by bytes, where a byte is as many units as the gap has ns;
-- Smax units are credited in each ns, and at most Smax * (BAG + J) units are held
abbrev pub byte_terms : ℕ → Bag → ℕ → Terms
byte_terms max_size bag jitter = record {
  cap = max_size * (bag_ns bag + jitter);
  rate = max_size;
  price = λ size. size * bag_ns bag;
}

-- profile: line time that a unit is worth, in parts of a ns; the factor 21 / 16 is there because
-- size + 20 <= size * 21 / 16 for sizes of at least 64
abbrev pub byte_weight : Bag → Speed → ℕ
byte_weight bag speed = 21 * tick_of speed * (128 / bag_ms bag)

-- profile: policing by frames, where a frame is as many units as the gap has ns; a unit is credited in each ns, and at most
-- BAG + J units are held
abbrev pub frame_terms : Bag → ℕ → Terms
frame_terms bag jitter = record {
  cap = bag_ns bag + jitter;
  rate = 1;
  price = λ size. bag_ns bag;
}

-- profile: line time that a unit is worth, in parts of a ns: a gap's units are the line time of the longest frame
abbrev pub frame_weight : ℕ → Bag → Speed → ℕ
frame_weight max_size bag speed = 16 * cost_of speed max_size * (128 / bag_ms bag)

-- the terms of a link, by the kind of its policing
abbrev pub terms_by : Police → ℕ → Bag → ℕ → Terms
terms_by Byte max_size bag jitter = byte_terms max_size bag jitter
terms_by ByFrames max_size bag jitter = frame_terms bag jitter

-- what a unit of these terms is worth on a line of this speed, in parts of a ns, by the kind of the policing
abbrev pub weight_by : Police → ℕ → Bag → Speed → ℕ
weight_by Byte max_size bag speed = byte_weight bag speed
weight_by ByFrames max_size bag speed = frame_weight max_size bag speed

-- the units that these frames cost together
abbrev pub paid : Terms → List Frame → ℕ
paid t [] = 0
paid t (f ∷ fs) = t.price f.size + paid t fs

-- the units that may be sent within a window of so many ns
abbrev pub allowance : Terms → ℕ → ℕ
allowance t window = t.cap + t.rate * window

-- a frame conforms to the frames passed before it if each window that ends with it, and begins
-- with any of them or with itself, keeps to its allowance
abbrev pub Conforms : Terms → List Frame → Frame → Type 0
Conforms t passed f = (before : List Frame) (first : Frame) (after : List Frame)
    → passed ++ f ∷ [] ≡ before ++ first ∷ after
    → paid t (first ∷ after) ≤ allowance t (f.stamp - first.stamp)

-- a test of whether a frame conforms to the frames passed before it
abbrev pub conforms : Terms → List Frame → Frame → Bool
conforms t [] f = nat_le (t.price f.size) (allowance t 0)
conforms t (g ∷ gs) f = nat_le (paid t (g ∷ gs) + t.price f.size) (allowance t (f.stamp - g.stamp)) && conforms t gs f

-- profile: the elements of a list, taken in order, whose frames conform to the frames passed before them; some were passed already
abbrev pub passed_after : {A : Type 0} → (A → Frame) → Terms → List Frame → List A → List A
passed_after frame_of t passed [] = []
passed_after frame_of t passed (x ∷ xs) =
    let joins = conforms t passed (frame_of x) in
    (if joins then x ∷ [] else []) ++ passed_after frame_of t (if joins then passed ++ frame_of x ∷ [] else passed) xs

-- the elements of a list whose frames are passed, in order
abbrev pub passed_of : {A : Type 0} → (A → Frame) → Terms → List A → List A
passed_of frame_of t xs = passed_after frame_of t [] xs

-- the frames of a list that are passed, in order
abbrev pub passed_frames : Terms → List Frame → List Frame
passed_frames t frames = passed_of (λ f. f) t frames
