-- What the definition gives for small lists of frames.
use Rattle.std.proofs.Common.{◌≡◌, ℕ, ◌*◌, List, [], ◌∷◌, refl}
use Rattle.std.specs.Prelude.{replicate}
use Rattle.afdx_units.specs.declared.bag.Bag.TheVariants.{Ms1}
use Rattle.afdx_units.specs.Time.{second}
use Rattle.afdx_account.specs.declared.frame.Frame.{Frame}
use Rattle.afdx_account.specs.Policing.{byte_terms, frame_terms, passed_frames}

abbrev at : ℕ → ℕ → Frame
at stamp size = record { stamp = stamp; size = size }

-- those passed with a gap of 1 ms, no jitter and frames of at most 1518 bytes
abbrev passed_by_1518 : List Frame → List Frame
passed_by_1518 frames = passed_frames (byte_terms 1518 Ms1 0) frames

a_nanosecond_early : passed_by_1518 (at 0 1518 ∷ at 999999 1518 ∷ at 1000000 1518 ∷ []) ≡ at 0 1518 ∷ at 1000000 1518 ∷ []
a_nanosecond_early = refl

burst_of_small_frames : passed_by_1518 (replicate 24 (at 0 64)) ≡ replicate 23 (at 0 64)
burst_of_small_frames = refl

far_apart : passed_by_1518 (at 0 1518 ∷ at (4000000000 * second) 1518 ∷ []) ≡ at 0 1518 ∷ at (4000000000 * second) 1518 ∷ []
far_apart = refl

-- by frames, of any sizes, one is passed in each gap, and two at once where the jitter is a gap
one_of_a_burst : passed_frames (frame_terms Ms1 0) (replicate 24 (at 0 64)) ≡ at 0 64 ∷ []
one_of_a_burst = refl

one_in_each_gap : passed_frames (frame_terms Ms1 0) (at 0 1518 ∷ at 999999 1518 ∷ at 1000000 1518 ∷ []) ≡ at 0 1518 ∷ at 1000000 1518 ∷ []
one_in_each_gap = refl

two_with_jitter : passed_frames (frame_terms Ms1 1000000) (replicate 3 (at 0 64)) ≡ replicate 2 (at 0 64)
two_with_jitter = refl
