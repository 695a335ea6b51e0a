-- What is known of a link by bytes, of 64 bytes, gap 1 ms and no jitter: its account pays for a frame in each gap.
use Rattle.std.proofs.Common.{◌≡◌, ℕ, ◌==◌, List, [], ◌∷◌, true, false, refl}
use Rattle.afdx_units.specs.declared.bag.Bag.TheVariants.{Ms1}
use Rattle.afdx_account.specs.declared.frame.Frame.{Frame}
use Rattle.afdx_account.specs.Policing.{Terms, byte_terms}
use Rattle.afdx_levels.specs.declared.outlook.Outlook.{Outlook}
use Rattle.afdx_levels.specs.declared.outlook.Outlook.TheVariants.{Must, Never, Unsure}
use Rattle.afdx_levels.specs.Levels.{at_rest, unknown, credited, outlook_of, after, fates_told}

abbrev terms : Terms
terms = byte_terms 64 Ms1 0

abbrev at : ℕ → Frame
at stamp = record { stamp = stamp; size = 64 }

abbrev four : List Frame
four = at 1000000 ∷ at 1500000 ∷ at 2499999 ∷ at 2500000 ∷ []

-- from an instant at which nothing is known: the first two are unsure; where the second alone is seen, the level is 0 then, so that the third
-- is never passed and the fourth must be
second_seen : fates_told terms 0 (λ f. f.stamp == 1500000) (unknown terms 0 1000000) four ≡ false ∷ true ∷ false ∷ true ∷ []
second_seen = refl

-- where the first is seen, half of the price is left for the second, which is never passed
first_seen : fates_told terms 0 (λ f. true) (unknown terms 0 1000000) (at 1000000 ∷ at 1500000 ∷ at 2500000 ∷ []) ≡ true ∷ false ∷ true ∷ []
first_seen = refl

-- none is seen of frames that come closer together than twice the tolerance: the credit of all gaps together tells that the fourth must pass
none_seen : fates_told terms 300000 (λ f. false) (unknown terms 300000 0) (at 500000 ∷ at 1000000 ∷ at 1500000 ∷ at 2000000 ∷ []) ≡ false ∷ false ∷ false ∷ true ∷ []
none_seen = refl

-- at rest nothing is unsure
all_known : fates_told terms 0 (λ f. true) (at_rest terms 0) four ≡ true ∷ false ∷ true ∷ false ∷ []
all_known = refl

-- a frame that comes 50 ns early is unsure where stamps are off by 25 ns, and never passed where they are off by less
abbrev early : ℕ → Outlook
early tolerance = outlook_of terms tolerance 64 (credited terms (after terms tolerance 64 true (credited terms (at_rest terms tolerance) 1000000)) 1999950)

noise_of_half_the_lack : early 25 ≡ Unsure
noise_of_half_the_lack = refl

less_noise : early 24 ≡ Never
less_noise = refl

no_noise : outlook_of terms 0 64 (credited terms (after terms 0 64 true (credited terms (at_rest terms 0) 1000000)) 2000000) ≡ Must
no_noise = refl
