-- What is told of a link of 64-byte frames at a port of 100 Mbit/s, whose bound is 22,720 ns; a frame's line time is 6,720 ns.
use Rattle.std.proofs.Common.{◌≡◌, ℕ, List, [], ◌∷◌, Option, Some, None, true, false, refl}
use Rattle.std.specs.Prelude.{replicate}
use Rattle.afdx_units.specs.declared.line.Speed.TheVariants.{Hundred}
use Rattle.afdx_pcap.specs.Record.{whole}
use Rattle.afdx_pairing.specs.declared.limits.Limits.{Limits}
use Rattle.afdx_pairing.specs.declared.event.Event.{Event}
use Rattle.afdx_pairing.specs.declared.event.Event.TheVariants.{Kept, Early, Late, Missing, After, Extra, Before}
use Rattle.afdx_pairing.specs.declared.event.Mark.{Mark}
use Rattle.afdx_pairing.specs.Events.{Numbered}
use Rattle.afdx_pairing.specs.Pairing.{at_first}
use Rattle.afdx_pairing.specs.Kept.{Sight, Came, Left, all_told}

abbrev limits : ℕ → ℕ → ℕ → Limits
limits tolerance gap before = record { least = 0; bound = 22720; tolerance = tolerance; gap = gap; speed = Hundred; before = before }

-- a frame, and a record, of this number, instant and letter
abbrev at : ℕ → ℕ → ℕ → Numbered
at number stamp letter = record { number = number; frame = whole stamp (replicate 60 letter) }

abbrev mark : ℕ → ℕ → Mark
mark number stamp = record { number = number; stamp = stamp }

abbrev told : ℕ → ℕ → ℕ → Option ℕ → List Sight → List Event
told tolerance gap before last sights = all_told (at_first (limits tolerance gap before)) last sights

abbrev one : ℕ → List Sight
one stamp = Came (at 1 1000000 65) true ∷ Left (at 1 stamp 65) ∷ []

at_the_bound : told 0 0 0 None (one 1022720) ≡ Kept (record { came = mark 1 1000000; left = mark 1 1022720; delay = 22720 }) ∷ []
at_the_bound = refl

past_it : told 0 0 0 None (one 1022721) ≡ Late (record { came = mark 1 1000000; left = mark 1 1022721; delay = 22721 }) ∷ []
past_it = refl

past_it_by_the_tolerance : told 1 0 0 None (one 1022721) ≡ Kept (record { came = mark 1 1000000; left = mark 1 1022721; delay = 22721 }) ∷ []
past_it_by_the_tolerance = refl

too_early : told 0 0 0 None (one 1006719) ≡ Early (record { came = mark 1 1000000; left = mark 1 1006719; delay = 6719 }) ∷ []
too_early = refl

at_the_end_of_its_last_bit : told 0 12 0 None (one 1005760) ≡ Kept (record { came = mark 1 1000000; left = mark 1 1005760; delay = 6720 }) ∷ []
at_the_end_of_its_last_bit = refl

-- of two frames with the same bytes the first is missing
first_of_two : told 0 0 0 None (Came (at 1 1000000 65) true ∷ Came (at 2 2000000 65) true ∷ Left (at 1 2006720 65) ∷ [])
    ≡ Missing (mark 1 1000000) ∷ Kept (record { came = mark 2 2000000; left = mark 1 2006720; delay = 6720 }) ∷ []
first_of_two = refl

-- a policed frame that was let through is named
let_through : told 0 0 0 None (Came (at 1 1500000 80) false ∷ Left (at 1 1506720 80) ∷ []) ≡ Extra (mark 1 1506720) (Some (mark 1 1500000)) ∷ []
let_through = refl

-- where recordings begin at an instant, what left within a bound of it may be of a frame that came before it
soon_after_the_beginning : told 0 0 1022720 None (Left (at 1 1022719 88) ∷ []) ≡ Before (mark 1 1022719) ∷ []
soon_after_the_beginning = refl

later_than_that : told 0 0 1022720 None (Left (at 1 1022720 88) ∷ []) ≡ Extra (mark 1 1022720) None ∷ []
later_than_that = refl

-- but not behind a pair
behind_a_pair : told 0 0 1022720 None (Came (at 1 1000000 65) true ∷ Left (at 1 1006720 65) ∷ Left (at 2 1013440 88) ∷ [])
    ≡ Kept (record { came = mark 1 1000000; left = mark 1 1006720; delay = 6720 }) ∷ Extra (mark 2 1013440) None ∷ []
behind_a_pair = refl

-- where they end, a frame may leave later
before_the_end : told 0 0 0 (Some 2022719) (Came (at 1 2000000 66) true ∷ []) ≡ After (mark 1 2000000) ∷ []
before_the_end = refl

none_at_the_end : told 0 0 0 (Some 2022720) (Came (at 1 2000000 66) true ∷ []) ≡ Missing (mark 1 2000000) ∷ []
none_at_the_end = refl
