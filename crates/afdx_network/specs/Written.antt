-- Runs of a network whose outputs go to files.
use Rattle.std.specs.Prelude.{ℕ, ◌≡◌, List, map, flat_map, Option}
use Rattle.afdx_count.specs.Tally.{Tally}
use Rattle.afdx_session.specs.Texts.{Text}
use Rattle.afdx_session.specs.Outcome.{Results}
use Rattle.afdx_session.specs.Written.{AreAppended}

-- the captures of what leaves the ports of all switches, in the order of the switches
abbrev pub captures_in : List Results → List Text
captures_in left = flat_map (λ r. r.captures) left

-- these are the counts, and what leaves each port comes after what its file had
pub record AreWritten {F : Type 0} (contents : F → Option (List ℕ)) (left : List Results) (old new : List F) (counts : List Tally) : Type 0 where
  pub counted : counts ≡ map (λ r. r.counts) left
  pub appended : AreAppended contents old new (captures_in left)
