-- Outputs that go to files while a run goes on.
use Rattle.std.specs.Prelude.{ℕ, ◌≡◌, List, Option, Some, length, slice_get}
use Rattle.std.specs.Io.KnownBytes.{Appends}
use Rattle.afdx_table.specs.Content.{Content}
use Rattle.afdx_count.specs.Tally.{Tally}
use Rattle.afdx_session.specs.Texts.{Text}
use Rattle.afdx_session.specs.Outcome.{Results, IsOutcome}

-- each file has more at its end: the text at its place
abbrev pub AreAppended : {F : Type 0} → (F → Option (List ℕ)) → List F → List F → List Text → Type 0
AreAppended {F} contents old new texts =
    (length new ≡ length old)
    × ((place : ℕ) (o n : F) (text : Text) → slice_get old place ≡ Some o → slice_get new place ≡ Some n → slice_get texts place ≡ Some text
    → Appends (contents o) (contents n) text.1)

-- there is an outcome of these texts: these are its counts, and its captures were appended to the files
pub record IsWritten {F : Type 0} (contents : F → Option (List ℕ)) (t : Content) (texts : List Text) (old new : List F) (counts : Tally) : Type 0 where
  pub results : Results
  pub outcome : IsOutcome t texts results
  pub counted : counts ≡ results.counts
  pub appended : AreAppended contents old new results.captures
