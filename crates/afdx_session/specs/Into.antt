-- Outputs that go to files while captures come in pieces.
use Rattle.std.specs.Prelude.{ℕ, ◌≡◌, ◌⊎◌, true, false, List, length, slice_get, Option, Some}
use Rattle.std.specs.Io.KnownBytes.{Appends}
use Rattle.afdx_table.specs.declared.rows.PortRow.{PortRow}
use Rattle.afdx_count.specs.Tally.{Tally}
use Rattle.afdx_session.specs.declared.plan.RunFault.{RunFault}
use Rattle.afdx_session.specs.declared.plan.RunFault.TheVariants as run
use Rattle.afdx_session.specs.Reading.{IsReadFault}
use Rattle.afdx_session.specs.Outcome.{Results, IsOutcome}
use Rattle.afdx_session.specs.Headline.{IsIsolated}
use Rattle.afdx_session.specs.Session.{Seen, taken_of}
use Rattle.afdx_session.specs.Finish.{texts_in}
use Rattle.afdx_session.specs.Written.{AreAppended}
use Rattle.afdx_session.specs.Inner.Pieces.{GoesOnTo, WasTaken}

-- these bytes were taken of a port, one take after the other, and none since
pub record WereTaken (v : Seen) (port : ℕ) (taken : List ℕ) : Type 0 where
  pub before : Seen
  pub was : WasTaken before port taken
  pub on : GoesOnTo before v
  pub same : taken_of v port ≡ taken_of before port

-- since the start a file has what was taken of a port
pub record HasTaken {F : Type 0} (contents : F → Option (List ℕ)) (v : Seen) (port : ℕ) (start now : F) : Type 0 where
  pub taken : List ℕ
  pub were : WereTaken v port taken
  pub appended : Appends (contents start) (contents now) taken

-- since the start each file has what was taken of the port at its place
pub record HaveTaken {F : Type 0} (contents : F → Option (List ℕ)) (v : Seen) (start now : List F) : Type 0 where
  pub long : length now ≡ length start
  pub each : (place : ℕ) (p : PortRow) (f g : F) → slice_get v.table.ports place ≡ Some p → slice_get start place ≡ Some f → slice_get now place ≡ Some g → HasTaken contents v p.id f g

-- what is left of each port's output was appended: files that had what was taken before now have the output of a run over the whole
-- captures; its counts are given
pub record IsFinishedInto {F : Type 0} (contents : F → Option (List ℕ)) (v : Seen) (old new : List F) (counts : Tally) : Type 0 where
  pub none_failed : v.failed ≡ false
  pub whole : Results
  pub outcome : IsOutcome v.table (texts_in v) whole
  pub counted : counts ≡ whole.counts
  pub appended : (start : List F) → HaveTaken contents v start old → AreAppended contents start new whole.captures
  -- on a checked table the headline holds of it
  pub isolated : v.accepted ≡ true → IsIsolated v.table (texts_in v) whole

-- why the rest of the outputs was not appended: a call had failed; or memory ran out or a capture has a fault, that of the lowest port
abbrev pub IsNotFinishedInto : Seen → RunFault → Type 0
IsNotFinishedInto v fault = ((v.failed ≡ true) × (fault ≡ run.Failed)) ⊎ ((v.failed ≡ false) × IsReadFault (texts_in v) fault)
