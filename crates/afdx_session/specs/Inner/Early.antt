-- When the records that are read were captured.
use Rattle.std.specs.Prelude.{ℕ, ◌<◌, List}
use Rattle.std.specs.List.{AllByRecursion}
use Rattle.afdx_units.specs.Time.{last_second}
use Rattle.afdx_core.specs.Merge.{Capture, records_of}
use Rattle.afdx_session.specs.Texts.{Text}
use Rattle.afdx_session.specs.Reading.{AreCaptures}

-- no record that is read has a stamp in the last second
abbrev pub RecordsAreEarly : Type 0
RecordsAreEarly = (texts : List Text) (read : List Capture) (port : ℕ) → AreCaptures texts read → AllByRecursion (λ r. r.stamp < last_second) (records_of read port)
