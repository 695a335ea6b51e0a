-- Of the captures of a table's ports there is one merge by stamp, then by port number.
use Rattle.std.specs.Prelude.{◌≡◌, ◌↔◌, List}
use Rattle.afdx_table.specs.Content.{Content}
use Rattle.afdx_table.specs.WellFormed.{IsWellFormed}
use Rattle.afdx_core.specs.Merge.{Arrival, Capture, merged}
use Rattle.afdx_core.specs.Inner.Merge.{IsMerge, AreByStampAndPort}
use Rattle.afdx_session.specs.Texts.{Text, AreOfPorts}
use Rattle.afdx_session.specs.Reading.{AreCaptures}

-- profile: if the captures of a table's ports were read, a list is a merge of them and is by stamp, then by port number, exactly
-- if it is the program's merge
abbrev pub MergedIsTheOnlyOne : Type 0
MergedIsTheOnlyOne = (t : Content) (texts : List Text) (read : List Capture) (arrivals : List Arrival) → IsWellFormed t → AreOfPorts t texts → AreCaptures texts read
    → (IsMerge read arrivals × AreByStampAndPort arrivals) ↔ (arrivals ≡ merged read)
