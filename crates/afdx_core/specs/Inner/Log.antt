-- What contracts see of a log, of which all is kept, or nothing.
use Rattle.std.specs.Prelude.{◌≡◌, ◌<◌, Bool, true, false, length}
use Rattle.afdx_past.specs.Seen.{Seen}
use Rattle.afdx_core.specs.declared.step.Row.{Row}
use Rattle.afdx_core.specs.declared.step.Fate.{Fate}

-- the rows and fates of all arrivals; those that no call needs any more are let go, unless all are kept
pub record LogValue (Z : Type 0) : Type 0 where
  pub rows : Seen Row
  pub fates : Seen Fate
  pub keeps : Bool

-- nothing was let go, or all
pub record IsOfForm {T : Type 0} (keeps : Bool) (list : Seen T) : Type 0 where
  pub kept : keeps ≡ true → list.first ≡ 0
  pub passed : keeps ≡ false → list.first ≡ length list.items

-- room for one more arrival
pub record HasRoom {Z : Type 0} (l : LogValue Z) : Type 0 where
  pub rows : 0 < l.rows.room
  pub fates : 0 < l.fates.room
