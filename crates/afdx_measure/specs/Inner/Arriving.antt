-- An arrival that a switch has taken, as it is noted.
use Rattle.std.specs.Prelude.{◌≡◌, ℕ, ◌≤◌, false}
use Rattle.afdx_core.specs.declared.step.Row.{Row}
use Rattle.afdx_core.specs.Isolation.{IsRun}
use Rattle.afdx_core.specs.State.{Run, after_row, step_of}
use Rattle.afdx_core.specs.Step.{Step}

-- the run took the arrival of this row, of so many bytes at an instant, with this step, and is now that run
pub record HasArrived (r : Run) (row : Row) (at size : ℕ) (step : Step) (now : Run) : Type 0 where
  pub now_is : now ≡ after_row row r
  pub step_is : step ≡ step_of r row
  pub at_is : at ≡ row.stamp
  pub size_is : size ≡ row.size
  pub still_open : r.finished ≡ false
  pub in_order : r.latest ≤ row.stamp
  pub is_run : IsRun (after_row row r)
