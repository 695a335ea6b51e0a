-- What a run of which nothing goes out answers, beside its counts: its finished switch.
use Rattle.std.specs.Prelude.{◌≡◌, Bool, List}
use Rattle.afdx_table.specs.Content.{Content}
use Rattle.afdx_core.specs.State.{State}
use Rattle.afdx_count.specs.Tally.{Tally}
use Rattle.afdx_session.specs.Texts.{Text}
use Rattle.afdx_session.specs.Outcome.{Results, IsOutcome, IsDoneOf}

-- the texts are captures of the table's ports, and this is a finished switch that took the program's merge of their records, with the
-- counts of an outcome of these texts
pub record IsMeasuredRun (cleared : Bool) (t : Content) (texts : List Text) (counts : Tally) (s : State) : Type 0 where
  pub done : IsDoneOf cleared t texts s
  pub whole : Results
  pub outcome : IsOutcome t texts whole
  pub counted : counts ≡ whole.counts
