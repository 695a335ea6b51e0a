use Rattle.afdx_count.proofs.Copies.{notes_count_the_run}
use Rattle.afdx_count.proofs.laws.notes_count_the_run.Goals as goal

pub returns : goal.returns
returns c = notes_count_the_run c.note_counts_one_more.ensures
