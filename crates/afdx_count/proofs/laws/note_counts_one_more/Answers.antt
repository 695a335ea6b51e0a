use Rattle.afdx_count.proofs.Copies.{note_counts_one_more}
use Rattle.afdx_count.proofs.laws.note_counts_one_more.Goals as goal

pub returns : goal.returns
returns c =
    note_counts_one_more c.one_more_arrival_is_appended.ensures.fate c.one_more_arrival_is_appended.ensures.copies c.one_more_arrival_is_appended.ensures.items
