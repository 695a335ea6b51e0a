use Rattle.afdx_network.proofs.OneRun.{given_has_one_run}
use Rattle.afdx_network.proofs.laws.given_has_one_run.Goals as goal

pub returns : goal.returns
returns c =
    given_has_one_run (record {
      reading = record {
        back = c.written_texts_read_back.ensures;
        ordered = c.by_stamp_is_ordered.ensures;
        soon = c.ends_within_a_second.ensures;
        have_link = c.clean_frames_have_a_link.ensures;
        verdicts = c.verdicts_name_links.ensures;
      };
      one_list = c.each_file_has_one_reading.ensures.one_list;
      later = c.later_arrivals_change_nothing.ensures;
      cut = c.merges_are_cut.ensures;
      on = c.out_goes_on.ensures;
      leaves = c.nothing_leaves_before.ensures;
    })
