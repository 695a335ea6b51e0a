use Rattle.afdx_network.proofs.Early.{runs_leave_in_time, all_leave_in_time}
use Rattle.afdx_network.proofs.laws.runs_leave_in_time.Goals as goal

pub returns-clause-texts : goal.returns-clause-texts
returns-clause-texts c =
    runs_leave_in_time c.outcomes_isolate.ensures.ports c.by_stamp_is_ordered.ensures c.outputs_are_readable.ensures c.what_is_written_is_a_capture.ensures
    c.each_file_has_one_reading.ensures.one_list

pub returns-clause-records : goal.returns-clause-records
returns-clause-records c =
    all_leave_in_time c.outcomes_isolate.ensures.ports c.by_stamp_is_ordered.ensures c.outputs_are_readable.ensures c.what_is_written_is_a_capture.ensures
    c.each_file_has_one_reading.ensures.one_list
