use Rattle.afdx_session.proofs.Pieces.{calls_go_on, nothing_was_taken, taken_stays, takes_join, taken_is_a_prefix, takes_and_rest}
use Rattle.afdx_session.proofs.laws.takes_join_to_the_output.Goals as goal

pub returns-clause-calls : goal.returns-clause-calls
returns-clause-calls c = calls_go_on

pub returns-clause-none : goal.returns-clause-none
returns-clause-none c = nothing_was_taken

pub returns-clause-stays : goal.returns-clause-stays
returns-clause-stays c =
    taken_stays c.by_stamp_is_ordered.ensures c.arrivals_change_nothing_earlier.ensures.admission c.stamps_keep_their_order.ensures.instants c.sent_goes_on.ensures c.whole_records_stay.ensures.stay
    c.whole_records_stay.ensures.unique

pub returns-clause-joins : goal.returns-clause-joins
returns-clause-joins c = takes_join c.whole_records_stay.ensures.stay c.whole_records_stay.ensures.unique

pub returns-clause-prefix : goal.returns-clause-prefix
returns-clause-prefix c =
    taken_is_a_prefix c.by_stamp_is_ordered.ensures c.arrivals_change_nothing_earlier.ensures.admission c.stamps_keep_their_order.ensures.instants c.sent_goes_on.ensures
    c.whole_records_stay.ensures.stay c.whole_records_stay.ensures.unique

pub returns-clause-whole : goal.returns-clause-whole
returns-clause-whole c =
    takes_and_rest c.by_stamp_is_ordered.ensures c.arrivals_change_nothing_earlier.ensures.admission c.stamps_keep_their_order.ensures.instants c.sent_goes_on.ensures c.whole_records_stay.ensures.stay
    c.whole_records_stay.ensures.unique
