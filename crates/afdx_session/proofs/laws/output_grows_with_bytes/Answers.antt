use Rattle.afdx_session.proofs.WholeRecords.{grows_with_bytes, streams_unique}
use Rattle.afdx_session.proofs.laws.output_grows_with_bytes.Goals as goal

pub returns-clause-grows : goal.returns-clause-grows
returns-clause-grows c =
    grows_with_bytes c.by_stamp_is_ordered.ensures c.arrivals_change_nothing_earlier.ensures.admission c.stamps_keep_their_order.ensures.instants c.sent_goes_on.ensures
    c.whole_records_stay.ensures.stay c.whole_records_stay.ensures.unique

pub returns-clause-unique : goal.returns-clause-unique
returns-clause-unique c = streams_unique c.whole_records_stay.ensures.stay c.whole_records_stay.ensures.unique
