use Rattle.std.proofs.Common.{false}
use Rattle.afdx_measure.proofs.Later.{begun}
use Rattle.afdx_measure.proofs.measuring.Measuring.new.Goals as goal

pub invariant_of-result : goal.invariant_of-result
invariant_of-result g c =
    begun c.in_ok-relay.relay false _ c.args.table c.gauges_of-gauges.result c.policing_of-policing.result c.calls_make_runs.ensures.begin c.in_ok-relay.ensures c.gauges_of-gauges.ensures
    c.policing_of-policing.ensures
