use Rattle.std.proofs.Common.{Bool, true, ap, subst, ◌∙◌}
use Rattle.afdx_table.specs.Content.{Content}
use Rattle.afdx_core.specs.State.{fresh_run, fresh_state}
use Rattle.afdx_measure.specs.Inner.Gauged.{AgreesWith}
use Rattle.afdx_measure.specs.Inner.Policed.{KnowsPolicing}
use Rattle.afdx_measure.proofs.Later.{begun}
use Rattle.afdx_measure.proofs.measuring.Measuring.cleared.Goals as goal

pub invariant_of-result : goal.invariant_of-result
invariant_of-result g c =
    begun c.in_ok-relay.relay true _ c.args.cleared c.gauges_of-gauges.result c.policing_of-policing.result c.calls_make_runs.ensures.begin c.in_ok-relay.ensures.0
    (subst (λ (t : Content). AgreesWith (fresh_run t) c.gauges_of-gauges.result) c.table-table.ensures.table c.gauges_of-gauges.ensures)
    (subst (λ (t : Content). KnowsPolicing (fresh_run t) c.policing_of-policing.result) c.table-table.ensures.table c.policing_of-policing.ensures)

pub returns : goal.returns
returns g c = (c.in_ok-relay.ensures.0 ∙ ap (λ (b : Bool). fresh_state true b c.args.cleared) c.keeps_lists.ensures, c.in_ok-relay.ensures.1)
