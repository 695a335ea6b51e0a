use Rattle.std.proofs.Common.{sym, subst}
use Rattle.std.specs.Prelude.{AllPairs, ◌≤◌}
use Rattle.afdx_table.specs.Content.{port_row}
use Rattle.afdx_core.specs.Inner.Engine.{run_of}
use Rattle.afdx_core.proofs.Ordered.{admitted_rise}
use Rattle.afdx_core.proofs.switch.Done.admitted.Goals as goal

pub returns-clause-in_order : goal.returns-clause-in_order
returns-clause-in_order g c =
    let e = c.self.inside.engine in
    subst (AllPairs (λ a b. a.stamp ≤ b.stamp)) (sym c.admitted.ensures) (admitted_rise c.admitted_fit_in_order.ensures.order (run_of e) (port_row e.table c.args.port) c.self.invariant.1)
