use Rattle.std.proofs.Common.{sym, ap, subst, ◌∙◌}
use Rattle.afdx_core.specs.Rows.{row_of}
use Rattle.afdx_core.specs.State.{Run}
use Rattle.afdx_core.specs.Isolation.{IsRun}
use Rattle.afdx_measure.proofs.Later.{arrived_now}
use Rattle.afdx_measure.proofs.measuring.Measuring.arrive.Goals as goal

pub invariant_of-self : goal.invariant_of-self
invariant_of-self g c =
    let old = c.self.inside.relay in
    let h = c.self.invariant in
    let row = row_of old.run.table c.args.in_port c.args.arrived in
    let has = arrived_now c.calls_make_runs.ensures.arrivals old c.arrive.new.self c.args.in_port c.stamp-at.result c.size-size.result c.args.arrived c.in-Ok.step c.in-Ok.ensures.ok.0
    c.in-Ok.ensures.ok.1 h.2 h.3 c.stamp-at.ensures c.size-size.ensures.size in (
      c.note_arrival.ensures old.run row c.size-size.result h.0 has,
      c.note_policing.ensures old.run row h.1 has,
      ap (λ (r : Run). r.finished) has.now_is ∙ h.2,
      subst IsRun (sym has.now_is) has.is_run,
    )
