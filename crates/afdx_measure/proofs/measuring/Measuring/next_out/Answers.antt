use Rattle.std.proofs.Common.{sym, ap, subst, ◌∙◌}
use Rattle.afdx_core.specs.State.{Run, State, after_handing}
use Rattle.afdx_core.specs.Isolation.{IsRun}
use Rattle.afdx_measure.specs.Inner.Gauged.{AgreesWith}
use Rattle.afdx_measure.specs.Inner.Policed.{KnowsPolicing}
use Rattle.afdx_measure.proofs.Later.{IsNoted, none_of, out_none, out_on, stays_out, knows_on}
use Rattle.afdx_measure.proofs.measuring.Measuring.next_out.Goals as goal

pub invariant_of-self : goal.invariant_of-self
invariant_of-self g c =
    stays_out c.self.inside.relay c.next_out.new.self c.args.port c.next_out.result c.self.inside.gauges c.self.inside.policing
    c.calls_make_runs.ensures.handing (none_of c.self.inside.gauges c.if-is_none.ensures) c.next_out.ensures.ok c.next_out.ensures.err c.self.invariant

pub invariant_of-self-in-Some : goal.invariant_of-self-in-Some
invariant_of-self-in-Some g c =
    let old = c.self.inside.relay in
    let r = old.run in
    let h = c.self.invariant in
    let place = c.in-Some.place in
    let next = c.in-Some.ensures in
    let run_is = out_on old c.next_out-2.new.self c.args.port c.in_ok-out.out place c.in-Some.sent next.0 next.1 c.in_ok-out.ensures.ok in (
      subst (λ (m : Run). AgreesWith m c.note_sent.new.gauges) (sym run_is) (c.note_sent.ensures r (sym (c.table.ensures ∙ ap (λ (m : Run). m.table) run_is)) h.0 next.1),
      subst (λ (m : Run). KnowsPolicing m c.self.inside.policing) (sym run_is) (knows_on r r.latest (after_handing place r).handed r.finished c.self.inside.policing h.1),
      ap (λ (m : Run). m.finished) run_is ∙ h.2,
      subst IsRun (sym run_is) (c.calls_make_runs.ensures.handing r place h.3),
    )

pub invariant_of-self-in_default : goal.invariant_of-self-in_default
invariant_of-self-in_default g c =
    let old = c.self.inside.relay in
    let same = out_none old c.next_out-2.new.self c.args.port c.in_ok-out.out c.in_default.ensures c.in_ok-out.ensures.ok in
    subst (λ (s : State). IsNoted s.run c.self.inside.gauges c.self.inside.policing) (sym same) c.self.invariant
