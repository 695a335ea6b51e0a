use Rattle.std.proofs.Common.{◌≡◌, ℕ, None, ap, sym, ◌∙◌, subst}
use Rattle.afdx_core.specs.declared.step.Row.{Row}
use Rattle.afdx_core.specs.Held.{IsTaken}
use Rattle.afdx_core.specs.Rows.{named}
use Rattle.afdx_core.specs.State.{State, refusal_of}
use Rattle.afdx_core.specs.Inner.Engine.{run_of, state_of}
use Rattle.afdx_core.proofs.Steps.{no_place}
use Rattle.afdx_core.proofs.engine.Engine.arrive.Goals as goal

pub pass_over-requires-clause-unnamed : goal.pass_over-requires-clause-unnamed
pass_over-requires-clause-unnamed g c =
    let verdict = c.judged-row.result.0.verdict in
    ap (λ (s : State). named s.run.table verdict) c.make_log_room.ensures.state ∙ no_place c.args.self.now.table verdict (sym c.judged-row.ensures.place ∙ c.in-None.is)

pub returns-in-Ok-clause-ok : goal.returns-in-Ok-clause-ok
returns-in-Ok-clause-ok g c = (
  subst (λ (row : Row). IsTaken (state_of c.args.self.now) (state_of c.pass_over.new.self) row c.args.arrived c.pass_over.result) c.judged-row.ensures.row
      (subst (λ (old : State). IsTaken old (state_of c.pass_over.new.self) c.judged-row.result.0 c.args.arrived c.pass_over.result) c.make_log_room.ensures.state
      (c.pass_over.ensures.taken c.args.arrived)),
  subst (λ (stamp : ℕ). refusal_of (run_of c.args.self.now) c.args.in_port stamp ≡ None) c.stamp.ensures (sym c.refusal.ensures ∙ c.in_default.is),
)
