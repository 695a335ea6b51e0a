use Rattle.std.proofs.Common.{◌≤◌, List, length, arith, refl, ap, sym, subst, ◌∙◌, inl, inr, below_more}
use Rattle.std.proofs.lemmas.Bool.{cases_lt}
use Rattle.afdx_table.specs.declared.rows.PortRow.{PortRow}
use Rattle.afdx_table.specs.WellFormed.{IsWellFormed}
use Rattle.afdx_measure.proofs.Asked.{none_here, none_past, some_left}
use Rattle.afdx_measure.proofs.measuring.all_handed_out.Goals as goal

pub loop-port-preserved : goal.loop-port-preserved
loop-port-preserved g c =
    let formed = subst IsWellFormed c.table.ensures c.ports-port-items.ensures.well_formed in
    let here = none_here c.ports_are_distinct.ensures c.args.relayed.now.run c.ports-port-items.result.now c.loop-port.port-index _ c.next_sent.result
    c.loop-port.invariant.0 formed c.loop-port-test.true c.next_sent.ensures (sym c.is_some.ensures ∙ c.if-is_some.false) in
    (c.loop-port.invariant.0, below_more _ _ c.loop-port.invariant.1 here)

pub returns : goal.returns
returns g c = (
  λ all place. elim (cases_lt place c.loop-port.port-index) [
    | inl lt ↦ c.loop-port.invariant.1 place lt
    | inr le ↦
        let past : length c.args.relayed.now.run.table.ports ≤ place = omega (arith, le, c.loop-port-test.false, ap (λ (ps : List PortRow). length ps) c.loop-port.invariant.0) in
        none_past c.args.relayed.now.run place past
  ],
  λ all. refl,
)

pub returns-then-is_some : goal.returns-then-is_some
returns-then-is_some g c = (
  λ is. absurd (let never = is in (cc)),
  λ all. absurd (some_left c.args.relayed.now.run _ c.next_sent.result c.next_sent.ensures (sym c.is_some.ensures ∙ c.if-is_some.true) all),
)
