use Rattle.std.proofs.Common.{◌≡◌, ◌+◌, List, length, slice_get, Some, ap, sym, ◌∙◌, arith, inl, inr}
use Rattle.std.proofs.lemmas.Bool.{cases_lt}
use Rattle.std.proofs.lemmas.Option.{slice_get-get_or}
use Rattle.afdx_wiring.specs.declared.layout.Wire.{Wire}
use Rattle.afdx_wiring.specs.File.{Layout, is_end}
use Rattle.afdx_origins.specs.Inner.Known.{IsNotCarried}
use Rattle.afdx_origins.proofs.Coming.{keep_same, keep_on}
use Rattle.afdx_origins.proofs.Found.{of_error}
use Rattle.afdx_origins.proofs.Telling.{found_is, stay_same, stay_on, come_still, come_next}
use Rattle.afdx_origins.proofs.origins.carry.Goals as goal

pub loop-wire-init : goal.loop-wire-init
loop-wire-init c = record {
  wires = c.as_slice-wire-items.ensures.value ∙ ap (λ (l : Layout). l.wires) (c.behind-network.view_is ∙ c.layout.ensures.layout);
  coming = λ all leaves known. known;
  delays = keep_same c.args.switches.now;
  stay = λ all leaves known. stay_same c.args.network.now all c.args.switches.now;
  come = λ all leaves known k w lt is here first_to. absurd (omega (arith, lt));
}

pub loop-wire-preserved : goal.loop-wire-preserved
loop-wire-preserved c =
    let at = c.loop-wire in
    let was = at.invariant in
    let net = c.args.network.now in
    let link = c.args.link in
    let end = c.args.end in
    let items = c.as_slice-wire-items.result.now in
    let new = c.bring_from.new.switches in
    let more = c.in_ok-bring_from.ensures in
    record {
      wires = was.wires;
      coming = λ all leaves known. more.coming all leaves (was.coming all leaves known);
      delays = keep_on c.args.switches.now at.switches new was.delays more.delays;
      stay = λ all leaves known. stay_on net all c.args.switches.now at.switches new (was.stay all leaves known) (more.told all leaves (was.coming all leaves known)).0;
      come = λ all leaves known k w lt is here first_to.
          let told = more.told all leaves (was.coming all leaves known) in
          elim (cases_lt k at.wire-index) [
            | inl before ↦ come_still net all link w (end + w.delay) at.switches new first_to told.0 (was.come all leaves known k w before is here first_to)
            | inr ge ↦
                let same : k ≡ at.wire-index = omega (arith, lt, ge) in
                come_next net all c.args.from link end items at.wire-index _ new told.1 w
                (ap (slice_get items) (sym same) ∙ ap (λ (ws : List Wire). slice_get ws k) was.wires ∙ is) here first_to
          ];
    }

pub returns-in_err-bring_from-clause-fault : goal.returns-in_err-bring_from-clause-fault
returns-in_err-bring_from-clause-fault c =
    of_error (IsNotCarried c.args.network.now c.args.from c.args.end) c.from_residual.result c.in_err-bring_from.field-0.0 c.from_residual.ensures c.in_err-bring_from.ensures.fault

pub returns-clause-coming : goal.returns-clause-coming
returns-clause-coming c = c.loop-wire.invariant.coming

pub returns-clause-delays : goal.returns-clause-delays
returns-clause-delays c = c.loop-wire.invariant.delays

pub returns-clause-told : goal.returns-clause-told
returns-clause-told c = λ all leaves known.
    let was = c.loop-wire.invariant in
    let wires = c.args.network.now.layout.wires in
    let past = c.loop-wire-test.false in
    let long = ap (λ (ws : List Wire). length ws) was.wires in
    record {
      stay = was.stay all leaves known;
      come = λ w here first_to.
          let found = (found_is (λ (v : Wire). is_end v.to w.to) wires w first_to).0 in
          let lt = found.1 in
          was.come all leaves known found.0 w (omega (arith, lt, past, long)) (slice_get-get_or wires found.0 w lt ∙ ap Some found.2) here first_to;
    }
