use Rattle.std.proofs.Common.{◌≡◌, ℕ, ◌∷◌, [], List, Option, Some, Global, length, slice_get, ap, arith}
use Rattle.std.specs.Prelude.{Vec}
use Rattle.std.proofs.lemmas.List.{length-append}
use Rattle.afdx_core.specs.State.{State}
use Rattle.afdx_network_trace.specs.First.{AreFirstNumbers}
use Rattle.afdx_network_trace.proofs.Walking.{each_pushed, one_switch, have_numbers}
use Rattle.afdx_network_trace.proofs.numbering.Search.at_all.Goals as goal

pub loop-switch-preserved : goal.loop-switch-preserved
loop-switch-preserved c =
    let at = c.loop-switch in
    let net = c.args.self.now.network.now in
    let runs = c.args.self.now.dones.now in
    let own = c.in_ok-at_switch.field-0 in
    let grown = c.in_ok-push.ensures.items in
    let count = ap (λ (xs : List (Vec (Option ℕ) Global)). length xs) grown in
    let long = length-append at.all.items (own ∷ []) in
    let many = at.invariant.many in
    record {
      many = omega (arith, count, long, many);
      each = each_pushed (λ (k : ℕ) (v : Vec (Option ℕ) Global). (s : State) → slice_get runs k ≡ Some s → AreFirstNumbers net runs k s.run.rows v.items) at.all.items c.push.new.self.items own grown
          at.invariant.each
          (λ s there. one_switch net runs (length at.all.items) at.switch c.index-dones-switch.result s c.rows-rows.result.now own.items many c.index-dones-switch.is c.rows-rows.ensures.rows there
          c.in_ok-at_switch.ensures);
    }

pub returns : goal.returns
returns c =
    let s = c.args.self.now in
    let at = c.loop-switch in
    let past = c.loop-switch-test.false in
    let many = at.invariant.many in
    let end = at.auto.switch-end in
    have_numbers s.network.now s.dones.now at.all.items (omega (arith, past, many, end)) at.invariant.each
