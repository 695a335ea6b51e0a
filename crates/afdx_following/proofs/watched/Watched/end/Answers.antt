use Rattle.std.proofs.Common.{◌≡◌, false, List, map, sym, subst, ◌∙◌}
use Rattle.std.specs.Vec.{with_items}
use Rattle.std.proofs.lemmas.Result.{IfOk-weaker}
use Rattle.afdx_following.specs.Output.{Output, with_end}
use Rattle.afdx_following.specs.Watched.{Watched, with_ends}
use Rattle.afdx_following.specs.Inner.InStep.{IsInStep}
use Rattle.afdx_following.proofs.InStep.{ends_in_step}
use Rattle.afdx_following.proofs.Changing.{mapped_back, ends_made}
use Rattle.afdx_following.proofs.watched.Watched.end.Goals as goal

pub returns-clause-ok : goal.returns-clause-ok
returns-clause-ok g c =
    let i = c.self.inside in
    let f : Watched = record {
      account = i.account;
      tolerance = i.tolerance;
      levels = i.levels;
      undecided = i.undecided.items;
      outputs = i.outputs.items;
      unsure = i.unsure;
      latest = i.latest;
      failed = false;
    } in
    let ended = (with_items i.outputs c.end_all.new.outputs).items in
    IfOk-weaker c.end_all.result (λ u. c.end_all.new.outputs ≡ map (λ (o : Output). with_end c.args.last o) c.deref_mut.result.now)
    (λ u. record f { outputs = ended } ≡ with_ends c.args.last c.args.self.now)
    (λ u is. ends_made c.args.last c.args.self.now f ended (c.self.view_is ∙ c.in_ok-settle.ensures.ok)
    (mapped_back i.outputs (λ (o : Output). with_end c.args.last o) c.deref_mut.result.now c.end_all.new.outputs c.deref_mut.ensures.value is))
    c.end_all.ensures

pub returns-clause-in_step : goal.returns-clause-in_step
returns-clause-in_step g c =
    let i = c.self.inside in
    let f : Watched = record {
      account = i.account;
      tolerance = i.tolerance;
      levels = i.levels;
      undecided = i.undecided.items;
      outputs = i.outputs.items;
      unsure = i.unsure;
      latest = i.latest;
      failed = false;
    } in
    let ended = (with_items i.outputs c.end_all.new.outputs).items in
    let kept = subst (λ (x : Watched). IsInStep x) (sym c.self.view_is) c.in_ok-settle.ensures.in_step in
    IfOk-weaker c.end_all.result (λ u. c.end_all.new.outputs ≡ map (λ (o : Output). with_end c.args.last o) c.deref_mut.result.now) (λ u. IsInStep (record f { outputs = ended }))
    (λ u is. subst (λ (os : List Output). IsInStep (record f { outputs = os }))
    (sym (mapped_back i.outputs (λ (o : Output). with_end c.args.last o) c.deref_mut.result.now c.end_all.new.outputs c.deref_mut.ensures.value is)) (ends_in_step c.args.last f kept))
    c.end_all.ensures
