use Rattle.std.proofs.Common.{rules, ◌≡◌, ℕ, false, map, Option, sym, ap, subst, ◌∙◌}
use Rattle.std.specs.Vec.{with_items}
use Rattle.std.proofs.lemmas.Result.{IfOk-weaker}
use Rattle.afdx_following.specs.Output.{Output, paired_up_to, gone_on}
use Rattle.afdx_following.specs.Watched.{Watched, decided, first_unknown, settled_by}
use Rattle.afdx_following.specs.Inner.InStep.{IsInStep}
use Rattle.afdx_following.proofs.InStep.{settled_in_step}
use Rattle.afdx_following.proofs.Changing.{mapped_back, settled_back, all_settled_made}
use Rattle.afdx_following.proofs.watched.Watched.settle.Goals as goal

pub returns-in-Some-clause-ok : goal.returns-in-Some-clause-ok
returns-in-Some-clause-ok g c =
    let i = c.self.inside in
    let f : Watched = record {
      account = i.account;
      tolerance = i.tolerance;
      levels = i.levels;
      undecided = i.undecided.items;
      outputs = i.outputs.items;
      unsure = i.unsure;
      latest = i.latest;
      failed = false;
    } in
    let decided_is = c.self.view_is ∙ c.in_ok-decide_all.ensures ∙ ap (λ (at : Option ℕ). decided at c.args.self.now.undecided c.args.self.now) c.in-Some.is in
    let unknown : c.first_unknown-unknown.result ≡ first_unknown f.undecided = search rules in
    IfOk-weaker c.go_on_all.result (λ u. c.go_on_all.new.outputs ≡ map (λ (o : Output). gone_on c.in-Some.at o) c.deref_mut-in-Some.result.now)
    (λ u. record f { outputs = (with_items (with_items i.outputs c.pair_all.new.outputs) c.go_on_all.new.outputs).items } ≡ settled_by c.args.at c.args.self.now)
    (λ u is. (settled_back c.in-Some.at c.args.self.now f c.first_unknown-unknown.result i.outputs c.deref_mut.result.now c.pair_all.new.outputs c.deref_mut-in-Some.result.now
    c.go_on_all.new.outputs decided_is unknown c.deref_mut.ensures.value c.in_ok-pair_all.ensures c.deref_mut-in-Some.ensures.value is
    ∙ ap (λ (at : Option ℕ). settled_by at c.args.self.now) (sym c.in-Some.is)))
    c.go_on_all.ensures

pub returns-in-Some-clause-in_step : goal.returns-in-Some-clause-in_step
returns-in-Some-clause-in_step g c =
    let i = c.self.inside in
    let f : Watched = record {
      account = i.account;
      tolerance = i.tolerance;
      levels = i.levels;
      undecided = i.undecided.items;
      outputs = i.outputs.items;
      unsure = i.unsure;
      latest = i.latest;
      failed = false;
    } in
    let decided_is = c.self.view_is ∙ c.in_ok-decide_all.ensures ∙ ap (λ (at : Option ℕ). decided at c.args.self.now.undecided c.args.self.now) c.in-Some.is in
    let unknown : c.first_unknown-unknown.result ≡ first_unknown f.undecided = search rules in
    IfOk-weaker c.go_on_all.result (λ u. c.go_on_all.new.outputs ≡ map (λ (o : Output). gone_on c.in-Some.at o) c.deref_mut-in-Some.result.now)
    (λ u. IsInStep (record f { outputs = (with_items (with_items i.outputs c.pair_all.new.outputs) c.go_on_all.new.outputs).items }))
    (λ u is. subst (λ (x : Watched). IsInStep x) (sym (settled_back c.in-Some.at c.args.self.now f c.first_unknown-unknown.result i.outputs c.deref_mut.result.now c.pair_all.new.outputs
    c.deref_mut-in-Some.result.now
    c.go_on_all.new.outputs decided_is unknown c.deref_mut.ensures.value c.in_ok-pair_all.ensures c.deref_mut-in-Some.ensures.value is
    ∙ ap (λ (at : Option ℕ). settled_by at c.args.self.now) (sym c.in-Some.is))) (settled_in_step c.args.at c.args.self.now c.requires))
    c.go_on_all.ensures

pub returns-in-None-clause-ok : goal.returns-in-None-clause-ok
returns-in-None-clause-ok g c =
    let i = c.self.inside in
    let f : Watched = record {
      account = i.account;
      tolerance = i.tolerance;
      levels = i.levels;
      undecided = i.undecided.items;
      outputs = i.outputs.items;
      unsure = i.unsure;
      latest = i.latest;
      failed = false;
    } in
    let decided_is = c.self.view_is ∙ c.in_ok-decide_all.ensures ∙ ap (λ (at : Option ℕ). decided at c.args.self.now.undecided c.args.self.now) c.in-None.is in
    let unknown : c.first_unknown-unknown.result ≡ first_unknown f.undecided = search rules in
    (all_settled_made c.args.self.now f c.first_unknown-unknown.result (with_items i.outputs c.pair_all.new.outputs).items decided_is unknown
    (mapped_back i.outputs (λ (o : Output). paired_up_to c.first_unknown-unknown.result o) c.deref_mut.result.now c.pair_all.new.outputs c.deref_mut.ensures.value c.in_ok-pair_all.ensures)
    ∙ ap (λ (at : Option ℕ). settled_by at c.args.self.now) (sym c.in-None.is))

pub returns-in-None-clause-in_step : goal.returns-in-None-clause-in_step
returns-in-None-clause-in_step g c =
    let i = c.self.inside in
    let f : Watched = record {
      account = i.account;
      tolerance = i.tolerance;
      levels = i.levels;
      undecided = i.undecided.items;
      outputs = i.outputs.items;
      unsure = i.unsure;
      latest = i.latest;
      failed = false;
    } in
    let decided_is = c.self.view_is ∙ c.in_ok-decide_all.ensures ∙ ap (λ (at : Option ℕ). decided at c.args.self.now.undecided c.args.self.now) c.in-None.is in
    let unknown : c.first_unknown-unknown.result ≡ first_unknown f.undecided = search rules in
    subst (λ (x : Watched). IsInStep x) (sym (all_settled_made c.args.self.now f c.first_unknown-unknown.result (with_items i.outputs c.pair_all.new.outputs).items decided_is unknown
    (mapped_back i.outputs (λ (o : Output). paired_up_to c.first_unknown-unknown.result o) c.deref_mut.result.now c.pair_all.new.outputs c.deref_mut.ensures.value c.in_ok-pair_all.ensures)
    ∙ ap (λ (at : Option ℕ). settled_by at c.args.self.now) (sym c.in-None.is))) (settled_in_step c.args.at c.args.self.now c.requires)
