use Rattle.std.proofs.Common.{◌≤◌, false, sym, ap, subst, ◌∙◌}
use Rattle.std.proofs.lemmas.Result.{IfOk-equal}
use Rattle.afdx_following.specs.Watched.{Watched, Fits, with_own}
use Rattle.afdx_following.specs.Inner.InStep.{IsInStep}
use Rattle.afdx_following.proofs.Changing.{own_made, own_made_in_step}
use Rattle.afdx_following.proofs.watched.Watched.came.Goals as goal

pub settle-requires : goal.settle-requires
settle-requires g c =
    let i = c.self.inside in
    let f : Watched = record {
      account = i.account;
      tolerance = i.tolerance;
      levels = i.levels;
      undecided = i.undecided.items;
      outputs = i.outputs.items;
      unsure = i.unsure;
      latest = i.latest;
      failed = false;
    } in
    own_made_in_step f c.args.frame c.push_back.new.self.items c.from-at.result c.in_ok-push_back.ensures.items (c.from-at.ensures ∙ c.ns.ensures.same ∙ c.stamp.ensures)
    (subst (λ (x : Watched). IsInStep x) (sym c.self.view_is) c.requires.in_step)
    (subst (λ (x : Watched). x.latest ≤ c.args.frame.frame.stamp) (sym c.self.view_is) c.requires.in_order)
    (subst (λ (x : Watched). Fits x.account c.args.frame) (sym c.self.view_is) c.requires.fits)

pub returns-clause-ok : goal.returns-clause-ok
returns-clause-ok g c =
    let i = c.self.inside in
    let f : Watched = record {
      account = i.account;
      tolerance = i.tolerance;
      levels = i.levels;
      undecided = i.undecided.items;
      outputs = i.outputs.items;
      unsure = i.unsure;
      latest = i.latest;
      failed = false;
    } in
    IfOk-equal c.settle.result _ _ _ c.settle.ensures.ok
    (own_made f c.args.frame c.push_back.new.self.items c.from-at.result c.in_ok-push_back.ensures.items (c.from-at.ensures ∙ c.ns.ensures.same ∙ c.stamp.ensures)
    ∙ ap (λ (y : Watched). with_own c.args.frame y) c.self.view_is)
