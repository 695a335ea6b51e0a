use Rattle.std.proofs.Common.{◌≡◌, ℕ, List, ◌∷◌, false, IsTrue, sym, ap, subst, ◌∙◌}
use Rattle.std.specs.List.{AllByRecursion}
use Rattle.std.specs.Vec.{with_items}
use Rattle.afdx_account.specs.Account.{account_terms}
use Rattle.afdx_levels.specs.Levels.{credited, may_be, after}
use Rattle.afdx_following.specs.Output.{Output, HasComeBy, with_came}
use Rattle.afdx_following.specs.Watched.{Watched, frame_size, levels_at, with_fate}
use Rattle.afdx_following.specs.Inner.InStep.{IsInStep}
use Rattle.afdx_following.proofs.InStep.{held_by}
use Rattle.afdx_following.proofs.Changing.{mapped_back}
use Rattle.afdx_following.proofs.Deciding.{fate_made}
use Rattle.afdx_following.proofs.watched.Watched.decide.Goals as goal

pub learn-requires-clause-may_be : goal.learn-requires-clause-may_be
learn-requires-clause-may_be g c =
    let i = c.self.inside in
    let f : Watched = record {
      account = i.account;
      tolerance = i.tolerance;
      levels = i.levels;
      undecided = i.undecided.items;
      outputs = i.outputs.items;
      unsure = i.unsure;
      latest = i.latest;
      failed = false;
    } in
    let n = c.in-Some.frame in
    let ns = c.pop_front.new.self.items in
    let us : c.args.self.now.undecided ≡ n ∷ ns = sym (ap (λ (x : Watched). x.undecided) c.self.view_is) ∙ c.in-Some.ensures.items in
    let size : c.size-size.result ≡ frame_size n = c.size-size.ensures.size in
    let may = subst (λ (x : Watched). IsTrue (may_be (account_terms x.account) x.tolerance (frame_size n) (levels_at x n) c.args.passes)) (sym c.self.view_is) (c.requires.may_be n ns us) in
    subst (λ (k : ℕ). IsTrue (may_be (account_terms f.account) f.tolerance k (credited (account_terms f.account) f.levels c.stamp.result) c.args.passes)) (sym size)
    (subst (λ (at : ℕ). IsTrue (may_be (account_terms f.account) f.tolerance (frame_size n) (credited (account_terms f.account) f.levels at) c.args.passes)) (sym c.stamp.ensures) may)

pub hand_all-requires : goal.hand_all-requires
hand_all-requires g c =
    let i = c.self.inside in
    let f : Watched = record {
      account = i.account;
      tolerance = i.tolerance;
      levels = i.levels;
      undecided = i.undecided.items;
      outputs = i.outputs.items;
      unsure = i.unsure;
      latest = i.latest;
      failed = false;
    } in
    let n = c.in-Some.frame in
    let kept = subst (λ (x : Watched). IsInStep x) (sym c.self.view_is) c.requires.in_step in
    subst (λ (os : List Output). AllByRecursion (HasComeBy n.frame.stamp) os) (sym c.deref_mut.ensures.value) (held_by f n c.pop_front.new.self.items c.in-Some.ensures.items kept)

pub returns-in_ok-hand_all : goal.returns-in_ok-hand_all
returns-in_ok-hand_all g c = λ n ns us.
    let i = c.self.inside in
    let f : Watched = record {
      account = i.account;
      tolerance = i.tolerance;
      levels = i.levels;
      undecided = i.undecided.items;
      outputs = i.outputs.items;
      unsure = i.unsure;
      latest = i.latest;
      failed = false;
    } in
    let m = c.in-Some.frame in
    let passes = c.args.passes in
    let t = account_terms i.account in
    let size : c.size-size.result ≡ frame_size m = c.size-size.ensures.size in
    let levels : c.learn.new.self ≡ after t f.tolerance (frame_size m) passes (levels_at f m) =
    c.learn.ensures ∙ ap (λ (k : ℕ). after t f.tolerance k passes (credited t f.levels c.stamp.result)) size
    ∙ ap (λ (at : ℕ). after t f.tolerance (frame_size m) passes (credited t f.levels at)) c.stamp.ensures in
    let outputs = mapped_back i.outputs (λ (o : Output). with_came m passes o) c.deref_mut.result.now c.hand_all.new.outputs c.deref_mut.ensures.value c.in_ok-hand_all.ensures in
    fate_made f n m ns c.pop_front.new.self.items passes c.learn.new.self (with_items i.outputs c.hand_all.new.outputs).items c.in-Some.ensures.items
    (ap (λ (x : Watched). x.undecided) c.self.view_is ∙ us) levels outputs
    ∙ ap (λ (x : Watched). with_fate n passes (record x { undecided = ns })) c.self.view_is
