use Rattle.std.proofs.Common.{◌≡◌, ◌<◌, length, drop, true, false, refl, arith, sym, ap, ◌∙◌}
use Rattle.afdx_following.specs.Watched.{Watched, can_tell, counted, with_fate}
use Rattle.afdx_following.proofs.Changing.{item_there}
use Rattle.afdx_following.proofs.Deciding.{first_and_rest, told_as}
use Rattle.afdx_following.proofs.watched.Watched.decide_next.Goals as goal

pub returns-clause-more : goal.returns-clause-more
returns-clause-more g c =
    let i = c.self.inside in
    let f : Watched = record {
      account = i.account;
      tolerance = i.tolerance;
      levels = i.levels;
      undecided = i.undecided.items;
      outputs = i.outputs.items;
      unsure = i.unsure;
      latest = i.latest;
      failed = false;
    } in
    let n = c.in-Some.frame.now in
    let ns = drop 1 f.undecided in
    let some = c.in-Some.ensures.variant.0 refl in
    let lt : 0 < length f.undecided = omega (arith, some, i.undecided.ok.0) in
    let us = first_and_rest f.undecided n (item_there f.undecided 0 n lt c.in-Some.ensures.lookup) in
    let now = c.args.self.now in
    let passes = c.fate-passes.result in
    let o = c.outlook-outlook.result in
    let unsure = c.counted-self-inside.result in
    let waits = sym (ap (λ (x : Watched). x.undecided) c.self.view_is) ∙ us in
    let told : can_tell c.args.at now.outputs n o ≡ true = sym c.can_tell.ensures ∙ c.if-not-can_tell.false in
    told_as c.args.at now n ns passes o unsure c.decide.new.self waits c.outlook-outlook.ensures.outlook told c.fate-passes.ensures
    (c.counted-self-inside.ensures ∙ ap (λ (x : Watched). counted o x.unsure) c.self.view_is)
    (c.in_ok-decide.ensures n ns us ∙ ap (λ (x : Watched). with_fate n passes (record x { undecided = ns; unsure = unsure })) c.self.view_is)
