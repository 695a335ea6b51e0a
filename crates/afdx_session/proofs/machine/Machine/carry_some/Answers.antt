use Rattle.std.proofs.Common.{arith, refl, true, ◌∙◌, ap, length, List}
use Rattle.afdx_session.specs.declared.lane.Lane.{Lane}
use Rattle.afdx_session.proofs.FirstHeads.{lanes_few}
use Rattle.std.proofs.lemmas.Bool.{both_ways}
use Rattle.afdx_session.specs.Inner.Lanes.{heads_of}
use Rattle.afdx_session.specs.Inner.Lent.{texts_over, taken_by, left_in}
use Rattle.afdx_session.proofs.Carrying.{over_same_lanes, same_table}
use Rattle.afdx_session.proofs.Rounds.{none_here, same_both}
use Rattle.afdx_session.proofs.machine.Machine.carry_some.Goals as goal

pub loop-init : goal.loop-init
loop-init g c =
    let m = c.args.self.now in
    let same = none_here m.lanes _ c.look_ahead.new.lanes c.deref_mut.ensures.value c.look_ahead.ensures in
    let left = ap (λ (ls : List (Lane _)). left_in ls) same in
    record {
      carrying = over_same_lanes m _ same c.requires;
      same = same_table m.switch;
      texts = ap (λ ls. texts_over ls) same;
      taken = ap (λ ls. taken_by ls) same;
      heads = c.heads_of-heads.ensures ∙ ap (λ (ls : List (Lane _)). heads_of ls) c.deref.ensures.value;
      fewer = omega (arith, left);
    }

pub loop-preserved : goal.loop-preserved
loop-preserved g c =
    let was = c.loop.invariant in
    let on = rw c.if-not-branch.false at c.in_ok-carry_one.ensures.ok in
    let left = was.fewer in
    let fewer = on.fewer refl in
    record {
      carrying = on.carrying;
      same = same_both _ _ _ was.same c.carry_one.ensures.same;
      texts = on.texts ∙ was.texts;
      taken = on.taken ∙ was.taken;
      heads = c.in_ok-carry_one.ensures.heads;
      fewer = omega (arith, left, fewer);
    }

pub returns-clause-ok : goal.returns-clause-ok
returns-clause-ok g c =
    let was = c.loop.invariant in
    let test = c.loop-test.false in
    let left = was.fewer in
    record { carrying = was.carrying; texts = was.texts; taken = was.taken; fewer = λ more. omega (arith, test, left); all = λ none. absurd (both_ways true none refl) }

pub heads_of-heads-requires : goal.heads_of-heads-requires
heads_of-heads-requires g c =
    let few = lanes_few c.args.self.now.switch.run.table c.args.self.now.lanes.items c.requires.of in
    let same = ap (λ (ls : List (Lane _)). length ls) c.deref.ensures.value in
    omega (arith, few, same)
