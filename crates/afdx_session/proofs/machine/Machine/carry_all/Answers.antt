use Rattle.std.proofs.Common.{arith, refl, sym, true, ◌∙◌}
use Rattle.std.proofs.lemmas.Bool.{both_ways}
use Rattle.afdx_session.proofs.Rounds.{same_both}
use Rattle.afdx_session.proofs.machine.Machine.carry_all.Goals as goal

pub drain_or_keep-requires : goal.drain_or_keep-requires
drain_or_keep-requires g c = let on = rw c.if-branch.true at c.in_ok-carry_some.ensures.ok in on.carrying

pub loop-self-preserved : goal.loop-self-preserved
loop-self-preserved g c =
    let was = c.loop-self.invariant in
    let on = rw c.if-branch.true at c.in_ok-carry_some.ensures.ok in
    let out = c.in_ok-drain_or_keep.ensures.ok in
    record {
      carrying = out.carrying;
      same = same_both _ _ _ (same_both _ _ _ was.same c.carry_some.ensures.same) out.same;
      texts = out.texts ∙ on.texts ∙ was.texts;
      taken = out.taken ∙ on.taken ∙ was.taken;
    }

pub loop-self-smaller : goal.loop-self-smaller
loop-self-smaller g c =
    let on = rw c.if-branch.true at c.in_ok-carry_some.ensures.ok in
    let left = c.in_ok-drain_or_keep.ensures.ok.left in
    let fewer = on.fewer refl in
    omega (arith, left, fewer)

pub returns-clause-ok : goal.returns-clause-ok
returns-clause-ok g c =
    let was = c.loop-self.invariant in
    let on = rw c.if-branch.false at c.in_ok-carry_some.ensures.ok in
    record { carrying = on.carrying; texts = on.texts ∙ was.texts; taken = on.taken ∙ was.taken; fewer = λ more. absurd (both_ways true (sym more) refl); all = on.all }
