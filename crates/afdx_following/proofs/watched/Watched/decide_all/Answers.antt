use Rattle.std.proofs.Common.{◌≡◌, Some, sym, ◌∙◌, arith}
use Rattle.std.proofs.lemmas.Bool.{OnTrue_at}
use Rattle.afdx_following.specs.Watched.{first_told}
use Rattle.afdx_following.proofs.Deciding.{decided_next, next_in_step, next_shorter}
use Rattle.afdx_following.proofs.watched.Watched.decide_all.Goals as goal

pub loop-preserved : goal.loop-preserved
loop-preserved g c =
    let at = c.args.at in
    let f = c.loop.self in
    let next = c.decide_next.new.self in
    let first : first_told at f.undecided f ≡ Some next = OnTrue_at c.if-not-branch.false c.in_ok-decide_next.ensures.more in
    let shorter = next_shorter at f.undecided f next first in
    record {
      same = sym (decided_next at f.undecided f next first) ∙ c.loop.invariant.same;
      in_step = next_in_step at f.undecided f next first c.loop.invariant.in_step;
      left = omega (arith, shorter, c.loop.invariant.left);
    }
