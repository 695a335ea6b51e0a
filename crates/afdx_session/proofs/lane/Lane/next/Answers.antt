use Rattle.std.proofs.Common.{refl, rules}
use Rattle.afdx_session.proofs.lane.Lane.next.Goals as goal

pub returns-in-Ok-clause-err : goal.returns-in-Ok-clause-err
returns-in-Ok-clause-err g c = tt

pub returns-in-Err : goal.returns-in-Err
returns-in-Err g c =
    let answer = rw c.in-Err.is at (rw c.requires at c.next.ensures.answer) in
    record {
      read_on = search rules;
      waiting = refl;
      last = refl;
      ended = refl;
      ok = tt;
      err = (refl, (answer (search rules)).1);
    }
