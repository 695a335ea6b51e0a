use Rattle.std.proofs.Common.{refl}
use Rattle.afdx_session.proofs.lane.Lane.settle.Goals as goal

pub returns : goal.returns
returns g c = record {
  port = refl;
  reader = refl;
  last = refl;
  ended = refl;
  waiting = refl;
  out = refl;
  taken = refl;
  undone = refl;
  closed = c.is_closed-self.ensures;
  ready = cc;
}
