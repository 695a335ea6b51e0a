use Rattle.std.proofs.Common.{refl, rules}
use Rattle.afdx_session.proofs.lane.Lane.new.Goals as goal

pub returns : goal.returns
returns g c = record {
  port_is = refl;
  reader = search rules;
  last = refl;
  ended = refl;
  waiting = search rules;
  out = search rules;
  undone = refl;
  closed = refl;
  ready = refl;
  taken = refl;
}
