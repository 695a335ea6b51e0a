use Rattle.std.proofs.Common.{refl}
use Rattle.afdx_session.proofs.Lending.{lends_first}
use Rattle.afdx_session.proofs.lane.Lane.lend.Goals as goal

pub returns-clause-ok : goal.returns-clause-ok
returns-clause-ok g c = lends_first c.in_ok-draw.field-0 c.args.self.now _ c.draw.new.self c.args.text.now c.requires.fresh c.over.ensures refl refl refl c.draw.ensures.read_on
    c.in_ok-draw.ensures.ok
