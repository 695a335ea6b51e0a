use Rattle.afdx_session.proofs.Carrying.{came_to}
use Rattle.afdx_session.proofs.machine.Machine.advance_to.Goals as goal

pub returns : goal.returns
returns g c =
    came_to c.by_stamp_is_ordered.ensures c.args.self.now c.advance.new.self c.args.instant c.advance.result c.requires.carrying c.requires.all c.requires.instant c.advance.ensures.ok
    c.advance.ensures.err
