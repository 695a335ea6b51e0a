use Rattle.afdx_session.proofs.Boxed.{lanes_boxed}
use Rattle.afdx_session.proofs.Waiting.{is_last}
use Rattle.afdx_session.proofs.session.Session.is_last.Goals as goal

pub returns : goal.returns
returns g c =
    let s = c.self.inside in
    let lanes = lanes_boxed s.machine.value c.deref.result.now c.deref-2.result.now c.deref.ensures c.deref-2.ensures.value in
    is_last s.machine.value s.begun s.failed c.args.self.now c.deref-2.result.now c.args.port c.is_last.result c.self.view_is lanes c.is_last.ensures
