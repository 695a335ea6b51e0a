use Rattle.std.proofs.Common.{sym, ◌∙◌}
use Rattle.afdx_session.proofs.Boxed.{lanes_boxed}
use Rattle.afdx_session.proofs.Waiting.{waits_for, waits_for_none}
use Rattle.afdx_session.proofs.session.Session.waits_for.Goals as goal

pub returns-in-Some-clause-some : goal.returns-in-Some-clause-some
returns-in-Some-clause-some g c =
    let s = c.self.inside in
    let lanes = lanes_boxed s.machine.value c.deref.result.now c.deref-2.result.now c.deref.ensures c.deref-2.ensures.value in
    waits_for s.machine.value s.begun s.failed c.args.self.now c.deref-2.result.now _ c.in-Some.port c.self.view_is c.if-self.false c.self.invariant lanes (sym c.limit_of.ensures ∙ c.in-Some.is)

pub returns-in-None-clause-none : goal.returns-in-None-clause-none
returns-in-None-clause-none g c =
    let s = c.self.inside in
    let lanes = lanes_boxed s.machine.value c.deref.result.now c.deref-2.result.now c.deref.ensures c.deref-2.ensures.value in
    waits_for_none s.machine.value s.begun s.failed c.args.self.now c.deref-2.result.now c.self.view_is c.if-self.false c.self.invariant lanes (sym c.limit_of.ensures ∙ c.in-None.is)
