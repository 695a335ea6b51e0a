use Rattle.std.proofs.Common.{◌∙◌, arith}
use Rattle.afdx_port.proofs.Course.{some_waits, some_is}
use Rattle.afdx_port.proofs.line.Line.start.Goals as goal

pub returns : goal.returns
returns g c =
    let q = c.args.self.now.waiting in
    some_is c.from_ns.result _ _ c.from_ns.ensures (omega (arith, c.requires.start)) ∙ some_waits c.args.self.now.ready q.high.items q.low.items (omega (arith, c.requires.waits))
