use Rattle.afdx_trace.proofs.Counted.{one_more}
use Rattle.afdx_trace.proofs.tracing.count.Goals as goal

pub returns-clause-counted : goal.returns-clause-counted
returns-clause-counted c = λ before counted. one_more before c.args.row.now c.args.records.now c.from.result c.in-Some.number c.told-records c.from.ensures c.in-Some.ensures.1 counted
