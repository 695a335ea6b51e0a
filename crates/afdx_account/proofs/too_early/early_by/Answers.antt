use Rattle.std.proofs.Common.{rules, arith}
use Rattle.afdx_account.proofs.Early.{is_early_by}
use Rattle.afdx_account.proofs.too_early.early_by.Goals as goal

pub returns-clause-by_windows : goal.returns-clause-by_windows
returns-clause-by_windows g c =
    let since = g.M.Meter.since c.args.meter.now in
    is_early_by (g.M.Meter.terms c.args.meter.now) since (g.M.Meter.level c.args.meter.now since) c.args.at c.args.size
    (g.M.Meter.level c.args.meter.now c.args.at) c.div_ceil.result c.requires.credited c.requires.in_order
    (g.met.M.Meter.credited c.args.meter.now since c.args.at (omega arith) c.requires.in_order) (search rules)
