use Rattle.std.proofs.Common.{◌<◌, ◌^◌, arith}
use Rattle.afdx_earliest.proofs.Marks.{taken}
use Rattle.afdx_earliest.proofs.dues.take_first.Goals as goal

pub returns : goal.returns
returns c =
    let fits : c.args.marks.now < 2 ^ 32 = omega arith in
    taken c.args.marks.now c.if-marks-eq0.false fits
