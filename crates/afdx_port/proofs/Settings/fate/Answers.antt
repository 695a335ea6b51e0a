use Rattle.std.proofs.Common.{◌+◌, ◌<◌, arith}
use Rattle.afdx_units.specs.Time.{stamp_end}
use Rattle.afdx_port.proofs.Course.{cost_small, some_if}
use Rattle.afdx_port.proofs.Settings.fate.Goals as goal

pub unwrap-end-requires : goal.unwrap-end-requires
unwrap-end-requires c =
    let small = c.requires.small in
    let time = cost_small c.args.self.now.speed c.args.item.size small.1 in
    let within : c.args.at + c.cost.result < stamp_end = omega (
      arith,
      c.cost.ensures,
      time,
      small.0,
      c.ns.ensures.same,
      c.ns-2.ensures.same,
      c.saturating_sub-waited.ensures,
      c.if-waited-self.false,
      c.requires.delay,
    ) in
    some_if c.plus.result _ _ c.plus.ensures within
