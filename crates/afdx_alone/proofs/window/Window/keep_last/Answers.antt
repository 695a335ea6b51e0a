use Rattle.std.proofs.Common.{◌≤◌, length, arith}
use Rattle.afdx_alone.proofs.WindowLemmas.{last_ones}
use Rattle.afdx_alone.proofs.window.Window.keep_last.Goals as goal

pub returns : goal.returns
returns c =
    let w = c.args.self.now in
    let within : w.end ≤ length w.bytes = omega arith in
    last_ones w.bytes w.start w.end c.args.left w.ordered within c.requires
