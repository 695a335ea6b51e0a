use Rattle.std.proofs.Common.{arith}
use Rattle.afdx_table.proofs.PlaceLemmas.{filled}
use Rattle.afdx_table.proofs.link_map.fill.Goals as goal

pub returns-in_ok-resize-clause-same : goal.returns-in_ok-resize-clause-same
returns-in_ok-resize-clause-same c = filled c.args.places.now.items c.resize.new.self.items 65536 _ (omega (arith, c.if-len-lt-LINK_NUMBERS.true, c.len.ensures)) c.in_ok-resize.ensures.items
