use Rattle.std.proofs.Common.{rules, ◌≡◌, [], ◌∷◌, ◌++◌, ◌+◌, List, sym, subst, take}
use Rattle.std.specs.List.{AllZip}
use Rattle.afdx_network_check.specs.declared.ways.Way.{Way}
use Rattle.afdx_network_check.specs.Ways.{IsWayOut}
use Rattle.afdx_network_check.proofs.WayLemmas.{way_more}
use Rattle.afdx_network_check.proofs.hops.Hops.ways_out.Goals as goal

pub loop-exit-preserved : goal.loop-exit-preserved
loop-exit-preserved c =
    let grown : c.push.new.self.items ≡ c.loop-exit.ways.items ++ c.in_ok-way_out.field-0 ∷ [] = search rules in
    subst (λ (ways : List Way). AllZip (IsWayOut c.args.self.now) (take (c.loop-exit.exit-index + 1) c.args.exits.now) ways) (sym grown)
    (way_more c.args.self.now c.args.exits.now c.loop-exit.exit-index _ c.loop-exit.ways.items c.in_ok-way_out.field-0 c.loop-exit-test.true c.loop-exit.invariant c.in_ok-way_out.ensures.way)
