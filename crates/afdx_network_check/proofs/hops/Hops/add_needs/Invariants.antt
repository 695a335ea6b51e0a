use Rattle.std.proofs.Common.{◌≡◌, ◌++◌, drop, map}
use Rattle.afdx_table.specs.Link.{Link}
use Rattle.afdx_network_check.specs.Needs.{need_in}
use Rattle.afdx_network_check.proofs.hops.Hops.add_needs.Given as goal

abbrev pub invariant-loop-index : goal.invariant-loop-index
invariant-loop-index l =
    l.needs.items ++ map (λ (k : Link). need_in l.start l.self (record { switch = l.switch; link = k })) (drop l.index l.table.links)
    ≡ l.initial.needs.items ++ map (λ (k : Link). need_in l.start l.self (record { switch = l.switch; link = k })) l.table.links
