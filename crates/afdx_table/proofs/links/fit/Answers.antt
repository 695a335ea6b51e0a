use Rattle.std.proofs.Common.{◌≤◌, ◌∙◌, [], length, sym, arith}
use Rattle.std.specs.List.{IsDistinct}
use Rattle.afdx_table.specs.WellFormed.{AreTargets}
use Rattle.afdx_table.proofs.LinksFormed.{targets-formed}
use Rattle.afdx_table.proofs.FewTargets.{few_targets}
use Rattle.afdx_table.proofs.links.fit.Goals as goal

-- ports that pass the test are no more than the table has
pub unreachable-requires : goal.unreachable-requires
unfolding IsDistinct
unreachable-requires c =
    let ports = c.args.ports.now in
    let none_yet : AreTargets ports c.row.inside.from [] = record { are_ports = tt; are_others = tt; once = tt } in
    let are = targets-formed c.args.at ports c.row.inside.from [] c.args.to.now none_yet (sym c.check_targets.ensures ∙ c.in_ok-check_targets.was) in
    let few : length c.args.to.now ≤ 24 = few_targets ports c.row.inside.from c.args.to.now are c.requires.few in
    let many = c.in_default.ensures in
    absurd (omega (arith, few, many))
