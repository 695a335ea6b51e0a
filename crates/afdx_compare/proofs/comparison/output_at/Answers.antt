use Rattle.std.proofs.Common.{◌≡◌, Some, rules}
use Rattle.afdx_table.specs.Content.{port_row}
use Rattle.afdx_compare.proofs.Making.{own_row}
use Rattle.afdx_compare.proofs.comparison.output_at.Goals as goal

pub output_of-requires : goal.output_of-requires
output_of-requires g c =
    let found : port_row c.args.making.now.table.now c.args.port ≡ Some c.in-Some.row.now = search rules in
    own_row c.args.making.now.table.now c.args.port c.in-Some.row.now found
