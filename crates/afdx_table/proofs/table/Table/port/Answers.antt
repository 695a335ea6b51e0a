use Rattle.std.proofs.Common.{nat_eq}
use Rattle.afdx_table.specs.WellFormed.{IsPort}
use Rattle.afdx_table.proofs.Members.{all-find, through_copied}
use Rattle.afdx_table.proofs.table.Table.port.Goals as goal

pub returns-clause-limits : goal.returns-clause-limits
returns-clause-limits c =
    through_copied IsPort c.port_of.result _ (rw c.deref.ensures.value at c.port_of.ensures)
    (all-find IsPort (λ p. nat_eq p.id c.args.id) c.self.inside.ports.items c.self.invariant.ports)
