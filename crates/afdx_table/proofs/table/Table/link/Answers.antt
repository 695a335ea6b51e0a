use Rattle.std.proofs.Common.{subst, nat_eq}
use Rattle.std.specs.Prelude.{IfSome}
use Rattle.afdx_table.specs.Content.{Content}
use Rattle.afdx_table.specs.Link.{Link}
use Rattle.afdx_table.specs.WellFormed.{IsLink}
use Rattle.afdx_table.proofs.Members.{all-find, through_copied}
use Rattle.afdx_table.proofs.table.Table.link.Goals as goal

pub returns-clause-limits : goal.returns-clause-limits
returns-clause-limits c =
    let P : Link → Type 0 = IsLink c.self.inside.ports.items in
    let found = all-find P (λ l. nat_eq l.id c.args.id) c.self.inside.links c.self.invariant.links in
    subst (λ (t : Content). IfSome c.get.result (λ l. IsLink t.ports l.now)) c.self.view_is (through_copied P c.get.result _ c.get.ensures found)
