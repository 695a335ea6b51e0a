use Rattle.std.proofs.Common.{rules, ◌≡◌, Some, sym, subst}
use Rattle.std.specs.Prelude.{IsSome}
use Rattle.afdx_wiring.specs.declared.layout.End.{End}
use Rattle.afdx_network_check.specs.Order.{row_of, row_before, hop_on}
use Rattle.afdx_network_check.specs.Ways.{line_of}
use Rattle.afdx_network_check.proofs.hops.Hops.way_out.Goals as goal

pub lengthen-requires-clause-hop : goal.lengthen-requires-clause-hop
lengthen-requires-clause-hop c =
    let found : row_before c.args.self.now c.args.exit.link (line_of c.args.exit) ≡ Some (row_of c.unwrap-row.result) = search rules in
    subst (λ (e : End). IsSome (hop_on c.args.self.now (row_of c.unwrap-row.result) e.port 0)) (sym c.end-end.ensures)
    (c.requires.hops c.args.exit.link (line_of c.args.exit) (row_of c.unwrap-row.result) found)
