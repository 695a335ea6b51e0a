use Rattle.std.proofs.Common.{List, sym, subst}
use Rattle.afdx_table.specs.Link.{Link}
use Rattle.afdx_table.specs.WellFormed.{IsWellFormed}
use Rattle.afdx_table.proofs.JitterLemmas.{still_formed}
use Rattle.afdx_table.proofs.table.Table.set_jitter.Goals as goal

pub invariant_of-self : goal.invariant_of-self
invariant_of-self c = subst
    (λ (links : List Link). IsWellFormed (record { constant = c.self.inside.constant; latency = c.self.inside.latency; ports = c.self.inside.ports.items; links = links }))
    (sym c.set_jitter.ensures)
    (still_formed _ c.args.index c.args.jitter c.requires.limit c.self.invariant)
