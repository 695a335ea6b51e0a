use Rattle.std.proofs.Common.{sym, ap, ◌∙◌, subst, length, ◌≤◌, drop}
use Rattle.afdx_pcap.proofs.part.Part.forget.Goals as goal
use Rattle.afdx_pcap.proofs.Parts.{forgotten}

pub returns : goal.returns
returns g c =
    forgotten c.self.inside.bytes.value.items c.self.inside.start c.self.inside.end c.self.invariant.0 c.self.invariant.1 c.args.count
    (subst (λ xs. c.args.count ≤ length xs) (sym c.self.view_is) c.requires)
    ∙ ap (drop c.args.count) c.self.view_is
