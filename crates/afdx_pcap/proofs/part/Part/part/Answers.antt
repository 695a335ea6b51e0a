use Rattle.std.proofs.Common.{sym, ap, ◌∙◌, subst, length, ◌≤◌, drop, take, ◌-◌, ◌+◌}
use Rattle.afdx_pcap.proofs.part.Part.part.Goals as goal
use Rattle.afdx_pcap.proofs.Parts.{part_of}

pub returns : goal.returns
returns g c =
    ap (λ v. take (c.self.inside.start + c.args.end - (c.self.inside.start + c.args.start)) (drop (c.self.inside.start + c.args.start) v.items)) c.in_ok-bytes.ensures.cases
    ∙ part_of c.self.inside.bytes.value.items c.self.inside.start c.self.inside.end c.self.invariant.0 c.self.invariant.1 c.args.start c.args.end c.requires.order
    (subst (λ xs. c.args.end ≤ length xs) (sym c.self.view_is) c.requires.within)
    ∙ ap (λ xs. take (c.args.end - c.args.start) (drop c.args.start xs)) c.self.view_is
