use Rattle.std.proofs.Common.{ℕ, List, length, ap, sym, ◌∙◌}
use Rattle.afdx_port.specs.declared.Offer.{Offer}
use Rattle.afdx_core.proofs.Answered.{length_kept}
use Rattle.afdx_core.proofs.offers.Offers.len.Goals as goal

pub returns : goal.returns
returns c =
    let o = c.self.inside in
    sym (length_kept o.ports o.len o.full c.self.invariant) ∙ ap (λ (os : List (ℕ × Offer)). length os) c.self.view_is
