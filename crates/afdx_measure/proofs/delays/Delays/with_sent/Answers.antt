use Rattle.std.proofs.Common.{◌≡◌, ℕ, [], ◌∷◌, ◌++◌, IfOk, subst}
use Rattle.afdx_measure.specs.Delays.{summary_of}
use Rattle.afdx_measure.proofs.delays.Delays.with_sent.Goals as goal

pub returns : goal.returns
returns c = λ ns is.
    subst (λ (delay : ℕ). IfOk c.with.result (λ d. d ≡ summary_of (ns ++ delay ∷ []))) c.delay_of.ensures (c.with.ensures.summary ns is)
