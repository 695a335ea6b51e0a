use Rattle.std.proofs.Common.{◌≡◌, ◌∙◌}
use Rattle.std.proofs.lemmas.Option.{IfSome_then}
use Rattle.afdx_core.specs.State.{State}
use Rattle.afdx_measure.proofs.measuring.Measured.into_measures.Goals as goal

pub returns : goal.returns
returns g c =
    IfSome_then c.measures_of.result {P = λ (m : State). m ≡ c.self.inside.relayed} {Q = λ (m : State). m ≡ c.args.self} c.measures_of.ensures.some (λ m is. is ∙ c.self.view_is)
