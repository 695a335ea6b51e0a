use Rattle.std.proofs.Common.{◌≡◌, ◌==◌, List, ap, ◌∙◌}
use Rattle.std.specs.List.{position}
use Rattle.afdx_following.specs.Output.{Output}
use Rattle.afdx_following.specs.Watched.{Watched}
use Rattle.afdx_following.proofs.Changing.{some_within}
use Rattle.afdx_following.proofs.watched.Watched.place_of.Goals as goal

pub returns-clause-place : goal.returns-clause-place
returns-clause-place g c =
    c.place_in.ensures ∙ ap (λ (os : List Output). position (λ o. o.port == c.args.port) os) (c.deref.ensures.value ∙ ap (λ (f : Watched). f.outputs) c.self.view_is)

pub returns-clause-some : goal.returns-clause-some
returns-clause-some g c =
    let place : c.place_in.result ≡ position (λ o. o.port == c.args.port) c.args.self.now.outputs =
    c.place_in.ensures ∙ ap (λ (os : List Output). position (λ o. o.port == c.args.port) os) (c.deref.ensures.value ∙ ap (λ (f : Watched). f.outputs) c.self.view_is) in
    some_within (λ (o : Output). o.port == c.args.port) c.args.self.now.outputs c.place_in.result place
