use Rattle.std.proofs.Common.{◌≡◌, List, ◌++◌, ap, ◌∙◌}
use Rattle.std.proofs.lemmas.Result.{IfOk-weaker}
use Rattle.afdx_pairing.specs.declared.event.Event.{Event}
use Rattle.afdx_pairing.specs.Pairing.{left_told}
use Rattle.afdx_pairing.specs.Kept.{Left}
use Rattle.afdx_following.specs.Output.{Output, with_told, with_sight}
use Rattle.afdx_following.proofs.Paired.{sight_made}
use Rattle.afdx_following.proofs.output.Output.pair_one.Goals as goal

pub returns : goal.returns
returns g c =
    let i = c.self.inside in
    let o : Output = record { port = i.port; limits = i.limits; pairing = i.pairing; waiting = i.waiting; found = i.found } in
    let new : Output = record o { pairing = c.left.new.self; found = c.take.new.self } in
    let told = c.in_ok-left.ensures.told ∙ ap (λ (events : List Event). events ++ left_told i.pairing c.args.left) c.self.invariant in
    IfOk-weaker c.take.result (λ u. c.take.new.self ≡ with_told c.left.new.events.items i.found) (λ u. new ≡ with_sight (Left c.args.left) c.args.self.now)
    (λ u is. sight_made o c.args.left c.left.new.self c.take.new.self c.left.new.events.items c.in_ok-left.ensures.ok told is
    ∙ ap (λ (x : Output). with_sight (Left c.args.left) x) c.self.view_is)
    c.take.ensures.ok
