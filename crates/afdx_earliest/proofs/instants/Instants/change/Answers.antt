use Rattle.std.proofs.Common.{ℕ, ◌<◌, List, set, Option, ap, ◌∙◌, refl}
use Rattle.afdx_earliest.specs.Inner.Groups.{instant_in}
use Rattle.afdx_earliest.proofs.Firsts.{place_within, grouped_set, instants_set}
use Rattle.afdx_earliest.proofs.instants.Instants.change.Goals as goal

pub invariant_of-self : goal.invariant_of-self
invariant_of-self c =
    let d = c.self.inside in
    let inside : c.args.place < d.places = place_within d.places d.numbers _ c.args.place c.self.invariant.long c.self.invariant.few c.self.view_is c.requires in
    grouped_set d.places d.numbers d.leasts d.firsts c.self.invariant c.args.place c.args.number inside _ _ c.first_from-first.ensures

pub returns : goal.returns
returns c =
    let d = c.self.inside in
    let inside : c.args.place < d.places = place_within d.places d.numbers _ c.args.place c.self.invariant.long c.self.invariant.few c.self.view_is c.requires in
    instants_set d.places d.numbers c.args.place c.args.number inside (instant_in c.args.number) refl
    ∙ ap (λ (is : List (Option ℕ)). set is c.args.place (instant_in c.args.number)) c.self.view_is
