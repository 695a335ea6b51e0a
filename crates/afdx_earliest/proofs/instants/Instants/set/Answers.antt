use Rattle.std.proofs.Common.{ℕ, ◌<◌, List, set, Option, ap, sym, ◌∙◌}
use Rattle.afdx_earliest.proofs.Firsts.{place_within, instants_same}
use Rattle.afdx_earliest.proofs.instants.Instants.set.Goals as goal

pub returns-else-numbers-place : goal.returns-else-numbers-place
returns-else-numbers-place c =
    let d = c.self.inside in
    let inside : c.args.place < d.places = place_within d.places d.numbers _ c.args.place c.self.invariant.long c.self.invariant.few c.self.view_is c.requires in
    sym c.self.view_is
    ∙ instants_same d.places d.numbers c.args.place c.number_for-number.result inside c.args.instant c.number_for-number.ensures.instant c.if-numbers-place.false
    ∙ ap (λ (is : List (Option ℕ)). set is c.args.place c.args.instant) c.self.view_is
