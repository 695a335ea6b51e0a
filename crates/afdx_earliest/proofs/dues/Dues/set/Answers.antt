use Rattle.std.proofs.Common.{ℕ, ◌<◌, List, set, Option, ap, ◌∙◌}
use Rattle.afdx_earliest.proofs.Firsts.{place_within, instants_set}
use Rattle.afdx_earliest.proofs.Marks.{kept_set}
use Rattle.afdx_earliest.proofs.dues.Dues.set.Goals as goal

pub invariant_of-self : goal.invariant_of-self
invariant_of-self c =
    let d = c.self.inside in
    let kept = c.self.invariant in
    let inside : c.args.place < d.places = place_within d.places d.numbers _ c.args.place kept.long kept.few c.self.view_is c.requires in
    kept_set d.places d.numbers kept c.args.place c.number_for.result inside c.number_for.ensures.none

pub returns : goal.returns
returns c =
    let d = c.self.inside in
    let kept = c.self.invariant in
    let inside : c.args.place < d.places = place_within d.places d.numbers _ c.args.place kept.long kept.few c.self.view_is c.requires in
    instants_set d.places d.numbers c.args.place c.number_for.result inside c.args.instant c.number_for.ensures.instant
    ∙ ap (λ (is : List (Option ℕ)). set is c.args.place c.args.instant) c.self.view_is
