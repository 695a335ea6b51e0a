use Rattle.std.proofs.Common.{◌≡◌, ◌≤◌, List, Option, length, sym, ap, subst, ◌∙◌}
use Rattle.std.specs.Prelude.{option_map}
use Rattle.std.proofs.lemmas.Bool.{ltb-false}
use Rattle.std.proofs.lemmas.Option.{slice_get_past}
use Rattle.afdx_following.specs.Output.{Output, left_by}
use Rattle.afdx_following.specs.Watched.{Watched}
use Rattle.afdx_following.proofs.watched.Watched.left_by.Goals as goal

pub returns-in-None-clause-by : goal.returns-in-None-clause-by
returns-in-None-clause-by g c =
    let outputs = c.args.self.now.outputs in
    let same : c.deref.result.now ≡ outputs = c.deref.ensures.value ∙ ap (λ (f : Watched). f.outputs) c.self.view_is in
    let past : length outputs ≤ c.args.place = subst (λ (os : List Output). length os ≤ c.args.place) same (ltb-false c.args.place (length c.deref.result.now) (sym c.in-None.ensures.lookup.0)) in
    sym (ap (λ (o : Option Output). option_map (λ x. left_by c.args.left.now x) o) (slice_get_past outputs c.args.place past))
