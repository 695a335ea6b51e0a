use Rattle.std.proofs.Common.{◌≡◌, ℕ, List, Option, sym, ap, ◌∙◌}
use Rattle.std.specs.List.{list_all}
use Rattle.afdx_levels.specs.declared.outlook.Outlook.{Outlook}
use Rattle.afdx_levels.specs.declared.outlook.Outlook.TheVariants.{Unsure}
use Rattle.afdx_following.specs.Output.{Output, is_over}
use Rattle.afdx_following.specs.Watched.{Watched, can_tell}
use Rattle.afdx_following.proofs.watched.Watched.can_tell.Goals as goal

pub returns-in-Some : goal.returns-in-Some
returns-in-Some g c =
    let n = c.args.frame.now in
    let outputs = c.args.self.now.outputs in
    let same : c.deref.result.now ≡ outputs = c.deref.ensures.value ∙ ap (λ (f : Watched). f.outputs) c.self.view_is in
    c.are_over.ensures ∙ ap (λ (os : List Output). list_all (λ o. is_over c.in-Some.at n o) os) same
    ∙ ap (λ (at : Option ℕ). can_tell at outputs n Unsure) (sym c.in-Some.is) ∙ ap (λ (o : Outlook). can_tell c.args.at outputs n o) (sym c.in-Unsure.is)
