use Rattle.std.proofs.Common.{◌≡◌, List, sym, ap, ◌∙◌}
use Rattle.std.specs.List.{list_any}
use Rattle.afdx_levels.specs.declared.outlook.Outlook.{Outlook}
use Rattle.afdx_levels.specs.Levels.{fate_told}
use Rattle.afdx_following.specs.Output.{Output, has}
use Rattle.afdx_following.specs.Watched.{Watched}
use Rattle.afdx_following.proofs.watched.Watched.fate.Goals as goal

pub returns-in-Unsure : goal.returns-in-Unsure
returns-in-Unsure g c =
    let n = c.args.frame.now in
    let same : c.deref.result.now ≡ c.args.self.now.outputs = c.deref.ensures.value ∙ ap (λ (f : Watched). f.outputs) c.self.view_is in
    c.is_seen.ensures ∙ ap (λ (os : List Output). list_any (λ o. has n o) os) same
    ∙ ap (λ (o : Outlook). fate_told o (list_any (λ x. has n x) c.args.self.now.outputs)) (sym c.in-Unsure.is)
