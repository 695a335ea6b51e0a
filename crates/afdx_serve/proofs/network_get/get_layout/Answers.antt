use Rattle.std.proofs.Common.{◌∙◌, refl, sym, ap, subst}
use Rattle.afdx_wiring.specs.File.{layout_of}
use Rattle.afdx_messages.specs.declared.failure.Failure.{Failure}
use Rattle.afdx_serve.specs.Networks.{FailsToLayout}
use Rattle.afdx_serve.proofs.NetworkLemmas.{of_wiring}
use Rattle.afdx_serve.proofs.network_get.get_layout.Goals as goal

pub returns-clause-got : goal.returns-clause-got
returns-clause-got g c =
    subst (λ (f : Failure). FailsToLayout f (g.F.Folder.files c.args.folder.now) c.args.path.now (g.F.Folder.failed c.args.folder.now) (g.F.Folder.failed c.get.new.folder)) (sym c.from.ensures)
    (of_wiring (λ (f : Failure). FailsToLayout f (g.F.Folder.files c.args.folder.now) c.args.path.now (g.F.Folder.failed c.args.folder.now) (g.F.Folder.failed c.get.new.folder))
    c.in-Err.fault tt (λ no. ((c.in_ok-text.text.items, c.in_ok-text.ensures.got.0, ap layout_of (sym c.deref.ensures.value) ∙ c.in-Err.ensures no), refl, c.in_ok-text.ensures.got.1)))
