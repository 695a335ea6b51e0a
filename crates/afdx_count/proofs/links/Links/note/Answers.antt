use Rattle.std.proofs.Common.{ap, ◌∙◌, sym, map}
use Rattle.afdx_core.specs.declared.step.Fate.{Fate}
use Rattle.afdx_count.specs.Tally.{noted_link}
use Rattle.afdx_count.proofs.Notes.{filtered}
use Rattle.afdx_count.proofs.links.Links.note.Goals as goal

pub returns-in-Filtered-clause-links : goal.returns-in-Filtered-clause-links
returns-in-Filtered-clause-links g c = filtered c.in-Filtered.field-0 c.args.self.now ∙ ap (λ (f : Fate). map (noted_link f) c.args.self.now) (sym c.in-Filtered.is)
