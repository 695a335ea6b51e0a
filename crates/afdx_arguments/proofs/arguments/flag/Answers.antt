use Rattle.std.proofs.Common.{ap, codes, false, Option, ◌∙◌}
use Rattle.std.specs.Option.{option_map_or}
use Rattle.std.specs.Str.{bytes_eq}
use Rattle.clap.specs.Words.{Text}
use Rattle.afdx_arguments.proofs.arguments.flag.Goals as goal

pub returns-in-Some : goal.returns-in-Some
returns-in-Some c = c.eq.ensures ∙ ap (λ (o : Option Text). option_map_or (λ t. bytes_eq t (codes "true")) o false) c.in-Some.ensures
