use Rattle.std.proofs.Common.{ap, sym, ◌∙◌}
use Rattle.std.specs.Prelude.{None, set}
use Rattle.std.proofs.lemmas.List.{set-get_or}
use Rattle.afdx_core.proofs.output_port.note_due.Goals as goal

pub returns-in-Full : goal.returns-in-Full
returns-in-Full c = sym (set-get_or c.args.dues.now c.args.place None) ∙ ap (set c.args.dues.now c.args.place) (c.requires.full None c.in-Full.is)
