use Rattle.std.proofs.Common.{sym, ap, ◌∙◌}
use Rattle.std.specs.Option.{option_copied}
use Rattle.afdx_table.proofs.LinkLemmas.{found, not_found}
use Rattle.afdx_table.proofs.link_map.LinkMap.get.Goals as goal

pub returns : goal.returns
returns c = c.at.ensures ∙ found c.args.id c.args.self.now c.in_ok-place.place (sym c.in_ok-place.was ∙ c.place.ensures)

pub returns-in_err-place : goal.returns-in_err-place
returns-in_err-place c = ap option_copied c.from_residual.ensures ∙ not_found c.args.id c.args.self.now (sym c.in_err-place.was ∙ c.place.ensures)
