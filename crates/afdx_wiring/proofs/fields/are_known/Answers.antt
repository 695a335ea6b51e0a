use Rattle.std.proofs.Common.{◌∙◌}
use Rattle.afdx_wiring.proofs.ArrayLemmas.{are_known-keys}
use Rattle.afdx_wiring.proofs.fields.are_known.Goals as goal

pub returns : goal.returns
returns c = c.are_keys_known.ensures ∙ are_known-keys c.args.keys.now c.args.table.now.entries
