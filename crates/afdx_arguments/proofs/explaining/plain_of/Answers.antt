use Rattle.std.proofs.Common.{sym, ◌∙◌}
use Rattle.afdx_arguments.proofs.ExplainingLemmas.{without_flag, with_none, with_both}
use Rattle.afdx_arguments.proofs.explaining.plain_of.Goals as goal

pub returns-then-not-is_explained : goal.returns-then-not-is_explained
returns-then-not-is_explained c = with_none c.args.arguments.now (sym c.is_explained.ensures ∙ c.if-not-is_explained.true)

pub returns-then-is_flag_at : goal.returns-then-is_flag_at
returns-then-is_flag_at c = with_both c.args.arguments.now (sym c.is_flag_at.ensures ∙ c.if-is_flag_at.true)

pub returns : goal.returns
returns c = without_flag c.args.arguments.now (sym c.is_explained.ensures ∙ c.if-not-is_explained.false) (sym c.is_flag_at.ensures ∙ c.if-is_flag_at.false)
