use Rattle.std.proofs.Common.{◌<◌, ◌≤◌, sym, subst, ◌∙◌}
use Rattle.std.proofs.lemmas.List.{get_or_default}
use Rattle.afdx_account.specs.declared.account.Account.{Account}
use Rattle.afdx_account.specs.Account.{account_terms, account_since, account_level}
use Rattle.afdx_account.specs.Early.{IsEarlyBy}
use Rattle.afdx_core.proofs.accounts.early_at.Goals as goal

pub early_by-requires-clause-in_order : goal.early_by-requires-clause-in_order
early_by-requires-clause-in_order c =
    subst (λ (a : Account). account_since a ≤ c.args.at) (sym c.index-accounts-place.is) (c.requires.in_order c.index-accounts-place.result)

pub early_by-requires-clause-credited : goal.early_by-requires-clause-credited
early_by-requires-clause-credited c =
    subst (λ (a : Account). 0 < (account_terms a).rate) (sym c.index-accounts-place.is) (c.requires.credited c.index-accounts-place.result)

pub returns : goal.returns
returns c d =
    subst (λ (a : Account). IsEarlyBy (account_terms a) (account_since a) (account_level a (account_since a)) c.args.at c.args.size c.early_by.result)
    (c.index-accounts-place.is ∙ get_or_default c.args.accounts.now c.args.place c.index-accounts-place.result d c.requires.place) c.early_by.ensures.by_windows
