use Rattle.afdx_core.proofs.Policed.{policed}
use Rattle.afdx_core.proofs.accounts.police.Goals as goal

pub returns : goal.returns
returns c = policed c.offer.result c.args.row.now c.args.place c.args.accounts.now c.index-accounts-place.result c.offer.new.self c.requires.place c.offer.ensures.since c.offer.ensures.terms
    c.offer.ensures.conforming
