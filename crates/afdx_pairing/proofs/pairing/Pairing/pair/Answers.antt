use Rattle.afdx_pairing.proofs.Taking.{pair_rests, pair_tells}
use Rattle.afdx_pairing.proofs.pairing.Pairing.pair.Goals as goal

pub returns-clause-rest : goal.returns-clause-rest
returns-clause-rest g c = pair_rests c.args.self.now c.skip.new.self c.pair_first.new.self c.args.place c.skip.ensures.rest c.pair_first.ensures.rest

pub returns-clause-told : goal.returns-clause-told
returns-clause-told g c =
    pair_tells c.args.events.now.items c.skip.new.events.items _ c.args.self.now c.skip.new.self c.args.place c.args.left.now
    c.skip.ensures.told c.skip.ensures.rest c.pair_first.ensures.told
