use Rattle.afdx_network.proofs.windows.bring.Goals as goal

pub put-requires-clause-going : goal.put-requires-clause-going
put-requires-clause-going c = c.requires.going c.args.wire.now.to.switch c.index-sites-wire.result c.requires.within
